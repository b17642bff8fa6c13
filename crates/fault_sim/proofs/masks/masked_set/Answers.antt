use Rattle.std.proofs.Common.{List, ℕ, Some, sym, ap}
use Rattle.std.proofs.lemmas.Bool.{OnTrue_at}
use Rattle.script_lang.specs.declared.command.Command.TheVariants as family
use Rattle.script_lang.specs.declared.command.Give.TheVariants.{Set}
use Rattle.script_lang.specs.declared.value.Value.{Value}
use Rattle.fault_sim.proofs.masks.masked_set.Goals as goal

pub returns-then-spares : goal.returns-then-spares
returns-then-spares c =
    ap (λ (list : List (List ℕ × Value)). Some (family.Give (Set list))) (sym (OnTrue_at c.if-spares.true c.spares.ensures))
