-- A stage that is built stays so.
use Rattle.std.proofs.Common.{sym, subst}
use Rattle.std.specs.Bool.{OnTrue}
use Rattle.std.proofs.lemmas.Bool.{OnTrue_at, OnTrue_from}
use Rattle.fault_stage.specs.declared.held.Held.{Held}
use Rattle.fault_stage.specs.Building.{StaysBuilt}
use Rattle.fault_stage.proofs.building.stays_built.Goals as goal

pub returns-in-Built : goal.returns-in-Built
returns-in-Built c =
    subst (λ (held : Held). OnTrue c.is_again.result (StaysBuilt c.args.large c.args.kept.now held)) (sym c.in-Built.is)
    (OnTrue_from c.is_again.result _ (λ set. (OnTrue_at set c.is_again.ensures.large, OnTrue_at set c.is_again.ensures.unbounded)))
