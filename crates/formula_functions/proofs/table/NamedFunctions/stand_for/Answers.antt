-- There are as many functions as before.
use Rattle.std.proofs.Common.{length, sym, ap, ◌∙◌}
use Rattle.formula_functions.specs.Tables.{TableData}
use Rattle.formula_functions.proofs.table.NamedFunctions.stand_for.Goals as goal

pub invariant_of-self : goal.invariant_of-self
invariant_of-self c =
    c.requires ∙ ap (λ (table : TableData). length table.functions) (sym c.self.view_is) ∙ c.self.invariant
