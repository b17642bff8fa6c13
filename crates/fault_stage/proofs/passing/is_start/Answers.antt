-- It began in this state if that is its own.
use Rattle.std.proofs.Common.{sym, ◌∙◌}
use Rattle.std.proofs.lemmas.Bool.{OnTrue_at, OnTrue_from}
use Rattle.fault_stage.proofs.passing.is_start.Goals as goal

pub returns-clause-start : goal.returns-clause-start
returns-clause-start c = OnTrue_from c.are_same.result _ (λ set. sym c.deref.ensures.value ∙ OnTrue_at set c.are_same.ensures)
