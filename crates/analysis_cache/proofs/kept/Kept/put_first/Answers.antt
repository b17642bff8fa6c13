-- The texts are moved, and what is past the bound is cut.
use Rattle.std.proofs.Common.{sym, ◌∙◌}
use Rattle.analysis_cache.proofs.kept.Kept.put_first.Goals as goal

pub returns-clause-holds : goal.returns-clause-holds
returns-clause-holds g c = λ holds. c.cut.ensures.holds (holds ∙ sym c.use_all.ensures.set)
