-- What is cut is released.
use Rattle.std.proofs.Common.{◌∙◌}
use Rattle.analysis_cache.proofs.HoldingLemmas.{HoldsKept-cut}
use Rattle.analysis_cache.proofs.kept.Kept.cut_to.Goals as goal

pub returns-clause-holds : goal.returns-clause-holds
returns-clause-holds g c = λ holds.
    c.compact.ensures.holds
    ∙ HoldsKept-cut c.args.self.now c.release_past.new.self c.args.room (g.A.Analyst.held c.args.analyst.now)
    (g.A.Analyst.held c.release_past.new.analyst) c.size.ensures.kept c.release_past.ensures.entries c.release_past.ensures.held holds
