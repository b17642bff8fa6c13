-- Of the texts that were passed the new ones were analysed, are held and are kept.
use Rattle.std.proofs.Common.{◌-◌, length, take}
use Rattle.analysis_cache.specs.Adding.{FillsAll}
use Rattle.analysis_cache.proofs.kept.Kept.fill.Given as goal

abbrev pub invariant-loop-text : goal.invariant-loop-text
invariant-loop-text g l =
    FillsAll l.fn.self l.self (g.A.Analyst.analysed l.fn.analyst) (g.A.Analyst.analysed l.analyst) (g.A.Analyst.held l.fn.analyst)
    (g.A.Analyst.held l.analyst) (take l.text-index l.texts) (length l.self.entries - length l.fn.self.entries)
