-- The new texts were analysed, and then the present ones put first.
use Rattle.std.proofs.Common.{get_or, ap, ◌∙◌}
use Rattle.group_text.specs.FirstTexts.{is_among}
use Rattle.analysis_cache.specs.Keeping.{texts_of}
use Rattle.analysis_cache.proofs.UseLemmas.{each_present}
use Rattle.analysis_cache.proofs.FillLemmas.{KeepsAll-used}
use Rattle.analysis_cache.proofs.kept.Kept.ensure.Goals as goal

pub returns-clause-ok : goal.returns-clause-ok
returns-clause-ok g c =
    KeepsAll-used c.args.self.now c.fill.new.self (g.A.Analyst.analysed c.args.analyst.now) (g.A.Analyst.analysed c.fill.new.analyst)
    (g.A.Analyst.held c.args.analyst.now) (g.A.Analyst.held c.fill.new.analyst) c.args.texts.now c.in_ok-fresh.fresh c.in_ok-fresh.ensures.ok
    c.put_first.new.self (g.A.Analyst.analysed c.put_first.new.analyst) (g.A.Analyst.held c.put_first.new.analyst)
    c.put_first.ensures.texts c.put_first.ensures.same c.put_first.ensures.bound c.put_first.ensures.analysed c.put_first.ensures.held

pub returns-clause-there : goal.returns-clause-there
returns-clause-there g c =
    let texts = c.args.texts.now in
    let filled = c.fill.new.self in
    λ k d inside. ap (λ some. is_among some (get_or texts k d)) c.put_first.ensures.texts ∙ each_present filled.bound texts (texts_of filled) k d inside
