-- What stands after the texts were used is what was kept.
use Rattle.std.proofs.Common.{◌≡◌, Contains, ap, subst, ◌∙◌}
use Rattle.group_analysis.specs.Held.{set_of}
use Rattle.group_analysis.specs.Using.{used_texts}
use Rattle.analysis_cache.specs.Keeping.{entry_texts, texts_of}
use Rattle.analysis_cache.proofs.HoldingLemmas.{set-used}
use Rattle.analysis_cache.proofs.kept.Kept.use_all.Goals as goal

pub returns-clause-same : goal.returns-clause-same
returns-clause-same c =
    λ entry there. subst (λ entries. Contains entries entry) (ap (λ kept. kept.entries) c.self.view_is) (c.use_all.ensures.same entry there)

pub returns-clause-set : goal.returns-clause-set
returns-clause-set c =
    let texts = c.args.texts.now in
    let kept = texts_of c.args.self.now in
    let used : entry_texts c.use_all.new.self ≡ used_texts texts kept =
    c.use_all.ensures.texts ∙ ap (λ one. used_texts texts (texts_of one)) c.self.view_is in
    ap (λ list. set_of list) used ∙ set-used texts kept c.requires
