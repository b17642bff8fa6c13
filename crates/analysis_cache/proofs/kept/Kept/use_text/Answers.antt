-- What stands after one text was used is what was kept before it.
use Rattle.std.proofs.Common.{◌≡◌, Contains, ap, subst, ◌∙◌}
use Rattle.group_analysis.specs.Held.{set_of}
use Rattle.group_analysis.specs.Using.{to_front}
use Rattle.analysis_cache.specs.Keeping.{entry_texts, texts_of}
use Rattle.analysis_cache.proofs.HoldingLemmas.{set-front}
use Rattle.analysis_cache.proofs.kept.Kept.use_text.Goals as goal

pub returns-clause-same : goal.returns-clause-same
returns-clause-same c =
    λ entry there. subst (λ entries. Contains entries entry) (ap (λ kept. kept.entries) c.self.view_is) (c.use_text.ensures.same entry there)

pub returns-clause-set : goal.returns-clause-set
returns-clause-set c =
    let texts : entry_texts c.use_text.new.self ≡ to_front c.args.text.now (texts_of c.args.self.now) =
    c.use_text.ensures.texts ∙ ap (λ one. to_front c.args.text.now (texts_of one)) c.self.view_is in
    ap (λ list. set_of list) texts ∙ set-front c.args.text.now (texts_of c.args.self.now) c.requires
