-- As many texts stay as there is room for.
use Rattle.std.proofs.Common.{◌≡◌, Some, take, sym, ap, ◌∙◌}
use Rattle.std.proofs.lemmas.List.{take-map}
use Rattle.group_analysis.specs.Using.{within}
use Rattle.analysis_cache.specs.Keeping.{entry_texts, texts_of}
use Rattle.analysis_cache.proofs.kept.Kept.cut.Goals as goal

pub returns-clause-entries : goal.returns-clause-entries
returns-clause-entries g c =
    let old = c.args.self.now in
    let bound_is : old.bound ≡ Some c.in-Some.bound = sym (ap (λ kept. kept.bound) c.self.view_is) ∙ c.in-Some.is in
    ap entry_texts c.cut_to.ensures.entries
    ∙ sym (take-map _ c.room-room.result old.entries)
    ∙ ap (λ room. take room (texts_of old)) c.room-room.ensures
    ∙ ap (λ most. within most c.args.texts.now (texts_of old)) (sym bound_is)
