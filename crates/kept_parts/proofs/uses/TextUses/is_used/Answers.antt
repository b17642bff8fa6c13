-- The text is used if its count isn't 0.
use Rattle.std.proofs.Common.{◌≡◌, ◌<◌, length, ap, ◌∙◌, arith, nat_lt}
use Rattle.std.specs.Prelude.{slice_get, slice_index}
use Rattle.std.proofs.lemmas.List.{get_or_default}
use Rattle.group_text.specs.FirstTexts.{is_among}
use Rattle.kept_parts.specs.Uses.{UsesData, some_texts, texts_used}
use Rattle.kept_parts.proofs.BoundLemmas.{is_used-count}
use Rattle.kept_parts.proofs.uses.TextUses.is_used.Goals as goal

pub returns : goal.returns
returns c =
    let i = c.self.inside in
    let within : c.args.number < length i.known.keys = omega (arith, c.requires, ap (λ (uses : UsesData). length uses.known) c.self.view_is) in
    let here : c.index.result.now ≡ slice_index i.counts.items c.args.number =
    c.index.ensures ∙ get_or_default i.counts.items c.args.number c.index.result.now 0 (omega (arith, within, c.self.invariant.counted)) in
    λ text stands.
    ap (nat_lt 0) here
    ∙ is_used-count i.known.keys i.counts.items i.numbers.items i.distinct c.args.number text c.self.invariant
    (ap (λ (uses : UsesData). slice_get uses.known c.args.number) c.self.view_is ∙ stands)
    ∙ ap (λ (uses : UsesData). is_among (some_texts (texts_used uses)) text) c.self.view_is
