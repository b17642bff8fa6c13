-- A text that has a number is that of the parts with this number, and another one that of none.
use Rattle.std.proofs.Common.{◌≡◌, ◌<◌, length, sym, ap, ◌∙◌, arith}
use Rattle.std.specs.Prelude.{slice_index, count_by}
use Rattle.std.proofs.lemmas.List.{get_or_default}
use Rattle.std.proofs.lemmas.Option.{slice_get_within}
use Rattle.group_text.specs.Compared.{same_text}
use Rattle.kept_parts.specs.Uses.{UsesData, some_texts, texts_used}
use Rattle.kept_parts.proofs.BoundLemmas.{parts_with-known, parts_with-unknown}
use Rattle.kept_parts.proofs.NumberLemmas.{position-text}
use Rattle.kept_parts.proofs.uses.TextUses.parts_with.Goals as goal

pub returns-in-Some : goal.returns-in-Some
returns-in-Some c =
    let i = c.self.inside in
    let text = c.args.text.now in
    let number = c.in-Some.number in
    let stands = position-text i.known.keys text number c.in-Some.ensures.index in
    let within : number < length i.counts.items = omega (arith, slice_get_within i.known.keys number text stands, c.self.invariant.counted) in
    let here : c.index.result.now ≡ slice_index i.counts.items number =
    c.index.ensures ∙ get_or_default i.counts.items number c.index.result.now 0 within in
    here
    ∙ parts_with-known i.known.keys i.counts.items i.numbers.items i.distinct number text c.self.invariant stands
    ∙ ap (λ (uses : UsesData). count_by (same_text text) (some_texts (texts_used uses))) c.self.view_is

pub returns-in-None : goal.returns-in-None
returns-in-None c =
    let i = c.self.inside in
    let text = c.args.text.now in
    parts_with-unknown i.known.keys i.counts.items i.numbers.items i.distinct text c.self.invariant (sym c.in-None.ensures.found)
    ∙ ap (λ (uses : UsesData). count_by (same_text text) (some_texts (texts_used uses))) c.self.view_is
