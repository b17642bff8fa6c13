-- The text of one place more goes to the front.
use Rattle.std.proofs.Common.{◌≡◌, ◌+◌, ◌-◌, ◌<◌, [], None, length, drop, refl, sym, ap, ◌∙◌, arith}
use Rattle.std.specs.Prelude.{slice_index_or}
use Rattle.std.proofs.lemmas.List.{drop_all, get_or_default}
use Rattle.analysis_cache.specs.Keeping.{texts_of}
use Rattle.group_analysis.specs.Using.{used_texts}
use Rattle.analysis_cache.proofs.OrderLemmas.{used_texts-none}
use Rattle.unit_step.specs.LastTexts.{text_in, texts_numbered}
use Rattle.unit_step.proofs.LastTextsLemmas.{if_some_each}
use Rattle.unit_step.proofs.UsedInTurn.{used-numbered, numbered-kept}
use Rattle.unit_step.proofs.last_texts.use_each.Goals as goal

pub loop-place-init : goal.loop-place-init
loop-place-init c =
    let numbers = c.args.numbers.now in
    let kept = texts_of c.args.kept.now in
    let none : drop (length numbers) numbers ≡ [] = drop_all (length numbers) numbers (omega arith) in
    record {
      inside = omega arith;
      texts = sym (ap (λ rest. used_texts (texts_numbered c.args.uses.now.known rest) kept) none ∙ used_texts-none kept);
      bound = refl;
    }

pub use_numbered-requires-clause-inside : goal.use_numbered-requires-clause-inside
use_numbered-requires-clause-inside c =
    let place = c.loop-place.place - 1 in
    if_some_each (slice_index_or c.args.numbers.now place None) (λ one. one < length c.args.uses.now.known) (λ one is. c.requires.inside place one is)

pub use_numbered-requires-clause-kept : goal.use_numbered-requires-clause-kept
use_numbered-requires-clause-kept c =
    let place = c.loop-place.place - 1 in
    numbered-kept c.args.uses.now.known c.args.numbers.now (texts_of c.args.kept.now) _ (texts_of c.loop-place.kept) c.requires.kept
    c.loop-place.invariant.texts place (slice_index_or c.args.numbers.now place None) refl

pub loop-place-preserved : goal.loop-place-preserved
loop-place-preserved c =
    let numbers = c.args.numbers.now in
    let uses = c.args.uses.now in
    let kept = texts_of c.args.kept.now in
    let place = c.loop-place.place - 1 in
    let number = slice_index_or numbers place None in
    let inside : place < length numbers = omega (arith, c.loop-place.invariant.inside, c.loop-place-test.true) in
    let next : c.loop-place.place ≡ place + 1 = omega (arith, c.loop-place-test.true) in
    record {
      inside = omega (arith, inside);
      texts =
          c.use_numbered.ensures.texts
          ∙ (ap (used_texts (text_in uses number)) (c.loop-place.invariant.texts ∙ ap (λ k. used_texts (texts_numbered uses.known (drop k numbers)) kept) next)
          ∙ used-numbered uses numbers kept place number inside (get_or_default numbers place None number inside));
      bound = c.use_numbered.ensures.bound ∙ c.loop-place.invariant.bound;
    }
