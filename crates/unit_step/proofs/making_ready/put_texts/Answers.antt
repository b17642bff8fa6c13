-- One part more has its text.
use Rattle.std.proofs.Common.{◌≡◌, ◌+◌, ◌<◌, [], ◌∷◌, ◌++◌, Some, None, get_or, map, take, length, refl, ap, ◌∙◌, arith}
use Rattle.std.specs.Prelude.{slice_set}
use Rattle.std.proofs.lemmas.List.{length-map, length-take-le, map_more, get_or-set_same}
use Rattle.part_steps.proofs.PuttingLemmas.{Puts-more, set_twice}
use Rattle.unit_step.proofs.making_ready.put_texts.Goals as goal

pub set-requires-clause-none : goal.set-requires-clause-none
set-requires-clause-none c =
    let k = get_or c.args.slots.now c.loop-place.place 0 in
    let inside : c.loop-place.place < length c.args.slots.now = omega (arith, c.loop-place-test.true, c.requires.counted) in
    let within : k < length c.loop-place.uses.numbers = omega (arith, c.requires.inside c.loop-place.place 0 inside, c.loop-place.invariant.puts.count) in
    ap (λ numbers. get_or numbers k None) c.free.ensures.numbers ∙ get_or-set_same c.loop-place.uses.numbers k None None within

pub loop-place-preserved : goal.loop-place-preserved
loop-place-preserved c =
    let slots = c.args.slots.now in
    let numbers = c.args.numbers.now in
    let i = c.loop-place.place in
    let k = get_or slots i 0 in
    let n = get_or numbers i 0 in
    let inside : i < length slots = omega (arith, c.loop-place-test.true, c.requires.counted) in
    let within : k < length c.loop-place.uses.numbers = omega (arith, c.requires.inside i 0 inside, c.loop-place.invariant.puts.count) in
    let counted : length (map Some (take i numbers)) ≡ i =
    length-map (take i numbers) Some ∙ length-take-le i numbers (omega (arith, c.loop-place-test.true)) in
    let more : map Some (take (i + 1) numbers) ≡ map Some (take i numbers) ++ Some n ∷ [] = map_more Some numbers i 0 c.loop-place-test.true in
    let final : c.set.new.self.numbers ≡ slice_set c.loop-place.uses.numbers k (Some n) =
    c.set.ensures.numbers ∙ (ap (λ xs. slice_set xs k (Some n)) c.free.ensures.numbers ∙ set_twice c.loop-place.uses.numbers k None (Some n)) in
    record {
      known = c.set.ensures.known ∙ (c.free.ensures.known ∙ c.loop-place.invariant.known);
      puts = rw (final, more) (Puts-more slots (map Some (take i numbers)) c.args.uses.now.numbers c.loop-place.uses.numbers i k (Some n)
          inside refl counted within c.loop-place.invariant.puts);
    }
