-- One more is in its slot.
use Rattle.std.proofs.Common.{◌≡◌, ◌+◌, ◌<◌, [], ◌∷◌, ◌++◌, get_or, length, refl, sym, ap, arith}
use Rattle.std.proofs.lemmas.List.{length_push}
use Rattle.part_steps.proofs.PuttingLemmas.{Puts-more}
use Rattle.part_steps.proofs.putting.put_in.Goals as goal

pub loop-one-preserved : goal.loop-one-preserved
loop-one-preserved g c =
    let slots = c.args.slots.now in
    let i = c.loop-one.place in
    let invariant = c.loop-one.invariant in
    let long : length (c.loop-one.yielded ++ c.in-Some.one ∷ []) ≡ length c.loop-one.yielded + 1 = length_push c.loop-one.yielded c.in-Some.one in
    let inside : i < length slots = omega (arith, invariant.place, invariant.left, ap length c.in-Some.ensures.steps.0) in
    let within : get_or slots i 0 < length c.loop-one.all = omega (arith, c.requires.inside i 0 inside, c.loop-one.auto.all) in
    record {
      place = omega (arith, invariant.place, long);
      left = omega (arith, invariant.left, long, ap length c.in-Some.ensures.steps.0);
      puts = Puts-more slots c.loop-one.yielded c.args.all.now c.loop-one.all i (get_or slots i 0) c.in-Some.one inside refl
          (sym invariant.place) within invariant.puts;
    }
