-- The places so far are collected, and at last all of them.
use Rattle.std.proofs.Common.{length, reverse, inl, inr, refl, ap, arith}
use Rattle.bool_pool.specs.Collecting.{Waits}
use Rattle.bool_pool.proofs.CollectLemmas.{AreCollected-roots, AreCollected-taken, taken_all, AnyReaches-inside, places_inside, taken_more}
use Rattle.bool_pool.proofs.WindowLemmas.{Waits-none, none_found}
use Rattle.bool_pool.proofs.pool.Pool.reached_places.Goals as goal

pub loop-places-init : goal.loop-places-init
loop-places-init c =
    let inside = places_inside c.args.self.now c.args.roots.keys c.requires in (
      rw c.new-places.ensures.items
          (AreCollected-roots c.args.self.now c.args.roots.keys (Waits c.args.roots.keys c.size.result c.new.result.items)
          (λ k. Waits-none c.args.roots.keys c.size.result c.new.result.items k c.new.ensures.items) inside),
      (λ k held. omega (arith, inside k held, c.size.ensures.size), omega (arith, c.size.type_inv, ap length c.new.ensures.items)),
    )

pub gate-requires : goal.gate-requires
gate-requires c =
    let out = rw c.in-Some.is at c.in_ok-place.ensures.taken in
    AnyReaches-inside c.args.self.now c.args.roots.keys c.in-Some.place (places_inside _ _ c.requires)
    (c.loop-places.invariant.0.reached c.in-Some.place (inl ((out.each c.in-Some.place).1 (inr refl))))

pub loop-places-smaller : goal.loop-places-smaller
loop-places-smaller c =
    let out = rw c.in-Some.is at c.in_ok-place.ensures.taken in
    rw (taken_more c.loop-places.places.items _ c.in-Some.place c.in_ok-push.ensures.items)
    (c.loop-places.invariant.0.below c.in-Some.place ((out.each c.in-Some.place).1 (inr refl)))

pub loop-places-preserved : goal.loop-places-preserved
loop-places-preserved c =
    let out = rw c.in-Some.is at c.in_ok-place.ensures.taken in
    let place = c.in-Some.place in (
      rw (taken_more c.loop-places.places.items _ place c.in_ok-push.ensures.items)
          (AreCollected-taken c.args.self.now c.args.roots.keys place _ _ _ (reverse c.loop-places.places.items) out
          (rw c.gate.ensures.gate at c.gate.ensures.order)
          (λ k. rw c.gate.ensures.gate at c.in_ok-insert_operands.ensures.each k)
          c.loop-places.invariant.0),
      c.in_ok-insert_operands.ensures.apart,
    )

pub returns-clause-each : goal.returns-clause-each
returns-clause-each c = λ place.
    rw c.reverse.ensures.items
    (taken_all c.args.self.now c.args.roots.keys _ (reverse c.loop-places.places.items)
    (none_found _ _ c.in_default.not-Some c.in_ok-place.ensures.none) c.loop-places.invariant.0 place)
