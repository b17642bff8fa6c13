-- The ends of the switches that change at the places so far are touched.
use Rattle.std.proofs.Common.{ℕ, take}
use Rattle.std.specs.Prelude.{Contains}
use Rattle.vicinity.specs.Stepping.{TurnsAt}
use Rattle.vicinity.specs.Flooding.{Wakes}
use Rattle.vicinity.proofs.touching.touch_along.Given as goal

abbrev pub invariant-loop-place : goal.invariant-loop-place
invariant-loop-place l =
    Wakes l.graph (λ node. (place : ℕ) × Contains (take l.place-index l.places) place × TurnsAt l.graph l.was l.now place node) l.fn.touched l.touched
