-- What the places so far lead to came to the set.
use Rattle.std.proofs.Common.{ℕ, take, ◌≡◌, ◌+◌}
use Rattle.std.specs.Prelude.{Contains}
use Rattle.vicinity.specs.Arms.{LeadsTo}
use Rattle.vicinity.specs.Flooding.{Wakes}
use Rattle.vicinity.proofs.flood.look_along.Given as goal

abbrev pub invariant-loop-place : goal.invariant-loop-place
invariant-loop-place g l = record {
  wakes : Wakes l.graph (λ other. (place : ℕ) × Contains (take l.place-index l.places) place × LeadsTo l.graph l.state place l.node other) l.fn.awake l.awake;
  steps : l.steps ≡ l.fn.steps + l.place-index;
}
