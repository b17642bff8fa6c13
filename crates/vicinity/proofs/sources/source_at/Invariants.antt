-- The entry is what a path brings, and has the node's own strength and what comes over the places so far.
use Rattle.std.proofs.Common.{◌≡◌, ℕ, ◌+◌, ◌<◌, take}
use Rattle.std.specs.Prelude.{Contains}
use Rattle.switch_paths.specs.Switching.{state_at}
use Rattle.switch_paths.specs.Graphs.{level_of}
use Rattle.vicinity.specs.Entries.{own_strength, HasAbove, IsWay}
use Rattle.vicinity.specs.Sources.{HasEdge}
use Rattle.vicinity.proofs.sources.source_at.Given as goal

abbrev pub invariant-loop-place : goal.invariant-loop-place
invariant-loop-place g l = record {
  way : 0 < l.entry → IsWay l.pass l.graph l.state l.node l.entry;
  own : HasAbove l.floor l.entry (own_strength l.pass (state_at l.state l.node) (level_of l.graph l.node));
  edge : (place : ℕ) → Contains (take l.place-index l.place-items) place → HasEdge l.pass l.graph l.state l.node l.floor l.entry place;
  steps : l.steps ≡ l.fn.steps + 1 + l.place-index;
}
