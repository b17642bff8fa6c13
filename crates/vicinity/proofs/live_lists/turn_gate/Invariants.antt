-- The switches at the places so far turned.
use Rattle.std.proofs.Common.{take}
use Rattle.std.specs.Prelude.{Contains}
use Rattle.vicinity.specs.LiveLists.{TurnsGate}
use Rattle.vicinity.proofs.live_lists.turn_gate.Given as goal

abbrev pub invariant-loop-place : goal.invariant-loop-place
invariant-loop-place l = TurnsGate l.graph l.gate l.was l.now (Contains (take l.place-index l.places)) l.fn.ends l.ends
