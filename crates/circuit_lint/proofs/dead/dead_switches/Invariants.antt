-- The sets whose first is among the places so far are listed, and taken out of the tally.
use Rattle.std.proofs.Common.{◌≡◌}
use Rattle.std.specs.List.{filter_map, range_with_len}
use Rattle.circuit_lint.specs.Dead.{dead_at}
use Rattle.circuit_lint.specs.Tallies.{AreLeft}
use Rattle.circuit_lint.proofs.dead.dead_switches.Given as goal

abbrev pub invariant-loop-place : goal.invariant-loop-place
invariant-loop-place l = record {
  listed : l.found.items ≡ filter_map (dead_at l.graph) (range_with_len 0 l.place);
  left : AreLeft l.graph.places l.place l.tally;
}
