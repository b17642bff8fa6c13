use Rattle.std.proofs.Common.{◌≡◌, ◌≤◌, count_by, is_some, take}
use Rattle.circuit_reports.proofs.reports.switches.Given as goal

abbrev pub invariant-loop-place : goal.invariant-loop-place
invariant-loop-place l = (l.count ≡ count_by is_some (take l.place l.graph.places)) × (l.count ≤ l.place)
