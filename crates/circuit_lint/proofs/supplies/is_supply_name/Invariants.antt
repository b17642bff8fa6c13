-- At no place so far a word for a supply begins that goes to the end.
use Rattle.std.proofs.Common.{◌≡◌, false}
use Rattle.std.specs.List.{list_any, range_with_len}
use Rattle.circuit_lint.specs.Supplies.{is_supply_at}
use Rattle.circuit_lint.proofs.supplies.is_supply_name.Given as goal

abbrev pub invariant-loop-place : goal.invariant-loop-place
invariant-loop-place l = list_any (is_supply_at l.name) (range_with_len 0 l.place) ≡ false
