-- All bytes so far are digits.
use Rattle.std.proofs.Common.{◌≡◌, true, take}
use Rattle.std.specs.List.{list_all}
use Rattle.circuit_lint.specs.Supplies.{is_digit}
use Rattle.circuit_lint.proofs.supplies.are_digits.Given as goal

abbrev pub invariant-loop-byte : goal.invariant-loop-byte
invariant-loop-byte l = list_all is_digit (take l.byte-index l.bytes) ≡ true
