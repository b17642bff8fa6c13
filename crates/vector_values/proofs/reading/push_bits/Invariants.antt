use Rattle.std.proofs.Common.{◌≡◌, ◌++◌, ◌≤◌}
use Rattle.vector_values.specs.Values.{bits_of}
use Rattle.vector_values.proofs.reading.push_bits.Given as goal

-- the letters so far and then the bits that are left are the letters at the start and then all bits
abbrev pub invariant-loop-left : goal.invariant-loop-left
invariant-loop-left l =
    (l.bits.items ++ bits_of l.left l.number ≡ l.fn.bits.items ++ bits_of l.count l.number) × (l.left ≤ 64)

abbrev pub decreases-loop-left : goal.decreases-loop-left
decreases-loop-left l = l.left
