use Rattle.std.proofs.Common.{◌≡◌, ◌+◌, ◌++◌, take, map}
use Rattle.ternary.specs.Tern.{letter}
use Rattle.printed_lines.proofs.lines.append_letters.Given as goal

-- the letters of the states before the place are there, and took as much room
abbrev pub invariant-loop-value : goal.invariant-loop-value
invariant-loop-value l =
    (l.out.bytes ≡ l.fn.out.bytes ++ map letter (take l.value-index l.values))
    × (l.out.spare + l.value-index ≡ l.fn.out.spare)
