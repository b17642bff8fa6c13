use Rattle.std.proofs.Common.{◌≡◌, ◌+◌, ◌++◌, take, map}
use Rattle.printed_lines.specs.Lines.{wanted_letter}
use Rattle.printed_lines.proofs.lines.append_wanted.Given as goal

-- the letters of the wanted states before the place are there, and took as much room
abbrev pub invariant-loop-value : goal.invariant-loop-value
invariant-loop-value l =
    (l.out.bytes ≡ l.fn.out.bytes ++ map wanted_letter (take l.value-index l.want))
    × (l.out.spare + l.value-index ≡ l.fn.out.spare)
