use Rattle.std.proofs.Common.{◌≡◌, length}
use Rattle.spice_cards.specs.Reading.{lines_meaning}
use Rattle.spice_cards.proofs.deck.read_lines.Given as goal

-- the lines that are left mean after what was read what all lines mean
abbrev pub invariant-lines : goal.invariant-lines
invariant-lines l = lines_meaning l.cut l.reading.so_far l.lines ≡ lines_meaning l.cut l.fn.reading.so_far l.fn.lines

abbrev pub decreases-lines : goal.decreases-lines
decreases-lines l = length l.lines
