use Rattle.std.proofs.Common.{◌≡◌}
use Rattle.spice_cards.specs.Reading.{tail_fault}
use Rattle.spice_cards.proofs.deck.tail_fault.Given as goal

-- the lines that are left have the fault of all
abbrev pub invariant-loop-line : goal.invariant-loop-line
invariant-loop-line l = tail_fault l.cut l.line-iterator ≡ tail_fault l.cut l.fn.lines
