use Rattle.std.proofs.Common.{◌≡◌}
use Rattle.spice_cards.specs.CardLines.{is_ended}
use Rattle.spice_cards.proofs.cards.is_ended.Given as goal

-- it is ended in the lines that are left exactly if it is in all
abbrev pub invariant-loop-line : goal.invariant-loop-line
invariant-loop-line l = is_ended l.line-iterator ≡ is_ended l.fn.later
