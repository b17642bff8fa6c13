use Rattle.std.proofs.Common.{◌≡◌, min, take}
use Rattle.line_words.specs.declared.points.TheConstants.{MOST_THOUSANDTHS}
use Rattle.line_words.specs.Decimals.{value_of}
use Rattle.line_words.proofs.points.capped_value.Given as goal

-- the value is that of the digits so far
abbrev pub invariant-loop-digit : goal.invariant-loop-digit
invariant-loop-digit l = l.value ≡ min (value_of (take l.digit-index l.digits)) MOST_THOUSANDTHS
