use Rattle.std.proofs.Common.{◌≡◌, take, drop, option_map}
use Rattle.node_words.specs.Ranges.{first_range, with_before}
use Rattle.node_words.proofs.ranges.first_range.Given as goal

-- the first range of the word is the first of the bytes that are left, behind those that were passed
abbrev pub invariant-loop-at : goal.invariant-loop-at
invariant-loop-at l = first_range l.word ≡ option_map (with_before (take l.at l.word)) (first_range (drop l.at l.word))
