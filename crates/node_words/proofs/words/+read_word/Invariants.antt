use Rattle.std.proofs.Common.{◌≡◌, ◌-◌}
use Rattle.std.specs.List.{flat_map}
use Rattle.node_words.specs.Words.{parts, with_parts}
use Rattle.node_words.specs.Ranges.{words_in}
use Rattle.node_words.proofs.WordLemmas.{words_from}
use Rattle.node_words.proofs.words.+read_word.Given as goal

abbrev pub decreases-read_word : goal.decreases-read_word
decreases-read_word l = l.left

-- the words that are left make of the list so far what all words of the range make of the list at the start
abbrev pub invariant-loop-place : goal.invariant-loop-place
invariant-loop-place l =
    with_parts l.fn.list.items (flat_map (parts l.circuit l.vectors (l.left - 1)) (words_in l.range))
    ≡ with_parts l.list.items (flat_map (parts l.circuit l.vectors (l.left - 1)) (words_from l.range l.place))
