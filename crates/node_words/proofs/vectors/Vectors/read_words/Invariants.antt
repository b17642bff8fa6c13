use Rattle.std.proofs.Common.{◌≡◌, [], drop}
use Rattle.std.specs.List.{flat_map}
use Rattle.node_words.specs.declared.TheConstants.{MOST_DEPTH}
use Rattle.node_words.specs.Words.{parts, with_parts}
use Rattle.node_words.specs.Vectors.{all_parts}
use Rattle.node_words.proofs.vectors.Vectors.read_words.Given as goal

-- the words that are left make of the list so far what all words make of none
abbrev pub invariant-loop-word : goal.invariant-loop-word
invariant-loop-word l =
    with_parts [] (all_parts l.circuit l.self l.words)
    ≡ with_parts l.list.items (flat_map (parts l.circuit l.self MOST_DEPTH) (drop l.word-index l.words))
