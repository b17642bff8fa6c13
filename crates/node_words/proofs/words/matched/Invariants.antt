use Rattle.std.proofs.Common.{◌≡◌, ◌++◌, ◌-◌, length}
use Rattle.std.specs.List.{filter, range_with_len}
use Rattle.node_words.specs.Words.{has_match, matched}
use Rattle.node_words.proofs.words.matched.Given as goal

-- the nodes so far and then those that are left
abbrev pub invariant-loop-node : goal.invariant-loop-node
invariant-loop-node l =
    matched l.circuit l.pattern ≡ l.list.items ++ filter (has_match l.circuit.names l.pattern) (range_with_len l.node (length l.marks.items - l.node))
