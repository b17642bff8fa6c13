-- The words of the local nodes so far are fed.
use Rattle.std.proofs.Common.{◌≡◌, ◌≤◌, length, map, take}
use Rattle.std.specs.List.{fold, zip}
use Rattle.group_text.specs.Compared.{node_word, words_writes}
use Rattle.group_text.proofs.compared.feed_nodes.Given as goal

abbrev pub invariant-loop-node : goal.invariant-loop-node
invariant-loop-node g l =
    (l.node ≤ length l.text.graph.levels)
    × (l.state ≡ fold g.H.Hasher.write l.initial.state
    (words_writes (map node_word (take l.node (zip l.text.graph.levels l.text.constants)))))
