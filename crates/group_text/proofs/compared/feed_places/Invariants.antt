-- The words of the places so far are fed.
use Rattle.std.proofs.Common.{◌≡◌, ◌≤◌, length, take}
use Rattle.std.specs.List.{flat_map, fold}
use Rattle.group_text.specs.Compared.{place_words, words_writes}
use Rattle.group_text.proofs.compared.feed_places.Given as goal

abbrev pub invariant-loop-place : goal.invariant-loop-place
invariant-loop-place g l =
    (l.place ≤ length l.graph.places)
    × (l.state ≡ fold g.H.Hasher.write l.initial.state (words_writes (flat_map place_words (take l.place l.graph.places))))
