-- The list has the nodes that the switches so far read.
use Rattle.std.proofs.Common.{◌≡◌, take}
use Rattle.std.specs.List.{flat_map}
use Rattle.switch_paths.specs.Graphs.{place_at}
use Rattle.circuit_texts.specs.Reading.{reads_at}
use Rattle.circuit_texts.proofs.reads.reads_in.Given as goal

abbrev pub invariant-loop-place : goal.invariant-loop-place
invariant-loop-place l =
    l.reads.items ≡ flat_map (λ place. reads_at l.graph (place_at l.graph.places place)) (take l.place-index l.switches)
