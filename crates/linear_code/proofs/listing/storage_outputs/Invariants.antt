-- So far the outputs of the storage nodes that were passed stand in turn.
use Rattle.std.proofs.Common.{map}
use Rattle.linear_code.specs.Moved.{AreNexts}
use Rattle.linear_code.proofs.listing.storage_outputs.Given as goal

abbrev pub invariant-loop-node : goal.invariant-loop-node
invariant-loop-node l =
    AreNexts (map (λ one. record { is_storage = one.is_storage; name = one.name.items }) l.nodes) l.node l.outputs l.nexts.items
