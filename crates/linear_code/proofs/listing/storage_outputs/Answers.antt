-- One node more: a storage node's output is the next in turn.
use Rattle.std.proofs.Common.{◌<◌, refl, length, map, ◌∙◌, arith}
use Rattle.std.proofs.lemmas.List.{length-map}
use Rattle.linear_code.specs.declared.listing.ListedNode.{ListedNode}
use Rattle.linear_code.specs.Listing.{Entry}
use Rattle.linear_code.proofs.ListingLemmas.{is_storage_at-node}
use Rattle.linear_code.proofs.NextLemmas.{AreNexts-storage, AreNexts-input}
use Rattle.linear_code.proofs.listing.storage_outputs.Goals as goal
use Rattle.linear_code.proofs.listing.storage_outputs.Goals.{then-listed+in_ok-push, else-listed}

pub loop-node-preserved : goal.loop-node-preserved
loop-node-preserved c =
    let node = c.loop-node.node in
    let entry = λ (one : ListedNode). let it : Entry = record { is_storage = one.is_storage; name = one.name.items } in it in
    let entries = map entry c.args.nodes.now in
    let inside : node < length c.args.nodes.now = omega arith in
    let within : node < length entries = rw length-map inside in
    let kind = is_storage_at-node c.args.nodes.now entries node c.index-nodes-node.result refl inside c.index-nodes-node.is in
    elim c.if-listed.branch [
      | then-listed+in_ok-push w ↦
          let room : node < length c.args.outputs.now = omega (arith, c.requires) in
          rw (w.nexts-is, w.in_ok-push.ensures.items)
          (AreNexts-storage entries node c.args.outputs.now c.loop-node.nexts.items _ within (kind ∙ w.if-listed.true) room c.loop-node.invariant)
      | else-listed w ↦
          rw w.nexts-is (AreNexts-input entries node c.args.outputs.now c.loop-node.nexts.items within (kind ∙ w.if-listed.false) c.loop-node.invariant)
    ]
