-- A part more is added, and in the end the outputs of the storage nodes are the listing's next states.
use Rattle.std.proofs.Common.{◌≡◌, ◌<◌, length, map, refl, arith}
use Rattle.std.proofs.lemmas.List.{take_at}
use Rattle.std.proofs.lemmas.List.Elements.{All-map}
use Rattle.std.proofs.lemmas.Option.{slice_get_read}
use Rattle.switch_paths.specs.Graphs.{nodes}
use Rattle.line_words.specs.Visible.{IsVisibleName}
use Rattle.straight_code.specs.Parts.{IsPart}
use Rattle.linear_code.proofs.BuildLemmas.{AreAdded-next}
use Rattle.linear_code.proofs.ListingTextLemmas.{entry_of}
use Rattle.linear_code.proofs.BuiltLemmas.{AreListed, AreListed-nodes, AreListed-listing, AreListed-built}
use Rattle.linear_code.proofs.listing.Listing.build.Goals.{In_ok-nexts}
use Rattle.linear_code.proofs.listing.Listing.build.Goals as goal

pub loop-part-preserved : goal.loop-part-preserved
loop-part-preserved c =
    let count = nodes c.args.graph.now in
    let k = c.loop-part.part-index in
    let parts = c.args.parts.now in
    let part = c.part-item.result in
    let old = c.loop-part.outputs.items in
    let new = c.add_part.new.outputs in
    let inside : k < length parts = omega arith in
    let stands = slice_get_read parts (length parts) k part refl inside c.part-item.is in
    let fits : IsPart count part = rw (← c.part-item.is) at (c.requires.fit k part inside) in
    let adds = rw c.deref_mut.ensures.value at c.in_ok-add_part.ensures.adds in
    let long : length new ≡ c.loop-part.outputs.len = omega (arith, adds.outputs.count, c.loop-part.outputs.ok.0) in
    rw (take_at new _ c.loop-part.outputs.len long)
    (AreAdded-next count parts k part c.loop-part.instructions.items c.add_part.new.instructions.items old new
    c.requires.members.once stands fits c.in_ok-add_part.ensures.program adds c.loop-part.invariant)

-- all parts are added, and the next states of the storage nodes stand in their order
all_listed : (c : In_ok-nexts) → AreListed c.args.graph.now (map (λ name. name.items) c.args.names.items) c.args.parts.now
    (map entry_of c.in_ok-nodes.nodes.items) c.loop-part.instructions.items c.loop-part.outputs.items c.in_ok-nexts.nexts.items
all_listed c =
    let last : c.loop-part.part-index ≡ length c.args.parts.now = omega arith in
    AreListed-nodes c.args.graph.now (map (λ name. name.items) c.args.names.items) c.args.parts.now c.in_ok-nodes.nodes.items
    c.loop-part.instructions.items c.loop-part.outputs.items c.in_ok-nexts.nexts.items c.in_ok-nodes.ensures.kinds c.in_ok-nodes.ensures.named
    (rw last at c.loop-part.invariant) (rw (c.deref.ensures.value, c.deref-2.ensures.value) at c.in_ok-nexts.ensures)

pub invariant_of-result : goal.invariant_of-result
invariant_of-result c =
    AreListed-listing c.args.graph.now (map (λ name. name.items) c.args.names.items) c.args.parts.now _ c.loop-part.instructions.items
    c.loop-part.outputs.items c.in_ok-nexts.nexts.items (All-map IsVisibleName (λ name. name.items) c.args.names.items c.requires.visible)
    (all_listed (goal.at.invariant_of-result c).In_ok-nexts)

pub returns : goal.returns
returns c =
    AreListed-built c.args.graph.now (map (λ name. name.items) c.args.names.items) c.args.parts.now _ c.loop-part.instructions.items
    c.loop-part.outputs.items c.in_ok-nexts.nexts.items c.requires.fit c.requires.members (all_listed (goal.at.returns c).In_ok-nexts)
