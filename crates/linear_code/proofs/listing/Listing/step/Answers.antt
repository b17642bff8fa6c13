-- The next states of the storage nodes stand in ascending order, so the one in turn is the node's own.
use Rattle.std.proofs.Common.{◌≡◌, ◌<◌, [], ◌∷◌, ◌++◌, length, get_or, sym, subst, ap, ◌∙◌, arith, rules}
use Rattle.std.proofs.lemmas.List.{length_push, length-map}
use Rattle.ternary.specs.declared.tern.Tern.TheVariants.{Zero}
use Rattle.straight_code.specs.Code.{results}
use Rattle.linear_code.specs.Listing.{next_of, IsListing}
use Rattle.straight_code.proofs.ResultLemmas.{length-results}
use Rattle.linear_code.proofs.ListingLemmas.{is_storage_at-node, storage_before-storage, storage_before-input, turn-below, turn-below_node, storage-moves, next_of-input, each-next}
use Rattle.linear_code.proofs.listing.Listing.step.Goals as goal
use Rattle.linear_code.proofs.listing.Listing.step.Goals.{Then-listed, then-listed+in_ok-map_err, else-listed+in_ok-map_err-2}

-- at a storage node a next state is in turn
in_turn : (c : Then-listed) → c.loop-node.moved < length c.args.self.now.nexts
in_turn c =
    let listing = c.args.self.now in
    let good : IsListing listing = subst IsListing c.self.view_is c.self.invariant in
    let listed = c.deref-listed-items.ensures.value in
    let inside : c.loop-node.node < length c.self.inside.nodes.items = omega (arith, ap length listed) in
    turn-below_node listing c.self.inside.nodes.items c.loop-node.node c.loop-node.moved c.listed-item.result good
    (ap (λ all. all.entries) c.self.view_is) inside (rw listed at c.listed-item.is) c.if-listed.true c.loop-node.invariant.moved

pub index-requires : goal.index-requires
index-requires c = omega (arith, in_turn (goal.at.index-requires c).Then-listed, ap (λ all. length all.nexts) c.self.view_is)

pub output_state-requires : goal.output_state-requires
output_state-requires c =
    let listing = c.args.self.now in
    let good : IsListing listing = subst IsListing c.self.view_is c.self.invariant in
    let instructions = c.deref.ensures.value ∙ ap (λ all. all.instructions) c.self.view_is in
    let done : length c.deref-then-listed.result.now ≡ length listing.instructions =
    ap length (c.deref-then-listed.ensures.value ∙ c.in_ok-results.ensures) ∙ length-results c.args.state.now c.deref.result.now ∙ ap length instructions in
    let output = rw (ap (λ all. all.nexts) c.self.view_is) at c.index.ensures in
    rw (c.requires, done, output)
    (good.nexts c.loop-node.moved c.index.result.now (in_turn (goal.at.output_state-requires c).Then-listed))

pub loop-node-preserved : goal.loop-node-preserved
loop-node-preserved c =
    let node = c.loop-node.node in
    let listing = c.args.self.now in
    let state = c.args.state.now in
    let next = c.loop-node.next.items in
    let view = ap (λ all. all.entries) c.self.view_is in
    let listed = c.deref-listed-items.ensures.value in
    let inside : node < length c.self.inside.nodes.items = omega (arith, ap length listed) in
    let kind = is_storage_at-node _ listing.entries node _ view inside (rw listed at c.listed-item.is) in
    let within : node < length listing.entries = rw (← view, length-map) inside in
    elim c.if-listed.branch [
      | then-listed+in_ok-map_err w ↦
          let storage = kind ∙ w.if-listed.true in
          let moved = w.output_state.result in
          let pushed : w.push.new.self.items ≡ next ++ moved ∷ [] = search rules in
          let nexts = ap (λ all. all.nexts) c.self.view_is in
          let good : IsListing listing = subst IsListing c.self.view_is c.self.invariant in
          let below = turn-below listing node c.loop-node.moved good within storage c.loop-node.invariant.moved in
          let done : w.deref-then-listed.result.now ≡ results state listing.instructions =
          w.deref-then-listed.ensures.value ∙ c.in_ok-results.ensures ∙ ap (results state) (c.deref.ensures.value ∙ ap (λ all. all.instructions) c.self.view_is) in
          let is = storage-moves listing state node c.loop-node.moved w.index.result.now moved storage c.loop-node.invariant.moved below
          (rw nexts at w.index.ensures) (rw done at w.output_state.ensures) in
          rw (w.next-is, w.moved-is, pushed) (record {
            count = omega (arith, length_push next moved);
            each = each-next (next_of listing state) next node moved c.loop-node.invariant.count c.loop-node.invariant.each is;
            moved = omega (arith, storage_before-storage listing.entries node within storage);
          })
      | else-listed+in_ok-map_err-2 w ↦
          let input = kind ∙ w.if-listed.false in
          let kept = get_or state node Zero in
          let pushed : w.push-else-listed.new.self.items ≡ next ++ kept ∷ [] = search rules in
          rw (w.next-is, w.moved-is, pushed) (record {
            count = omega (arith, length_push next kept);
            each = each-next (next_of listing state) next node kept c.loop-node.invariant.count c.loop-node.invariant.each (sym (next_of-input listing state node input));
            moved = omega (arith, storage_before-input listing.entries node within input);
          })
    ]
