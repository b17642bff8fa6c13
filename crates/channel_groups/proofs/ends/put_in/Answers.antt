-- The place is the last of the node's list.
use Rattle.std.proofs.Common.{[], ◌∷◌, ◌++◌}
use Rattle.channel_groups.specs.Listing.{places_of}
use Rattle.channel_groups.proofs.ListingLemmas.{SetsAt-written, named_at, named_others}
use Rattle.channel_groups.proofs.ends.put_in.Goals as goal

pub returns-clause-at : goal.returns-clause-at
returns-clause-at c =
    let lists = c.args.lists.now.items in
    let node = c.in-Some.node in
    let room = c.requires node c.in-Some.is in
    named_at c.args.to node (λ n. places_of lists n ++ c.args.place ∷ []) (places_of lists) _ c.in-Some.is
    (SetsAt-written lists node c.index_mut.result.now c.push_reserved.new.self room.inside c.index_mut.ensures.value
    (λ places. places ++ c.args.place ∷ []) c.push_reserved.ensures.items)

pub returns-clause-others : goal.returns-clause-others
returns-clause-others c =
    let lists = c.args.lists.now.items in
    let node = c.in-Some.node in
    let room = c.requires node c.in-Some.is in
    named_others c.args.to node _ (places_of lists) _ c.in-Some.is
    (SetsAt-written lists node c.index_mut.result.now c.push_reserved.new.self room.inside c.index_mut.ensures.value
    (λ places. places ++ c.args.place ∷ []) c.push_reserved.ensures.items)
