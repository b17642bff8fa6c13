-- The place is the last of the node's list.
use Rattle.std.proofs.Common.{[], ◌∷◌, ◌++◌}
use Rattle.channel_groups.proofs.ListingLemmas.{SetsAt-written}
use Rattle.channel_groups.proofs.ends.list_place.Goals as goal

pub returns-clause-lists : goal.returns-clause-lists
returns-clause-lists c =
    SetsAt-written c.args.lists.now.items c.args.node c.index_mut.result.now c.push.new.self c.requires c.index_mut.ensures.value
    (λ places. places ++ c.args.place ∷ []) c.in_ok-push.ensures.ok
