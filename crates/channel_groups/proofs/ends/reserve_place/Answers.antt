-- The lists stay.
use Rattle.channel_groups.proofs.ListingLemmas.{places_of-same}
use Rattle.channel_groups.proofs.ends.reserve_place.Goals as goal

pub returns-clause-same : goal.returns-clause-same
returns-clause-same c =
    places_of-same c.args.lists.now.items c.args.node c.index_mut.result.now c.reserve.new.self c.requires c.index_mut.ensures.value c.reserve.ensures.items
