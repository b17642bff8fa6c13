-- Taken out at the one node and put in at the other.
use Rattle.channel_groups.specs.Listing.{places_of}
use Rattle.channel_groups.proofs.ListingLemmas.{Moves-made}
use Rattle.channel_groups.proofs.ends.move_place.Goals as goal

pub put_in-requires : goal.put_in-requires
put_in-requires c = λ n at. c.take_out.ensures.room n (c.requires.room n at)

pub returns-clause-moves : goal.returns-clause-moves
returns-clause-moves c =
    Moves-made c.args.place c.args.from c.args.to (places_of c.args.lists.now.items) (places_of c.take_out.new.lists.items) (places_of c.put_in.new.lists.items)
    c.requires.distinct c.take_out.ensures.at c.take_out.ensures.others c.put_in.ensures.at c.put_in.ensures.others
