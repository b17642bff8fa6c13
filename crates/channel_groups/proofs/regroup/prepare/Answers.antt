-- With more room the groups and the lists are the same.
use Rattle.std.proofs.Common.{None, sym, subst}
use Rattle.channel_groups.specs.Listing.{places_of, AreListed}
use Rattle.channel_groups.specs.Changes.{undo}
use Rattle.channel_groups.proofs.StoreLemmas.{IsHeld-same, same_function}
use Rattle.channel_groups.proofs.regroup.prepare.Goals as goal

pub search-requires-clause-held : goal.search-requires-clause-held
search-requires-clause-held g c =
    IsHeld-same c.args.held.now.classes.items c.make_room.new.held.classes.items c.args.held.now.slots.items c.make_room.new.held.slots.items
    c.make_room.ensures.held c.requires.held

pub search-requires-clause-firsts : goal.search-requires-clause-firsts
search-requires-clause-firsts g c =
    subst (AreListed (λ switch. switch.a) (undo c.args.graph.now c.args.change.now) None)
    (sym (same_function (places_of c.make_room.new.ends.firsts.items) (places_of c.args.ends.now.firsts.items) c.make_room.ensures.ends.first))
    c.requires.firsts

pub search-requires-clause-seconds : goal.search-requires-clause-seconds
search-requires-clause-seconds g c =
    subst (AreListed (λ switch. switch.b) (undo c.args.graph.now c.args.change.now) None)
    (sym (same_function (places_of c.make_room.new.ends.seconds.items) (places_of c.args.ends.now.seconds.items) c.make_room.ensures.ends.second))
    c.requires.seconds
