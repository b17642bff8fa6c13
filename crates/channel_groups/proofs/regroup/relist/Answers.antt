-- With no place changed the lists are right; else the place is moved.
use Rattle.std.proofs.Common.{ap, ◌∙◌}
use Rattle.std.specs.Prelude.{option_map}
use Rattle.channel_groups.specs.Listing.{places_of}
use Rattle.channel_groups.proofs.StoreLemmas.{AreListed-unchanged, AreListed-moved_to}
use Rattle.channel_groups.proofs.regroup.relist.Goals as goal

pub returns-in_default-clause-firsts : goal.returns-in_default-clause-firsts
returns-in_default-clause-firsts c =
    AreListed-unchanged (λ switch. switch.a) c.args.graph.now c.args.change.now (places_of c.args.ends.now.firsts.items) c.in_default.is c.requires.firsts

pub returns-in_default-clause-seconds : goal.returns-in_default-clause-seconds
returns-in_default-clause-seconds c =
    AreListed-unchanged (λ switch. switch.b) c.args.graph.now c.args.change.now (places_of c.args.ends.now.seconds.items) c.in_default.is c.requires.seconds

pub returns-clause-firsts : goal.returns-clause-firsts
returns-clause-firsts c =
    AreListed-moved_to (λ switch. switch.a) c.args.graph.now c.args.change.now (c.in-Some.place, c.in-Some.old)
    (places_of c.args.ends.now.firsts.items) (places_of c.move_place.new.lists.items) c.first_end.result c.first_end-2.result c.in-Some.is c.requires.firsts
    c.first_end.ensures (c.first_end-2.ensures ∙ ap (option_map (λ switch. switch.a)) c.switch_there-new.ensures.value) c.move_place.ensures.moves

pub returns-clause-seconds : goal.returns-clause-seconds
returns-clause-seconds c =
    AreListed-moved_to (λ switch. switch.b) c.args.graph.now c.args.change.now (c.in-Some.place, c.in-Some.old)
    (places_of c.args.ends.now.seconds.items) (places_of c.move_place-2.new.lists.items) c.second_end.result c.second_end-2.result c.in-Some.is c.requires.seconds
    c.second_end.ensures (c.second_end-2.ensures ∙ ap (option_map (λ switch. switch.b)) c.switch_there-new.ensures.value) c.move_place-2.ensures.moves
