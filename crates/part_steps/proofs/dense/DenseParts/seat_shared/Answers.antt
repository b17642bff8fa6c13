-- The code stands at its place, and then the map comes.
use Rattle.std.proofs.Common.{subst}
use Rattle.part_steps.specs.Dense.{IsMapAt}
use Rattle.part_steps.proofs.DenseLemmas.{places_more, seat_made}
use Rattle.part_steps.proofs.dense.DenseParts.seat_shared.Goals as goal

pub returns-in_err-at-clause-places : goal.returns-in_err-at-clause-places
returns-in_err-at-clause-places c list numbered are =
    places_more list c.place_of.new.self c.add_map.new.self c.place_of.new.places c.add_map.ensures.more
    (c.place_of.ensures.places list (numbered c.in-Some.code c.in-Some.is) are)

pub returns-clause-seat : goal.returns-clause-seat
returns-clause-seat c list numbered are =
    seat_made c.args.part.now c.in-Some.code c.place_of.new.self c.add_map.new.self c.in_ok-place.place c.in_ok-at.at c.requires.inputs c.in-Some.is
    (c.in_ok-place.ensures.place list (numbered c.in-Some.code c.in-Some.is) are) c.add_map.ensures.more
    (subst (IsMapAt c.add_map.new.self.nodes.items c.in_ok-at.at) c.deref.ensures.value c.in_ok-at.ensures.there)

pub returns-clause-places : goal.returns-clause-places
returns-clause-places c list numbered are =
    places_more list c.place_of.new.self c.add_map.new.self c.place_of.new.places c.add_map.ensures.more
    (c.place_of.ensures.places list (numbered c.in-Some.code c.in-Some.is) are)
