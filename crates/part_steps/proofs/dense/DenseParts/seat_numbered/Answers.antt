-- The code stands at its place, and then the map comes.
use Rattle.std.proofs.Common.{subst}
use Rattle.part_steps.specs.Dense.{IsMapAt}
use Rattle.part_steps.proofs.DenseLemmas.{seat_made}
use Rattle.part_steps.proofs.dense.DenseParts.seat_numbered.Goals as goal

pub returns-clause-seat : goal.returns-clause-seat
returns-clause-seat c =
    seat_made c.args.part.now c.in-Some.code c.place_same.new.self c.add_map.new.self c.in_ok-place.place c.in_ok-at.at c.requires c.in-Some.is
    c.in_ok-place.ensures.there c.add_map.ensures.more
    (subst (IsMapAt c.add_map.new.self.nodes.items c.in_ok-at.at) c.deref.ensures.value c.in_ok-at.ensures.there)
