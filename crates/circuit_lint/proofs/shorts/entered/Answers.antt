-- A switch from Vdd stands at the place, so it is one of the graph and leads somewhere.
use Rattle.std.proofs.Common.{sym, subst, arith}
use Rattle.circuit_lint.specs.Distances.{IsFound}
use Rattle.circuit_lint.proofs.ClosedLemmas.{some_same, place_inside}
use Rattle.circuit_lint.proofs.shorts.entered.Goals as goal

pub unreachable-requires : goal.unreachable-requires
unreachable-requires c =
    let from = c.requires.1 in
    absurd (omega (arith, place_inside c.args.graph.now c.args.place from.switch from.at_place, c.places.ensures))

pub unreachable-requires-in-None : goal.unreachable-requires-in-None
unreachable-requires-in-None c =
    let leads = c.across.ensures.all c.requires.0 c.requires.1 in
    let none = c.in-None.is in
    absurd (cc (leads, none))

pub returns-clause-found : goal.returns-clause-found
returns-clause-found c =
    let same = some_same (c.in-Some.ensures.all c.requires.0 c.requires.1) in
    subst (IsFound c.args.distance.now) (sym same) c.requires.2
