-- Without parts there is nothing to run.
use Rattle.truth_machine.proofs.GearLemmas.{IsTruthMachine-still}
use Rattle.truth_machine.proofs.machine.TruthMachine.hold.Goals as goal

pub invariant_of-self : goal.invariant_of-self
invariant_of-self g c =
    let truths = c.self.inside.truths in
    let gear = rw (← c.self.view_is) at c.requires.gear in
    let columns = rw (← c.self.view_is) at c.requires.columns in
    let high_has = rw (← c.self.view_is) at c.requires.high_has in
    let low_has = rw (← c.self.view_is) at c.requires.low_has in (
      IsTruthMachine-still (g.T.Truths.columns truths) (g.T.Truths.has truths) (g.T.Truths.holds truths) c.args.gear c.args.hi.items c.args.lo.items gear
          columns high_has low_has,
      gear.workspace_is,
    )

pub returns : goal.returns
returns g c = rw (← c.self.view_is) (rw (c.requires.gear.parts_are, c.requires.gear.agenda_is))
