-- The course says how it settles.
use Rattle.std.proofs.Common.{refl, subst}
use Rattle.fault_stage.specs.Runs.{GoesIn}
use Rattle.fault_stage.proofs.settling_beside.settle_in.Goals as goal

pub settle_recorded-requires-clause-goes : goal.settle_recorded-requires-clause-goes
settle_recorded-requires-clause-goes g c =
    subst (GoesIn c.args.good.now c.args.graph.now c.args.machine.now c.args.state.now) c.in-Recorded.is c.requires.goes

pub settle_next-requires-clause-goes : goal.settle_next-requires-clause-goes
settle_next-requires-clause-goes g c =
    subst (GoesIn c.args.good.now c.args.graph.now c.args.machine.now c.args.state.now) c.in-Beside.is c.requires.goes

pub settle_alone-told-requires-clause-goes : goal.settle_alone-told-requires-clause-goes
settle_alone-told-requires-clause-goes g c =
    subst (GoesIn c.args.good.now c.args.graph.now c.args.machine.now c.args.state.now) c.in-Alone.is c.requires.goes

pub returns-in-Alone-clause-settles : goal.returns-in-Alone-clause-settles
returns-in-Alone-clause-settles g c =
    let settles = c.settle_alone-told.ensures.settles in
    record { goes = record { fits = settles.fits; state_is = refl }; last = settles.last; takes = settles.takes }
