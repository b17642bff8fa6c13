-- Without parts there is nothing to run.
use Rattle.truth_machine.proofs.GearLemmas.{IsTruthMachine-still}
use Rattle.truth_machine.proofs.machine.TruthMachine.still.Goals as goal

pub invariant_of-result : goal.invariant_of-result
invariant_of-result g c =
    let truths = c.args.truths in (
      IsTruthMachine-still (g.T.Truths.columns truths) (g.T.Truths.has truths) (g.T.Truths.holds truths) c.args.gear c.args.hi.items c.args.lo.items c.requires.gear
          c.requires.columns c.requires.high_has c.requires.low_has,
      c.requires.gear.workspace_is,
    )

pub returns : goal.returns
returns g c = rw (c.requires.gear.parts_are, c.requires.gear.agenda_is)
