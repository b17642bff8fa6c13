-- It leaves the record, or goes by itself already.
use Rattle.std.proofs.Common.{subst}
use Rattle.beside_run.specs.Running.{IsRunBeside}
use Rattle.fault_stage.specs.Runs.{GoesAlone, GoesIn, GoesRecorded}
use Rattle.fault_stage.proofs.CourseLemmas.{left_alone, stays_alone}
use Rattle.fault_stage.proofs.placing.go_alone.Goals as goal

pub leave-requires : goal.leave-requires
leave-requires c =
    let is : IsRunBeside c.args.good.now.graph c.args.good.now.run c.args.graph.now c.args.machine.now c.args.state.now _ =
    subst (GoesIn c.args.good.now c.args.graph.now c.args.machine.now c.args.state.now) c.in-Beside.is c.requires.goes in
    record { fits = is.fits.fits; counted = is.state_counted; sound = c.requires.sound }

pub returns-in-Beside : goal.returns-in-Beside
returns-in-Beside c = left_alone c.args.graph.now c.args.state.now c.args.machine.now c.leave.new.machine c.leave.ensures

pub returns-in-Recorded : goal.returns-in-Recorded
returns-in-Recorded c =
    let goes : GoesRecorded c.args.good.now c.args.graph.now c.args.machine.now c.args.state.now =
    subst (GoesIn c.args.good.now c.args.graph.now c.args.machine.now c.args.state.now) c.in-Recorded.is c.requires.goes in
    stays_alone c.args.graph.now c.args.state.now c.args.machine.now goes.alone

pub returns-in-Alone : goal.returns-in-Alone
returns-in-Alone c =
    let goes : GoesAlone c.args.graph.now c.args.machine.now c.args.state.now =
    subst (GoesIn c.args.good.now c.args.graph.now c.args.machine.now c.args.state.now) c.in-Alone.is c.requires.goes in
    stays_alone c.args.graph.now c.args.state.now c.args.machine.now goes
