-- The node waits for the phase to come, or is placed.
use Rattle.std.proofs.Common.{subst, arith}
use Rattle.fault_stage.specs.Runs.{GoesAlone, GoesIn, GoesRecorded}
use Rattle.beside_run.specs.Running.{IsRunBeside}
use Rattle.fault_stage.proofs.CourseLemmas.{as_many, gives_alone, gives_beside, gives_recorded}
use Rattle.fault_stage.proofs.KnownLemmas.{known_held}
use Rattle.fault_stage.proofs.placing.place_in.Goals as goal

pub give-requires : goal.give-requires
give-requires c =
    let is : IsRunBeside c.args.good.now.graph c.args.good.now.run c.args.graph.now c.args.machine.now c.args.state.now c.in-Beside.run' =
    subst (GoesIn c.args.good.now c.args.graph.now c.args.machine.now c.args.state.now) c.in-Beside.is c.requires.goes in
    omega (arith, c.requires.inside, is.given_counted, is.state_counted)

pub returns-in-Beside-clause-gives : goal.returns-in-Beside-clause-gives
returns-in-Beside-clause-gives c =
    let is : IsRunBeside c.args.good.now.graph c.args.good.now.run c.args.graph.now c.args.machine.now c.args.state.now c.in-Beside.run' =
    subst (GoesIn c.args.good.now c.args.graph.now c.args.machine.now c.args.state.now) c.in-Beside.is c.requires.goes in
    gives_beside c.args.graph.now c.args.state.now c.args.node c.args.value c.args.good.now c.args.machine.now c.in-Beside.run' c.give.new.self _ c.requires.no_rail
    (omega (arith, c.requires.inside, is.state_counted)) is c.give.ensures

pub set_node-requires : goal.set_node-requires
set_node-requires c = record {
  inside = omega (arith, c.requires.inside, as_many c.args.good.now c.args.graph.now c.args.machine.now c.args.state.now c.args.course.now c.requires.goes);
  no_rail = c.requires.no_rail;
}

pub returns-in-Recorded-clause-gives : goal.returns-in-Recorded-clause-gives
returns-in-Recorded-clause-gives c =
    let goes : GoesRecorded c.args.good.now c.args.graph.now c.args.machine.now c.args.state.now =
    subst (GoesIn c.args.good.now c.args.graph.now c.args.machine.now c.args.state.now) c.in-Recorded.is c.requires.goes in
    rw c.in-Recorded.is (gives_recorded c.args.graph.now c.args.state.now c.args.node c.args.value c.args.good.now c.args.machine.now c.set_node.new.self c.set_node.ensures.places
    c.set_node.ensures.fits goes)

pub returns-in-Recorded-clause-known : goal.returns-in-Recorded-clause-known
returns-in-Recorded-clause-known c =
    known_held c.args.graph.now c.args.machine.now c.set_node.new.self c.set_node.ensures.places.held c.set_node.ensures.places.last c.requires.known

pub set_node-requires-in-Alone : goal.set_node-requires-in-Alone
set_node-requires-in-Alone c = record {
  inside = omega (arith, c.requires.inside, as_many c.args.good.now c.args.graph.now c.args.machine.now c.args.state.now c.args.course.now c.requires.goes);
  no_rail = c.requires.no_rail;
}

pub returns-in-Alone-clause-gives : goal.returns-in-Alone-clause-gives
returns-in-Alone-clause-gives c =
    let goes : GoesAlone c.args.graph.now c.args.machine.now c.args.state.now =
    subst (GoesIn c.args.good.now c.args.graph.now c.args.machine.now c.args.state.now) c.in-Alone.is c.requires.goes in
    rw c.in-Alone.is (gives_alone c.args.graph.now c.args.state.now c.args.node c.args.value c.args.good.now c.args.machine.now c.set_node-in-Alone.new.self c.set_node-in-Alone.ensures.places
    c.set_node-in-Alone.ensures.fits goes)

pub returns-in-Alone-clause-known : goal.returns-in-Alone-clause-known
returns-in-Alone-clause-known c =
    known_held c.args.graph.now c.args.machine.now c.set_node-in-Alone.new.self c.set_node-in-Alone.ensures.places.held c.set_node-in-Alone.ensures.places.last c.requires.known
