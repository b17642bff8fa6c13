-- The first pass tells what is beaten; with it the other two tell the steady states.
use Rattle.std.proofs.Common.{arith, rules}
use Rattle.switch_paths.specs.Step.{IsResponse}
use Rattle.vicinity.specs.NodeSets.{IsIn}
use Rattle.vicinity.specs.Entries.{AreBest}
use Rattle.vicinity.specs.Touching.{IsAwake}
use Rattle.vicinity.specs.Evaluating.{HasRails}
use Rattle.vicinity.proofs.CarriedPaths.{IsClosedSet}
use Rattle.vicinity.proofs.EntryLemmas.{are_best}
use Rattle.vicinity.proofs.EvaluationLemmas.{Notes-as, awake_closed, some_entry, rails_respond}
use Rattle.vicinity.proofs.evaluation.evaluate_in.Given.{Over}
use Rattle.vicinity.proofs.evaluation.evaluate_in.Goals.{After-run_pass}
use Rattle.vicinity.proofs.evaluation.evaluate_in.Goals as goal

-- what is awake is a closed set
closed : (g : Over) (c : After-run_pass g) → IsClosedSet c.args.graph.now c.args.state.now (IsIn c.flood.new.awake.inside)
closed g c = awake_closed c.args.graph.now c.args.state.now c.args.touched.now c.flood.new.awake.inside c.flood.ensures.awake c.flood.ensures.all

-- the first table tells what is beaten
best : (g : Over) (c : After-run_pass g) → AreBest c.args.graph.now c.args.state.now c.flood.new.awake.inside c.run_pass.new.table
best g c =
    are_best c.args.graph.now c.graphs_are_wired.ensures c.args.state.now c.flood.new.awake.inside (closed g c) c.args.floor.now c.run_pass.new.table
    (λ node is. c.requires.room.bottom node) c.run_pass.ensures.entries

pub run_pass-requires-2-clause-sweep : goal.run_pass-requires-2-clause-sweep
run_pass-requires-2-clause-sweep g c =
    let unbeaten = (best g (goal.at.run_pass-requires-2-clause-sweep g c).After-run_pass).unbeaten in
    search (rules, unbeaten)

pub run_pass-requires-3-clause-sweep : goal.run_pass-requires-3-clause-sweep
run_pass-requires-3-clause-sweep g c = record {
  states = c.requires.counted;
  lists = c.requires.lists;
  awake = omega arith;
  floors = omega arith;
  floor = λ node is strength most. (best g (goal.at.run_pass-requires-3-clause-sweep g c).After-run_pass).unbeaten node strength is most;
}

pub note_all-requires-clause-some : goal.note_all-requires-clause-some
note_all-requires-clause-some g c =
    let begin = (goal.at.note_all-requires-clause-some g c).After-run_pass in
    some_entry c.args.graph.now c.graphs_are_wired.ensures c.args.state.now c.flood.new.awake.inside (closed g begin) c.run_pass.new.table
    c.run_pass-2.new.table c.run_pass-3.new.table (best g begin) c.run_pass-2.ensures.entries c.run_pass-3.ensures.entries

pub returns-clause-changes : goal.returns-clause-changes
returns-clause-changes g c =
    let begin = (goal.at.returns-clause-changes g c).After-run_pass in
    let graph = c.args.graph.now in
    let state = c.args.state.now in
    let inside = c.flood.new.awake.inside in
    Notes-as (IsIn inside) (IsAwake graph state c.args.touched.now) (HasRails c.run_pass-2.new.table c.run_pass-3.new.table) (IsResponse graph state)
    c.args.joining state c.args.changes.now.items c.note_all.new.changes.items c.flood.ensures.all c.flood.ensures.awake
    (rails_respond graph c.graphs_are_wired.ensures state inside (closed g begin) c.run_pass.new.table c.run_pass-2.new.table c.run_pass-3.new.table
    (best g begin) c.run_pass-2.ensures.entries c.run_pass-3.ensures.entries)
    c.note_all.ensures.notes
