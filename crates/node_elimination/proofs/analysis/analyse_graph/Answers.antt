-- The inputs are made, then the levels; the pairs of the last one are the answers.
use Rattle.std.proofs.Common.{◌*◌, [], arith}
use Rattle.switch_paths.specs.Graphs.{nodes}
use Rattle.node_elimination.proofs.AnalysisLemmas.{AreInside-pairs, ReachAtMost-analysed, HasVariablesBelow-analysed, AreRails-shown, steps-analysed}
use Rattle.node_elimination.proofs.analysis.analyse_graph.Goals as goal

pub returns-in_err-drives-clause-few : goal.returns-in_err-drives-clause-few
returns-in_err-drives-clause-few g c =
    steps-analysed c.args.graph.now c.args.members c.args.steps.now c.make_inputs.new.steps c.go_down.new.steps
    c.requires.members (omega arith) (omega arith) (omega arith)

pub returns-in_err-pairs-clause-few : goal.returns-in_err-pairs-clause-few
returns-in_err-pairs-clause-few g c =
    steps-analysed c.args.graph.now c.args.members c.args.steps.now c.make_inputs.new.steps c.go_down.new.steps
    c.requires.members (omega arith) (omega arith) (omega arith)

pub returns-clause-few : goal.returns-clause-few
returns-clause-few g c =
    steps-analysed c.args.graph.now c.args.members c.args.steps.now c.make_inputs.new.steps c.go_down.new.steps
    c.requires.members (omega arith) (omega arith) (omega arith)

pub go_down-requires-clause-members : goal.go_down-requires-clause-members
go_down-requires-clause-members g c = record { constants = c.args.constants.now; text = c.requires }

pub returns-clause-formulas : goal.returns-clause-formulas
returns-clause-formulas g c =
    AreInside-pairs c.go_down.new.pool c.args.members c.in_ok-drives.drives c.in_ok-pairs.field-0.items
    c.in_ok-drives.ensures.drives
    (rw (c.deref.ensures.value, c.deref-2.ensures.value) at c.in_ok-pairs.ensures)

pub returns-clause-responses : goal.returns-clause-responses
returns-clause-responses g c = λ state vars assigned.
    AreRails-shown c.args.graph.now c.graphs_are_wired.ensures c.args.members c.go_down.new.pool c.in_ok-drives.drives
    c.in_ok-pairs.field-0.items state vars c.in_ok-drives.ensures.drives
    (rw (c.deref.ensures.value, c.deref-2.ensures.value) at c.in_ok-pairs.ensures)
    (c.in_ok-drives.ensures.shows state vars (c.in_ok-inputs.ensures.shows state vars assigned))

pub returns-clause-gates : goal.returns-clause-gates
returns-clause-gates g c =
    ReachAtMost-analysed c.args.graph.now c.args.members c.make_inputs.new.pool c.go_down.new.pool c.in_ok-inputs.inputs
    c.in_ok-drives.drives c.in_ok-pairs.field-0.items c.make_inputs.new.steps c.go_down.new.steps
    c.in_ok-drives.ensures.drives
    (rw (c.deref.ensures.value, c.deref-2.ensures.value) at c.in_ok-pairs.ensures)
    (c.in_ok-inputs.ensures.grown [] (2 * nodes c.args.graph.now) (omega arith)) c.in_ok-drives.ensures.grows
    (omega arith) (omega arith) (omega arith)

pub returns-clause-variables : goal.returns-clause-variables
returns-clause-variables g c =
    HasVariablesBelow-analysed c.args.graph.now c.args.members c.make_inputs.new.pool c.go_down.new.pool
    c.in_ok-inputs.inputs
    c.in_ok-drives.drives c.in_ok-pairs.field-0.items c.make_inputs.new.steps c.go_down.new.steps
    c.in_ok-drives.ensures.drives
    (rw (c.deref.ensures.value, c.deref-2.ensures.value) at c.in_ok-pairs.ensures)
    (c.in_ok-inputs.ensures.grown [] (2 * nodes c.args.graph.now) (omega arith)) c.in_ok-drives.ensures.grows
