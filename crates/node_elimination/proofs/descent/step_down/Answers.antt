-- If nothing has the level, the formulas of the level above serve.
use Rattle.node_elimination.specs.Inputs.{input_formulas}
use Rattle.node_elimination.proofs.DescentLemmas.{ShowsLevel-unused, Grows-unused}
use Rattle.node_elimination.proofs.descent.step_down.Goals as goal

pub returns-then-not-is_used-clause-shows : goal.returns-then-not-is_used-clause-shows
returns-then-not-is_used-clause-shows g c = λ state vars shows shown.
    ShowsLevel-unused c.args.graph.now c.args.system.now.size c.args.pool.now c.args.above c.args.level state vars
    (c.is_used.ensures c.if-not-is_used.true) shown

pub returns-then-not-is_used-clause-grows : goal.returns-then-not-is_used-clause-grows
returns-then-not-is_used-clause-grows g c = Grows-unused c.args.pool.now (input_formulas c.args.inputs.now) c.args.above _
