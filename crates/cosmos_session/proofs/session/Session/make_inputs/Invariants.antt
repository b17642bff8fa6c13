-- The nodes before this one are input nodes.
use Rattle.std.proofs.Common.{◌≡◌, drop}
use Rattle.switch_paths.specs.Graphs.{nodes}
use Rattle.column_stage.specs.Acts.{LeadsBy}
use Rattle.session_meaning.specs.Effects.{with_inputs}
use Rattle.session_meaning.specs.Stages.{IsEditing}
use Rattle.cosmos_session.proofs.session.Session.make_inputs.Given as goal

abbrev pub invariant-loop-node : goal.invariant-loop-node
invariant-loop-node g l = record {
  made : with_inputs l.self.core.circuit (drop l.node-index l.list) ≡ with_inputs l.initial.self.core.circuit l.list;
  count : nodes l.self.core.circuit.graph ≡ nodes l.initial.self.core.circuit.graph;
  same : l.self.core ≡ record l.initial.self.core { circuit = l.self.core.circuit };
  stage : LeadsBy g.M.Columns.did IsEditing l.initial.self.stage l.self.stage;
}
