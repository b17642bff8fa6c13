-- The nodes before this one are done; and what is left leads on from here.
use Rattle.std.proofs.Common.{◌≡◌, List, drop}
use Rattle.group_text.specs.Texts.{GroupTextData}
use Rattle.column_stage.specs.Acts.{Leads}
use Rattle.column_stage.specs.Columns.{IsSoundState}
use Rattle.session_meaning.specs.Effects.{assigned}
use Rattle.session_meaning.specs.Stages.{acts_of_states}
use Rattle.cosmos_session.proofs.giving.assign.Given as goal

abbrev pub invariant-loop-node : goal.invariant-loop-node
invariant-loop-node g l = record {
  one : g.M.Columns.columns l.stage ≡ 1;
  state : assigned (g.M.Columns.states l.stage 0) (drop l.node-index l.states) ≡ assigned (g.M.Columns.states l.fn.stage 0) l.states;
  sound : IsSoundState l.circuit.graph (g.M.Columns.states l.stage 0);
  last : g.M.Columns.last l.stage ≡ g.M.Columns.last l.fn.stage;
  serves : (kept : List GroupTextData) → g.M.Columns.serves l.fn.stage l.circuit.graph kept → g.M.Columns.serves l.stage l.circuit.graph kept;
  did : (end : _) → Leads g.M.Columns.did l.stage (acts_of_states l.circuit.graph (drop l.node-index l.states)) end →
      Leads g.M.Columns.did l.fn.stage (acts_of_states l.circuit.graph l.states) end;
}
