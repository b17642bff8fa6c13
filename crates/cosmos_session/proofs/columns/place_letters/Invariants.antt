-- The names before this one are done; and what is left leads on from here.
use Rattle.std.proofs.Common.{◌≡◌, List, drop}
use Rattle.group_text.specs.Texts.{GroupTextData}
use Rattle.column_stage.specs.Acts.{Leads}
use Rattle.column_stage.specs.Columns.{AreSound}
use Rattle.session_meaning.specs.Columns.{acts_of_letters}
use Rattle.cosmos_session.proofs.columns.place_letters.Given as goal

abbrev pub invariant-loop-name : goal.invariant-loop-name
invariant-loop-name g l = record {
  columns : g.M.Columns.columns l.stage ≡ g.M.Columns.columns l.fn.stage;
  sound : AreSound l.circuit.graph (g.M.Columns.columns l.stage) (g.M.Columns.states l.stage);
  last : g.M.Columns.last l.stage ≡ g.M.Columns.last l.fn.stage;
  serves : (kept : List GroupTextData) → g.M.Columns.serves l.fn.stage l.circuit.graph kept → g.M.Columns.serves l.stage l.circuit.graph kept;
  did : (end : _) → Leads g.M.Columns.did l.stage (acts_of_letters l.circuit (drop l.name-index l.list)) end →
      Leads g.M.Columns.did l.fn.stage (acts_of_letters l.circuit l.list) end;
}
