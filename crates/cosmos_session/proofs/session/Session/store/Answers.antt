-- The level of a node is set; there are as many nodes as before.
use Rattle.column_stage.specs.Edits.{IsUndone}
use Rattle.session_meaning.proofs.EditLemmas.{asks_edit, held_edited, room_level}
use Rattle.session_meaning.proofs.StayingLemmas.{session_of}
use Rattle.session_meaning.proofs.UndoLemmas.{undoes-level}
use Rattle.cosmos_session.proofs.session.Session.store.Given.{Over}
use Rattle.cosmos_session.proofs.session.Session.store.Goals.{In-Ok}
use Rattle.cosmos_session.proofs.session.Session.store.Goals as goal

-- the change undoes the edit
undone : (g : Over) (c : In-Ok g) →
    IsUndone (session_of c.self.invariant.0).core.circuit.graph c.make_store.new.self.graph c.change_of_level-change.result
undone g c =
    undoes-level (session_of c.self.invariant.0).core.circuit c.make_store.new.self _ _ c.self.invariant.0.core.ready.netlist c.graph.ensures.value c.in-Some.node _
    c.change_of_level-change.ensures c.in-Ok.ensures.ok

pub edit_stage-requires-clause-some : goal.edit_stage-requires-clause-some
edit_stage-requires-clause-some g c = c.self.invariant.0.some

pub edit_stage-requires-clause-before : goal.edit_stage-requires-clause-before
edit_stage-requires-clause-before g c =
    rw c.graph-in-Ok.ensures.value
    (asks_edit g.M.Columns.columns g.M.Columns.states g.M.Columns.serves _ c.self.invariant.0 c.make_store.new.self.graph c.change_of_level-change.result
    c.self.inside.stage (g.M.Columns.spare c.self.inside.stage) _ (undone g (goal.at.edit_stage-requires-clause-before g c).In-Ok)
    c.self.invariant.0.sound (room_level _ c.make_store.new.self c.in-Some.node _ _ c.in-Ok.ensures.ok) c.self.invariant.0.served)

pub invariant_of-self : goal.invariant_of-self
invariant_of-self g c = (
  held_edited g.M.Columns.columns g.M.Columns.states g.M.Columns.serves _ c.make_store.new.self c.edit_stage.new.stage c.edit_stage.new.kept.bound _
      (rw c.graph-in-Ok.ensures.value at c.edit_stage.ensures.state) c.edit_stage.ensures.bound c.edit_stage.ensures.kept
      c.graph-in-Ok.ensures.netlist (undone g (goal.at.invariant_of-self g c).In-Ok).more c.edit_stage.ensures.columns
      (rw c.graph-in-Ok.ensures.value at c.edit_stage.ensures.states)
      (rw c.graph-in-Ok.ensures.value at c.edit_stage.ensures.serves) c.self.invariant.0,
  c.edit_stage.ensures.last,
)
