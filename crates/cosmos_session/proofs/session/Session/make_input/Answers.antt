-- The level of a node is set; there are as many nodes as before.
use Rattle.std.proofs.Common.{ap, ◌∙◌, arith}
use Rattle.netlist.specs.Circuits.{CircuitData}
use Rattle.column_stage.specs.Edits.{IsUndone}
use Rattle.session_meaning.proofs.EditLemmas.{asks_edit, core_kept, held_edited, room_level}
use Rattle.session_meaning.proofs.StayingLemmas.{session_of}
use Rattle.session_meaning.proofs.UndoLemmas.{undoes-level}
use Rattle.cosmos_session.proofs.session.Session.make_input.Given.{Over}
use Rattle.cosmos_session.proofs.session.Session.make_input.Goals.{After-put_input}
use Rattle.cosmos_session.proofs.session.Session.make_input.Goals as goal

-- the change undoes the edit
undone : (g : Over) (c : After-put_input g) →
    IsUndone (session_of c.self.invariant.0).core.circuit.graph c.put_input.new.circuit.graph c.change_of_level-change.result
undone g c =
    undoes-level (session_of c.self.invariant.0).core.circuit c.put_input.new.circuit _ _ c.self.invariant.0.core.ready.netlist c.graph.ensures.value
    c.args.node _ c.change_of_level-change.ensures c.put_input.ensures

pub edit_stage-requires-clause-some : goal.edit_stage-requires-clause-some
edit_stage-requires-clause-some g c = c.self.invariant.0.some

pub edit_stage-requires-clause-before : goal.edit_stage-requires-clause-before
edit_stage-requires-clause-before g c =
    rw c.graph-2.ensures.value
    (asks_edit g.M.Columns.columns g.M.Columns.states g.M.Columns.serves _ c.self.invariant.0 c.put_input.new.circuit.graph c.change_of_level-change.result
    c.self.inside.stage (g.M.Columns.spare c.self.inside.stage) _ (undone g (goal.at.edit_stage-requires-clause-before g c).After-put_input)
    c.self.invariant.0.sound (room_level _ c.put_input.new.circuit c.args.node _ _ c.put_input.ensures) c.self.invariant.0.served)

pub invariant_of-self : goal.invariant_of-self
invariant_of-self g c = (
  held_edited g.M.Columns.columns g.M.Columns.states g.M.Columns.serves _ c.put_input.new.circuit c.edit_stage.new.stage c.edit_stage.new.kept.bound _
      (rw c.graph-2.ensures.value at c.edit_stage.ensures.state) c.edit_stage.ensures.bound c.edit_stage.ensures.kept
      c.graph-2.ensures.netlist (undone g (goal.at.invariant_of-self g c).After-put_input).more c.edit_stage.ensures.columns
      (rw c.graph-2.ensures.value at c.edit_stage.ensures.states)
      (rw c.graph-2.ensures.value at c.edit_stage.ensures.serves) c.self.invariant.0,
  c.edit_stage.ensures.last,
)

pub returns-clause-made : goal.returns-clause-made
returns-clause-made g c =
    let core = (session_of c.self.invariant.0).core in
    let room = room_level core.circuit c.put_input.new.circuit c.args.node _ 0 c.put_input.ensures in
    rw (← c.self.view_is)
    (core_kept g.M.Columns.columns g.M.Columns.states g.M.Columns.serves (session_of c.self.invariant.0) c.put_input.new.circuit
    c.edit_stage.new.stage
    c.edit_stage.new.kept.bound _
    (rw c.graph-2.ensures.value at c.edit_stage.ensures.state) c.edit_stage.ensures.bound c.edit_stage.ensures.kept
    (omega (arith, room, c.self.invariant.0.core.ready.states))
    ∙ ap (λ (circuit : CircuitData). record core { circuit = circuit }) c.put_input.ensures)

pub returns-clause-stage : goal.returns-clause-stage
returns-clause-stage g c = rw (← c.self.view_is) c.edit_stage.ensures.did
