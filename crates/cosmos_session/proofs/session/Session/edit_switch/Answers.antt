-- Something else stands at a transistor's place; there are as many nodes as before.
use Rattle.std.proofs.Common.{refl, ap}
use Rattle.script_lang.specs.declared.command.Command.TheVariants as family
use Rattle.column_stage.specs.Edits.{IsUndone}
use Rattle.session_meaning.specs.Sessions.{HeldSession, SessionData}
use Rattle.session_meaning.specs.Switches.{edit_of, edit_fault}
use Rattle.session_meaning.proofs.UndoLemmas.{undoes-place}
use Rattle.session_meaning.proofs.EditLemmas.{asks_edit, core_edited, held_edited, quietly_as, refusal_of-switch, refused_quietly, room_place, same_halted, switched_does, the_fault}
use Rattle.session_meaning.proofs.StayingLemmas.{session_of}
use Rattle.cosmos_session.proofs.session.Session.edit_switch.Given.{Over}
use Rattle.cosmos_session.proofs.session.Session.edit_switch.Goals.{In-Ok}
use Rattle.cosmos_session.proofs.session.Session.edit_switch.Goals as goal

-- the change undoes the edit
undone : (g : Over) (c : In-Ok g) → IsUndone (session_of c.self.invariant.0).core.circuit.graph c.edited.new.circuit.graph c.change_of-change.result
undone g c =
    undoes-place (session_of c.self.invariant.0).core.circuit c.edited.new.circuit _ _ c.self.invariant.0.core.ready.netlist c.graph.ensures.value c.args.number _
    c.change_of-change.ensures c.in-Ok.ensures.ok

pub edit_stage-requires-clause-some : goal.edit_stage-requires-clause-some
edit_stage-requires-clause-some g c = c.self.invariant.0.some

pub edit_stage-requires-clause-before : goal.edit_stage-requires-clause-before
edit_stage-requires-clause-before g c =
    rw c.graph-in-Ok.ensures.value
    (asks_edit g.M.Columns.columns g.M.Columns.states g.M.Columns.serves _ c.self.invariant.0 c.edited.new.circuit.graph c.change_of-change.result
    c.self.inside.stage (g.M.Columns.spare c.self.inside.stage) _ (undone g (goal.at.edit_stage-requires-clause-before g c).In-Ok)
    c.self.invariant.0.sound (room_place _ c.edited.new.circuit c.args.number _ _ c.in-Ok.ensures.ok) c.self.invariant.0.served)

pub invariant_of-self : goal.invariant_of-self
invariant_of-self g c = (
  held_edited g.M.Columns.columns g.M.Columns.states g.M.Columns.serves _ c.edited.new.circuit c.edit_stage.new.stage c.edit_stage.new.kept.bound _
      (rw c.graph-in-Ok.ensures.value at c.edit_stage.ensures.state) c.edit_stage.ensures.bound c.edit_stage.ensures.kept
      c.graph-in-Ok.ensures.netlist (undone g (goal.at.invariant_of-self g c).In-Ok).more c.edit_stage.ensures.columns
      (rw c.graph-in-Ok.ensures.value at c.edit_stage.ensures.states)
      (rw c.graph-in-Ok.ensures.value at c.edit_stage.ensures.serves) c.self.invariant.0,
  c.edit_stage.ensures.last,
)

pub returns-in-Ok-clause-quiet : goal.returns-in-Ok-clause-quiet
returns-in-Ok-clause-quiet g c =
    rw (← c.self.view_is)
    (switched_does (session_of c.self.invariant.0).core _ c.edited.new.circuit c.args.number c.args.edit c.in-Ok.ensures.answer c.in-Ok.ensures.ok
    (core_edited g.M.Columns.columns g.M.Columns.states g.M.Columns.serves (session_of c.self.invariant.0) c.edited.new.circuit c.edit_stage.new.stage
    c.edit_stage.new.kept.bound _ (rw c.graph-in-Ok.ensures.value at c.edit_stage.ensures.state) c.edit_stage.ensures.bound c.edit_stage.ensures.kept))

pub returns-in-Err-clause-quiet : goal.returns-in-Err-clause-quiet
returns-in-Err-clause-quiet g c =
    let session = session_of c.self.invariant.0 in
    let core = session.core in
    let command = family.Edit (edit_of c.args.number c.args.edit) in
    let found = edit_fault core.circuit c.args.number c.args.edit in
    let new : SessionData = record core { circuit = c.edited.new.circuit } in
    quietly_as core c.args.self.now.core new command c.in-Err.fault c.of_edit.result (ap (λ (s : HeldSession _). s.core) c.self.view_is) c.of_edit.ensures
    (refused_quietly core new command found c.in-Err.fault (refusal_of-switch core c.args.number c.args.edit)
    (the_fault found c.in-Err.fault c.in-Err.ensures.answer)
    (same_halted core c.edited.new.circuit core.state core.kept c.in-Err.ensures.err refl refl))
