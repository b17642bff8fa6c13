-- A transistor gets other terminals; its names may make nodes, for which there is room.
use Rattle.std.proofs.Common.{◌≤◌, ℕ, List, refl, sym, ap, subst, ◌∙◌}
use Rattle.group_text.specs.Texts.{GroupTextData}
use Rattle.group_analysis.specs.Using.{used_texts}
use Rattle.analysis_cache.specs.Keeping.{texts_of}
use Rattle.netlist.specs.Edits.{wire_fault}
use Rattle.column_stage.specs.Acts.{Reserved}
use Rattle.column_stage.specs.Edits.{IsUndone}
use Rattle.column_stage.proofs.LeadingLemmas.{leads_by_both, leads_by_one}
use Rattle.column_stage.proofs.SoundLemmas.{sound_still}
use Rattle.script_lang.specs.declared.command.Command.TheVariants as family
use Rattle.script_lang.specs.declared.command.Edit.TheVariants.{Wire}
use Rattle.session_meaning.specs.Sessions.{HeldSession, SessionData}
use Rattle.session_meaning.specs.Stages.{IsEditing}
use Rattle.session_meaning.proofs.UndoLemmas.{undoes-wires}
use Rattle.session_meaning.proofs.EditLemmas.{grown_behind, asks_edit, core_edited, held_edited, lacking_quietly, quietly_as, rewired_does, room_wires, same_halted}
use Rattle.session_meaning.proofs.StayingLemmas.{session_of}
use Rattle.cosmos_session.proofs.session.Session.rewire.Given.{Over}
use Rattle.cosmos_session.proofs.session.Session.rewire.Goals.{In-Ok}
use Rattle.cosmos_session.proofs.session.Session.rewire.Goals as goal

-- the change undoes the edit
undone : (g : Over) (c : In-Ok g) → IsUndone (session_of c.self.invariant.0).core.circuit.graph c.rewire.new.self.graph c.change_of-change.result
undone g c =
    undoes-wires (session_of c.self.invariant.0).core.circuit c.rewire.new.self _ _ c.self.invariant.0.core.ready.netlist c.graph.ensures.value c.args.number
    c.items-gate.result.now c.items-source.result.now c.items-drain.result.now c.change_of-change.ensures c.in-Ok.ensures.ok

pub take_room-requires : goal.take_room-requires
take_room-requires g c = c.self.invariant.0.some

pub edit_stage-requires-clause-some : goal.edit_stage-requires-clause-some
edit_stage-requires-clause-some g c = subst (λ (n : ℕ). 1 ≤ n) (sym c.take_room.ensures.columns) c.self.invariant.0.some

pub edit_stage-requires-clause-before : goal.edit_stage-requires-clause-before
edit_stage-requires-clause-before g c =
    let session = session_of c.self.invariant.0 in
    let stage = c.take_room.new.stage in
    let serves : g.M.Columns.serves stage session.core.circuit.graph (used_texts (g.M.Columns.last stage) (texts_of c.self.inside.kept)) =
    subst (λ (last : List GroupTextData). g.M.Columns.serves stage session.core.circuit.graph (used_texts last (texts_of c.self.inside.kept)))
    (sym c.take_room.ensures.last) (c.take_room.ensures.serves session.core.circuit.graph session.core.kept c.self.invariant.0.served) in
    rw c.graph-in-Ok.ensures.value
    (asks_edit g.M.Columns.columns g.M.Columns.states g.M.Columns.serves session c.self.invariant.0 c.rewire.new.self.graph c.change_of-change.result
    stage (g.M.Columns.spare stage) _ (undone g (goal.at.edit_stage-requires-clause-before g c).In-Ok)
    (sound_still g.M.Columns.columns g.M.Columns.states session.core.circuit.graph c.self.inside.stage stage c.take_room.ensures.columns c.take_room.ensures.states
    c.self.invariant.0.sound)
    (room_wires session.core.circuit c.rewire.new.self c.args.number (g.M.Columns.spare stage)
    c.items-gate.result.now c.items-source.result.now c.items-drain.result.now c.in-Ok.ensures.ok c.in_ok-take_room.ensures.room) serves)

pub invariant_of-self-in-Ok : goal.invariant_of-self-in-Ok
invariant_of-self-in-Ok g c =
    let session = session_of c.self.invariant.0 in
    let table = texts_of c.self.inside.kept in
    let front = ap (λ (last : List GroupTextData). used_texts last table) c.take_room.ensures.last in (
      held_edited g.M.Columns.columns g.M.Columns.states g.M.Columns.serves session c.rewire.new.self c.edit_stage.new.stage c.edit_stage.new.kept.bound _
          (rw (c.graph-in-Ok.ensures.value, c.take_room.ensures.state) at c.edit_stage.ensures.state) c.edit_stage.ensures.bound
          (c.edit_stage.ensures.kept ∙ front) c.graph-in-Ok.ensures.netlist (undone g (goal.at.invariant_of-self-in-Ok g c).In-Ok).more
          (c.edit_stage.ensures.columns ∙ c.take_room.ensures.columns)
          (grown_behind g.M.Columns.columns g.M.Columns.states g.M.Columns.serves c.self.inside.stage c.take_room.new.stage c.edit_stage.new.stage _
          c.take_room.ensures.columns c.take_room.ensures.states (rw c.graph-in-Ok.ensures.value at c.edit_stage.ensures.states))
          (rw (c.graph-in-Ok.ensures.value, c.take_room.ensures.last) at c.edit_stage.ensures.serves) c.self.invariant.0,
      c.edit_stage.ensures.last,
    )

pub returns-in-Ok-clause-quiet : goal.returns-in-Ok-clause-quiet
returns-in-Ok-clause-quiet g c =
    let session = session_of c.self.invariant.0 in
    let table = texts_of c.self.inside.kept in
    let front = ap (λ (last : List GroupTextData). used_texts last table) c.take_room.ensures.last in
    rw (← c.self.view_is)
    (rewired_does session.core _ c.rewire.new.self c.args.number c.args.gate.now c.args.source.now c.args.drain.now
    (rw (c.items-gate.ensures, c.items-source.ensures, c.items-drain.ensures) at c.in-Ok.ensures.allowed)
    (rw (c.items-gate.ensures, c.items-source.ensures, c.items-drain.ensures) at c.in-Ok.ensures.ok)
    (core_edited g.M.Columns.columns g.M.Columns.states g.M.Columns.serves session c.rewire.new.self c.edit_stage.new.stage c.edit_stage.new.kept.bound _
    (rw (c.graph-in-Ok.ensures.value, c.take_room.ensures.state) at c.edit_stage.ensures.state) c.edit_stage.ensures.bound
    (c.edit_stage.ensures.kept ∙ front)))

-- room was taken, and the graph was edited
pub returns-in-Ok-clause-stage : goal.returns-in-Ok-clause-stage
returns-in-Ok-clause-stage g c =
    rw (← c.self.view_is)
    (leads_by_both g.M.Columns.did IsEditing c.self.inside.stage c.take_room.new.stage c.edit_stage.new.stage
    (leads_by_one g.M.Columns.did IsEditing Reserved c.self.inside.stage c.take_room.new.stage tt c.take_room.ensures.did) c.edit_stage.ensures.did)

pub returns-in-Err-clause-quiet : goal.returns-in-Err-clause-quiet
returns-in-Err-clause-quiet g c =
    let session = session_of c.self.invariant.0 in
    let core = session.core in
    let command = family.Edit (Wire c.args.number c.args.gate.now c.args.source.now c.args.drain.now) in
    let found = wire_fault core.circuit c.args.number c.args.gate.now c.args.source.now c.args.drain.now in
    let kept : List GroupTextData = used_texts (g.M.Columns.last c.take_room.new.stage) (texts_of c.self.inside.kept) in
    let new : SessionData = record core { circuit = c.rewire.new.self; state = g.M.Columns.states c.take_room.new.stage 0; kept = kept } in
    quietly_as core c.args.self.now.core new command c.in-Err.fault c.of_edit.result (ap (λ (s : HeldSession _). s.core) c.self.view_is) c.of_edit.ensures
    (lacking_quietly core new command found c.in-Err.fault refl
    (rw (c.items-gate.ensures, c.items-source.ensures, c.items-drain.ensures) at c.in-Err.ensures.refused)
    (same_halted core c.rewire.new.self _ _ c.in-Err.ensures.err c.take_room.ensures.state
    (ap (λ (last : List GroupTextData). used_texts last (texts_of c.self.inside.kept)) c.take_room.ensures.last)))
