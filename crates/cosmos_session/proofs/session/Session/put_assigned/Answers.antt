use Rattle.std.proofs.Common.{◌<◌, ℕ, All, length, refl, sym, ap, subst, ◌∙◌}
use Rattle.ternary.specs.declared.tern.Tern.{Tern}
use Rattle.switch_paths.specs.Graphs.{nodes}
use Rattle.switch_paths.specs.Rails.{IsSound}
use Rattle.analysis_cache.specs.Keeping.{texts_of}
use Rattle.column_stage.proofs.SoundLemmas.{sound_alone}
use Rattle.session_meaning.specs.Sessions.{HeldSession}
use Rattle.session_meaning.proofs.StateLemmas.{length-assigned, sound-assigned}
use Rattle.session_meaning.proofs.StayingLemmas.{core_given, session_of, sound_held}
use Rattle.cosmos_session.proofs.StageLemmas.{stage_moved, used_same}
use Rattle.cosmos_session.proofs.session.Session.put_assigned.Goals as goal

pub assign-requires-clause-one : goal.assign-requires-clause-one
assign-requires-clause-one g c = g.met.M.PlainStage.one c.self.inside.stage

pub assign-requires-clause-sound : goal.assign-requires-clause-sound
assign-requires-clause-sound g c = sound_held g.M.Columns.columns g.M.Columns.states g.M.Columns.serves _ c.self.invariant.0

pub assign-requires-clause-within : goal.assign-requires-clause-within
assign-requires-clause-within g c =
    subst (λ (s : HeldSession _). All (λ (pair : ℕ × Tern). pair.0 < nodes s.core.circuit.graph) c.args.states.now) (sym c.self.view_is) c.requires.within

pub invariant_of-self : goal.invariant_of-self
invariant_of-self g c =
    let session = session_of c.self.invariant.0 in
    let held = c.self.invariant.0 in
    let list = c.args.states.now in
    let stage = c.assign.new.stage in
    stage_moved g.M.Columns.columns g.M.Columns.states g.M.Columns.serves g.M.Columns.last (texts_of c.self.inside.kept) session stage
    session.core.count c.self.invariant refl c.assign.ensures.last (c.assign.ensures.one ∙ sym (g.met.M.PlainStage.one session.stage))
    (sound_alone session.core.circuit.graph (g.M.Columns.columns stage) (g.M.Columns.states stage) c.assign.ensures.one (record {
      counted = ap length c.assign.ensures.state ∙ length-assigned list session.core.state ∙ held.core.ready.states;
      sound = subst IsSound (sym c.assign.ensures.state) (sound-assigned list session.core.state c.requires.past held.core.ready.sound);
    }))
    c.assign.ensures.serves

pub returns-clause-state : goal.returns-clause-state
returns-clause-state g c =
    let table = texts_of c.self.inside.kept in
    rw (← c.self.view_is)
    (core_given (session_of c.self.invariant.0).core _ _ _ c.assign.ensures.state (used_same _ _ table c.assign.ensures.last))

pub returns-clause-stage : goal.returns-clause-stage
returns-clause-stage g c = rw (← c.self.view_is) c.assign.ensures.did
