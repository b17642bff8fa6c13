use Rattle.std.proofs.Common.{◌≡◌, List, [], Option, Some, length, refl, sym, ap, subst, ◌∙◌}
use Rattle.std.specs.Prelude.{unwrap_or}
use Rattle.ternary.specs.declared.tern.Tern.{Tern}
use Rattle.switch_paths.specs.Graphs.{nodes}
use Rattle.switch_paths.specs.Rails.{IsSound}
use Rattle.analysis_cache.specs.Keeping.{texts_of}
use Rattle.column_stage.proofs.SoundLemmas.{sound_alone}
use Rattle.session_meaning.specs.Saves.{kept_under, back_to, state_back, FitsSave}
use Rattle.session_meaning.proofs.SaveLemmas.{found-fits, kept-fits, length-back, sound-back}
use Rattle.session_meaning.specs.Refusals.{back_refusal}
use Rattle.session_meaning.proofs.StayingLemmas.{core_given, session_of, sound_held}
use Rattle.cosmos_session.proofs.session.Session.back.Given.{Over}
use Rattle.cosmos_session.proofs.session.Session.back.Goals.{In-Some, After-give_back}
use Rattle.cosmos_session.proofs.StageLemmas.{stage_moved, used_same}
use Rattle.cosmos_session.proofs.session.Session.back.Goals as goal

-- the states that were found are kept under the name
found : (g : Over) (c : In-Some g) → kept_under (session_of c.self.invariant.0).core.saves c.args.name.now ≡ Some c.in-Some.kept.now
found g c = sym (rw (c.items.ensures, c.deref.ensures.value) at c.in-Some.ensures)

-- they fit the circuit
fits : (g : Over) (c : In-Some g) → FitsSave (nodes (session_of c.self.invariant.0).core.circuit.graph) c.in-Some.kept.now
fits g c =
    found-fits (session_of c.self.invariant.0).core c.args.name.now c.in-Some.kept.now c.self.invariant.0.core.ready (found g c)

pub give_back-requires-clause-one : goal.give_back-requires-clause-one
give_back-requires-clause-one g c = g.met.M.PlainStage.one c.self.inside.stage

pub give_back-requires-clause-sound : goal.give_back-requires-clause-sound
give_back-requires-clause-sound g c =
    rw c.graph.ensures.value (sound_held g.M.Columns.columns g.M.Columns.states g.M.Columns.serves _ c.self.invariant.0)

pub give_back-requires-clause-few : goal.give_back-requires-clause-few
give_back-requires-clause-few g c =
    rw (c.items-2.ensures, c.graph.ensures.value) (fits g (goal.at.give_back-requires-clause-few g c).In-Some).few

pub give_back-requires-clause-railed : goal.give_back-requires-clause-railed
give_back-requires-clause-railed g c = rw c.items-2.ensures (fits g (goal.at.give_back-requires-clause-railed g c).In-Some).railed

pub give_back-requires-clause-kept : goal.give_back-requires-clause-kept
give_back-requires-clause-kept g c = rw c.items-2.ensures (fits g (goal.at.give_back-requires-clause-kept g c).In-Some).sound

-- the states are those that were kept, and behind them those of the nodes that were made since
moved : (g : Over) (c : After-give_back g) →
    g.M.Columns.states c.give_back.new.stage 0 ≡ state_back (session_of c.self.invariant.0).core.saves c.args.name.now (session_of c.self.invariant.0).core.state
moved g c =
    let core = (session_of c.self.invariant.0).core in
    (rw c.items-2.ensures at c.give_back.ensures.state)
    ∙ ap (λ (kept : Option (List Tern)). back_to (unwrap_or kept []) core.state) (rw (c.items.ensures, c.deref.ensures.value) at c.in-Some.ensures)

pub invariant_of-self : goal.invariant_of-self
invariant_of-self g c =
    let session = session_of c.self.invariant.0 in
    let held = c.self.invariant.0 in
    let core = session.core in
    let stage = c.give_back.new.stage in
    let is = moved g (goal.at.invariant_of-self g c).After-give_back in
    let kept = kept_under core.saves c.args.name.now in
    let saves = kept-fits (nodes core.circuit.graph) core.saves c.args.name.now held.core.ready.saved in
    stage_moved g.M.Columns.columns g.M.Columns.states g.M.Columns.serves g.M.Columns.last (texts_of c.self.inside.kept) session stage
    core.count c.self.invariant refl c.give_back.ensures.last (c.give_back.ensures.one ∙ sym (g.met.M.PlainStage.one session.stage))
    (sound_alone core.circuit.graph (g.M.Columns.columns stage) (g.M.Columns.states stage) c.give_back.ensures.one (record {
      counted = ap length is ∙ length-back (nodes core.circuit.graph) kept core.state held.core.ready.states saves ∙ held.core.ready.states;
      sound = subst IsSound (sym is) (sound-back (nodes core.circuit.graph) kept core.state held.core.ready.sound saves);
    }))
    (rw c.graph.ensures.value at c.give_back.ensures.serves)

pub returns-clause-stage : goal.returns-clause-stage
returns-clause-stage g c = rw (← c.self.view_is) (rw c.graph.ensures.value at c.give_back.ensures.did)

pub returns-clause-quiet : goal.returns-clause-quiet
returns-clause-quiet g c =
    let at = goal.at.returns-clause-quiet g c in
    let core = (session_of c.self.invariant.0).core in
    let table = texts_of c.self.inside.kept in
    rw (← c.self.view_is) (record {
      allowed = ap back_refusal (found g at.In-Some);
      effect = (
        core_given core _ _ _ (moved g at.After-give_back) (used_same _ _ table c.give_back.ensures.last),
        refl,
      );
    })
