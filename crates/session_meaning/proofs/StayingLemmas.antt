-- A session stays one while its stage moves: the stage has as many columns still, sound states in each, and serves.
use Rattle.std.proofs.Common.{◌≡◌, ℕ, ◌≤◌, List, refl, sym, subst}
use Rattle.ternary.specs.declared.tern.Tern.{Tern}
use Rattle.switch_paths.specs.Graphs.{GraphData}
use Rattle.group_text.specs.Texts.{GroupTextData}
use Rattle.column_stage.specs.Columns.{AreSound, IsSoundState}
use Rattle.column_stage.proofs.SoundLemmas.{first_of_some}
use Rattle.session_meaning.specs.Sessions.{SessionData, HeldSession, IsHeldSession}
use Rattle.session_meaning.proofs.ClockLemmas.{IsSession-beside}

-- the session that a fact is of
abbrev pub session_of : {M : Type 0} {columns : M → ℕ} {states : M → ℕ → List Tern} {serves : M → GraphData → List GroupTextData → Type 0} {session : HeldSession M} →
    IsHeldSession columns states serves session → HeldSession M
session_of {session = session} held = session

-- other states are given, and the texts that are kept are read anew
pub core_given : (session : SessionData) (state next : List Tern) (kept : List GroupTextData) → state ≡ next → kept ≡ session.kept →
    (record session { state = state; kept = kept }) ≡ record session { state = next }
core_given session state next kept given same = λ i. record session { state = given i; kept = same i }

-- so they are, and a line more is counted
pub core_moved : (session : SessionData) (state next : List Tern) (count later : ℕ) (kept : List GroupTextData) → state ≡ next → count ≡ later →
    kept ≡ session.kept → (record session { state = state; count = count; kept = kept }) ≡ record session { state = next; count = later }
core_moved session state next count later kept given counted same = λ i. record session { state = given i; count = counted i; kept = same i }

module _ {M : Type 0} (columns : M → ℕ) (states : M → ℕ → List Tern) (serves : M → GraphData → List GroupTextData → Type 0) where
  -- the states of a session are sound
  pub sound_held : (session : HeldSession M) → IsHeldSession columns states serves session → IsSoundState session.core.circuit.graph (states session.stage 0)
  sound_held session held =
      subst (λ (state : List Tern). IsSoundState session.core.circuit.graph state) (sym held.same)
      (record { counted = held.core.ready.states; sound = held.core.ready.sound })

  -- the session with this stage, so many lines counted, and these texts kept
  abbrev pub moved : HeldSession M → M → ℕ → List GroupTextData → HeldSession M
  moved session stage count kept = record { core = record session.core { state = states stage 0; count = count; kept = kept }; stage = stage }

  -- it is one, if its columns are sound
  pub held_beside : (session : HeldSession M) (stage : M) (count : ℕ) (kept : List GroupTextData) → kept ≡ session.core.kept → 1 ≤ columns stage →
      AreSound session.core.circuit.graph (columns stage) (states stage) → serves stage session.core.circuit.graph session.core.kept →
      IsHeldSession columns states serves session → IsHeldSession columns states serves (moved session stage count kept)
  held_beside session stage count kept same some sound serving held =
      let first = sound 0 (first_of_some (columns stage) some) in record {
        core = IsSession-beside session.core (states stage 0) count session.core.missed session.core.bound kept session.core.fresh first.counted first.sound
            held.core;
        some = some;
        sound = sound;
        same = refl;
        served = subst (serves stage session.core.circuit.graph) (sym same) serving;
      }
