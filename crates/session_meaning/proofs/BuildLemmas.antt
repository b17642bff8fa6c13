-- Builds: a session is one afterwards, whether the stage was built or the build was refused; and what that comes to.
use Rattle.std.proofs.Common.{◌≡◌, ℕ, ◌<◌, ◌≤◌, ◌⊎◌, inl, inr, List, length, Option, Err, refl, sym, ap, subst, ◌∙◌}
use Rattle.ternary.specs.declared.tern.Tern.{Tern}
use Rattle.ternary.specs.Counts.{raised}
use Rattle.switch_paths.specs.Graphs.{GraphData}
use Rattle.switch_paths.specs.Rails.{IsSound}
use Rattle.group_text.specs.Texts.{GroupTextData}
use Rattle.group_text.specs.FirstTexts.{new_texts}
use Rattle.circuit_texts.specs.declared.texts.BuildFault.{BuildFault}
use Rattle.circuit_texts.specs.declared.texts.BuildFault.TheVariants as build
use Rattle.circuit_texts.specs.Sizes.{TellsRefused}
use Rattle.circuit_texts.specs.Building.{Builds}
use Rattle.column_stage.specs.Acts.{Act, Built}
use Rattle.column_stage.proofs.SoundLemmas.{sound_still}
use Rattle.session_meaning.specs.Sessions.{SessionData, HeldSession, IsHeldSession, IsSession}
use Rattle.session_meaning.specs.Preparing.{fault_of_build}
use Rattle.session_meaning.specs.Stages.{Readied, ReadiesBy}
use Rattle.session_meaning.proofs.ClockLemmas.{IsSession-beside}

-- a session is one with the same state, another bound, other texts kept, and another count of them
pub core-kept : (session : SessionData) (state : List Tern) (bound : Option ℕ) (kept : List GroupTextData) (fresh : ℕ) → state ≡ session.state →
    IsSession session → IsSession (record session { state = state; bound = bound; kept = kept; fresh = fresh })
core-kept session state bound kept fresh same is =
    IsSession-beside session state session.count session.missed bound kept fresh (ap length same ∙ is.ready.states) (subst IsSound (sym same) is.ready.sound) is

module _ {M : Type 0} (columns : M → ℕ) (states : M → ℕ → List Tern) (serves : M → GraphData → List GroupTextData → Type 0)
    (session : HeldSession M) (stage : M) (bound : Option ℕ) (kept : List GroupTextData) (fresh : ℕ) (state : states stage 0 ≡ session.core.state) where
  -- the session behind a build
  abbrev pub built : HeldSession M
  built = record { core = record session.core { state = states stage 0; bound = bound; kept = kept; fresh = fresh }; stage = stage }

  -- it is one
  pub held_built : columns stage ≡ columns session.stage →
      ((column : ℕ) → column < columns session.stage → states stage column ≡ states session.stage column) →
      serves stage session.core.circuit.graph kept →
      IsHeldSession columns states serves session → IsHeldSession columns states serves built
  held_built count each serving held = record {
    core = core-kept session.core (states stage 0) bound kept fresh state held.core;
    some = subst (λ (n : ℕ). 1 ≤ n) (sym count) held.some;
    sound = sound_still columns states session.core.circuit.graph session.stage stage count each held.sound;
    same = refl;
    served = serving;
  }

  -- which is what a build comes to
  pub readied_built : (did : Act → M → M → Type 0) (count : ℕ) (asked told : List GroupTextData) →
      Builds session.core.large session.core.circuit.graph session.core.bound session.core.kept kept asked told count →
      did (Built session.core.large session.core.circuit.graph) session.stage stage → bound ≡ session.core.bound →
      fresh ≡ raised session.core.fresh count → Readied did session built asked told
  readied_built did count asked told builds done same counted =
      let number : fresh ≡ raised session.core.fresh (length (new_texts session.core.kept builds.present)) =
      counted ∙ ap (λ (n : ℕ). raised session.core.fresh n) builds.number in
      record {
        texts = new_texts session.core.kept builds.present;
        build = record {
          present = builds.present;
          has = builds.has;
          news = refl;
          used = λ i. record session.core { state = state i; bound = same i; kept = builds.kept i; fresh = number i };
        };
        analysed = builds.analysed;
        built = done;
      }

-- a build that was refused, or ran out of memory, left the stage: what that comes to, by what the stage says of one that lacks memory
module _ {M : Type 0} (cuts : ℕ → GraphData → Option ℕ → List GroupTextData → List GroupTextData → List GroupTextData → List GroupTextData → Type 0)
    (states : M → ℕ → List Tern) (did : Act → M → M → Type 0) (session : HeldSession M) (stage : M) (bound : Option ℕ)
    (kept asked told : List GroupTextData) (stands : stage ≡ session.stage) (state : states stage 0 ≡ session.core.state) (limit : bound ≡ session.core.bound) where
  -- the session behind it
  abbrev pub unbuilt : HeldSession M
  unbuilt = record { core = record session.core { state = states stage 0; bound = bound; kept = kept }; stage = stage }

  -- where the texts that are kept stay, it is as before
  unbuilt_same : kept ≡ session.core.kept → unbuilt ≡ session
  unbuilt_same same = λ i. record { core = record session.core { state = state i; bound = limit i; kept = same i }; stage = stands i }

  pub unready_built : (fault : BuildFault) →
      (fault ≡ build.NoMemory) ⊎ (TellsRefused session.core.large session.core.circuit.graph fault × (kept ≡ session.core.kept) × (told ≡ asked)) →
      (fault ≡ build.NoMemory → cuts session.core.large session.core.circuit.graph session.core.bound session.core.kept kept asked told) →
      ReadiesBy cuts did session unbuilt asked told (Err (fault_of_build fault))
  unready_built (build.GroupNodes node count) (inl is) cut = absurd (cc)
  unready_built (build.GroupNodes node count) (inr (first, same, unasked)) cut = record { first = first; same = unbuilt_same same; unasked = unasked }
  unready_built (build.GroupSwitches node count) (inl is) cut = absurd (cc)
  unready_built (build.GroupSwitches node count) (inr (first, same, unasked)) cut = record { first = first; same = unbuilt_same same; unasked = unasked }
  unready_built build.NoMemory refused cut = record {
    core = λ i. record session.core { state = state i; bound = limit i; kept = kept };
    stage = stands;
    cut_off = cut refl;
  }
