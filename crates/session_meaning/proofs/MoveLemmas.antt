-- What steps leave alone; and what stands behind a build.
use Rattle.std.proofs.Common.{◌≡◌, ℕ, List, [], ◌∷◌, refl, sym, ap, subst, ◌∙◌}
use Rattle.ternary.specs.declared.tern.Tern.{Tern}
use Rattle.group_text.specs.Texts.{GroupTextData}
use Rattle.column_stage.specs.Acts.{Act}
use Rattle.told_lines.specs.Lines.{Line}
use Rattle.session_meaning.specs.Sessions.{SessionData, HeldSession}
use Rattle.session_meaning.specs.Effects.{AreBeats, with_beat}
use Rattle.session_meaning.specs.Stages.{Readied, SameSetup}

-- ---- what steps leave alone

-- as many times as one likes
pub setup-same : (session : SessionData) → SameSetup session session
setup-same session = record { circuit = refl; clocks = refl; limit = refl; watched = refl }

pub setup-more : (start now next : SessionData) → SameSetup start now → SameSetup now next → SameSetup start next
setup-more start now next first more = record {
  circuit = more.circuit ∙ first.circuit;
  clocks = more.clocks ∙ first.clocks;
  limit = more.limit ∙ first.limit;
  watched = more.watched ∙ first.watched;
}

-- what gives states alone, and counts lines
pub setup-stated : (session new : SessionData) (state : List Tern) (count : ℕ) → new ≡ record session { state = state; count = count } → SameSetup session new
setup-stated session new state count is = subst (SameSetup session) (sym is) (record { circuit = refl; clocks = refl; limit = refl; watched = refl })

-- clocks that are put, and a phase behind them
pub setup-put : (start now put : SessionData) (place : ℕ) → SameSetup start now → put ≡ with_beat now place → SameSetup start put
setup-put start now put place so_far beat = setup-more start now put so_far (setup-stated now put _ _ beat)

-- phases keep the circuit
pub circuit-beats : (places : List ℕ) (session new : SessionData) (lines : List Line) → AreBeats session places new lines →
    new.circuit.graph ≡ session.circuit.graph
circuit-beats [] session new lines (same, none) = ap (λ (s : SessionData). s.circuit.graph) same
circuit-beats (place ∷ places) session new lines (mid, front, back, phase, beats, whole) =
    circuit-beats places mid new back beats ∙ ap (λ (s : SessionData). s.circuit.graph) phase.moved

-- ---- behind a build

module _ {M : Type 0} (did : Act → M → M → Type 0) (old mid : HeldSession M) (asked told : List GroupTextData) (ready : Readied did old mid asked told) where
  -- it keeps all data but what is kept
  pub built_same : mid.core ≡ record old.core { kept = mid.core.kept; fresh = mid.core.fresh }
  built_same = subst (λ (s : SessionData). s ≡ record old.core { kept = s.kept; fresh = s.fresh }) (sym ready.build.used) refl
