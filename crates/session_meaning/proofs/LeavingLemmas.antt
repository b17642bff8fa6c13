-- What commands that have the circuit built, and those that set what later ones go by, leave as it is.
-- The plan: a step, a phase and a report say what they change, and the phases of a cycle leave together what each of them leaves.
use Rattle.std.proofs.Common.{◌≡◌, ℕ, List, [], ◌∷◌, refl, sym, subst, ◌∙◌}
use Rattle.script_lang.specs.declared.command.Setup.{Setup}
use Rattle.script_lang.specs.declared.command.Setup.TheVariants.{Watch}
use Rattle.script_lang.specs.declared.command.Run.{Run}
use Rattle.script_lang.specs.declared.command.Run.TheVariants.{Step, Phase, Cycle, Report}
use Rattle.session_meaning.specs.Sessions.{SessionData, places_of}
use Rattle.told_lines.specs.Lines.{Line}
use Rattle.session_meaning.specs.Effects.{RunEffect, IsPhase, AreBeats, setup_after, moved_to, with_beat, places_in}

-- the circuit, the watch list, both bounds and what is kept are as before
pub record RunLeaves (old new : SessionData) : Type 0 where
  pub circuit : new.circuit ≡ old.circuit
  pub watched : new.watched ≡ old.watched
  pub bound : new.bound ≡ old.bound
  pub large : new.large ≡ old.large
  pub kept : new.kept ≡ old.kept

left_by : (old next new : SessionData) → new ≡ next → RunLeaves old next → RunLeaves old new
left_by old next new same left = subst (RunLeaves old) (sym same) left

-- so it is after a phase
phase_leaves : (old new : SessionData) (lines : List Line) → IsPhase old new lines → RunLeaves old new
phase_leaves old new lines phase =
    left_by old (moved_to old phase.next) new phase.moved (record { circuit = refl; watched = refl; bound = refl; large = refl; kept = refl })

-- and after all phases of a cycle
beats_leave : (places : List ℕ) (old new : SessionData) (lines : List Line) → AreBeats old places new lines → RunLeaves old new
beats_leave [] old new lines (same, none) = left_by old old new same (record { circuit = refl; watched = refl; bound = refl; large = refl; kept = refl })
beats_leave (place ∷ places) old new lines (mid, front, back, phase, beats, joined) =
    let first = phase_leaves (with_beat old place) mid front phase in
    let later = beats_leave places mid new back beats in
    record {
      circuit = later.circuit ∙ first.circuit;
      watched = later.watched ∙ first.watched;
      bound = later.bound ∙ first.bound;
      large = later.large ∙ first.large;
      kept = later.kept ∙ first.kept;
    }

-- so it is after each command that has the circuit built
pub run_leaves : (old new : SessionData) (run : Run) (lines : List Line) → RunEffect old run new lines → RunLeaves old new
run_leaves old new Step lines effect =
    left_by old (moved_to old effect.next) new effect.moved (record { circuit = refl; watched = refl; bound = refl; large = refl; kept = refl })
run_leaves old new Phase lines effect = phase_leaves old new lines effect
run_leaves old new (Cycle times) lines effect = beats_leave (places_in (places_of old.clocks) times) old new lines effect
run_leaves old new Report lines effect =
    left_by old (record old { fresh = 0 }) new effect.moved (record { circuit = refl; watched = refl; bound = refl; large = refl; kept = refl })

-- the circuit and what is kept are as before
pub record SetupLeaves (old new : SessionData) : Type 0 where
  pub circuit : new.circuit ≡ old.circuit
  pub kept : new.kept ≡ old.kept

-- so it is with what was set for later commands
pub setup_leaves : (old : SessionData) (setup : Setup) → SetupLeaves old (setup_after old setup)
setup_leaves old (Watch names) = record { circuit = refl; kept = refl }
setup_leaves old other = record { circuit = refl; kept = refl }
