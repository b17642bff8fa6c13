-- How a machine goes on: whatever its course is, with all its parts marked it fits its graph; and what a phase, a node that is given a state, and leaving the
-- record make of it.
use Rattle.std.proofs.Common.{◌≡◌, ℕ, ◌<◌, ◌≤◌, Bool, true, false, List, length, replicate, refl, sym, ap, subst, ◌∙◌}
use Rattle.std.specs.Prelude.{slice_set}
use Rattle.std.proofs.lemmas.List.{get_or-replicate, length-set}
use Rattle.ternary.specs.declared.tern.Tern.{Tern}
use Rattle.switch_paths.specs.declared.TheConstants.{RAILS}
use Rattle.switch_paths.specs.Graphs.{GraphData}
use Rattle.settling.specs.Settling.{Settles}
use Rattle.settling.specs.Passing.{SettlesThrough, last_state, see_all}
use Rattle.settling.proofs.PassingLemmas.{passing_settles}
use Rattle.column_stage.specs.Seeing.{PhaseThrough, SeesStates}
use Rattle.machine_laws.specs.Machines.{MachineData, Places}
use Rattle.machine_laws.specs.Fitting.{FitsGraph}
use Rattle.machine_stage.specs.Stages.{TakesPhase}
use Rattle.beside.specs.Fitting.{all_marked}
use Rattle.good_phases.specs.Phases.{GoodData, SettlesGood}
use Rattle.beside_run.specs.Running.{BesideData, GivesNode, IsRunBeside, Leaves, SettlesRun}
use Rattle.beside_run.proofs.RunningLemmas.{gives_run, marked_fits}
use Rattle.fault_stage.specs.declared.built.Course.{Course}
use Rattle.fault_stage.specs.declared.built.Course.TheVariants.{Recorded, Beside, Alone}
use Rattle.fault_stage.specs.Runs.{Gives, GoesAlone, GoesIn, GoesRecorded, IsAlone, SettlesIn}
use Rattle.fault_stage.specs.Stages.{SettlesSeen}

-- with all its parts marked a machine fits what it fits
pub fits_marked : (g : GraphData) (m : MachineData) → FitsGraph g m → FitsGraph g (all_marked m)
fits_marked g m fits =
    marked_fits g m (replicate (length m.parts) true) fits (λ k inside. get_or-replicate (length m.parts) k true false inside)

pub fits_anyway : (good : GoodData) (g : GraphData) (m : MachineData) (state : List Tern) (course : Course) → GoesIn good g m state course →
    FitsGraph g (all_marked m)
fits_anyway good g m state Recorded goes = fits_marked g m goes.alone.fits
fits_anyway good g m state (Beside run next) goes = goes.fits.fits
fits_anyway good g m state Alone goes = fits_marked g m goes.fits

-- it has as many nodes as the state that is meant
pub as_many : (good : GoodData) (g : GraphData) (m : MachineData) (state : List Tern) (course : Course) → GoesIn good g m state course →
    length m.state ≡ length state
as_many good g m state Recorded goes = ap length goes.alone.state_is
as_many good g m state (Beside run next) goes = sym goes.state_counted
as_many good g m state Alone goes = ap length goes.state_is

-- ---- phases

-- a phase as a stage's contract says it, from states that were passed
phase_of : {S : Type 0} (see : S → List Tern → S) (g : GraphData) (limit steps : ℕ) (joined : Bool) (old new : List Tern) (before after : S)
    (passed : List (List Tern)) → SettlesThrough g old limit passed joined → new ≡ last_state old passed → steps ≡ length passed →
    after ≡ see_all see before passed → SettlesSeen see g limit steps joined old new before after
phase_of see g limit steps joined old new before after passed through last number seen = record {
  settles = subst (λ (s : List Tern). Settles g old limit s steps joined) (sym last)
      (subst (λ n. Settles g old limit (last_state old passed) n joined) (sym number) (passing_settles g old limit passed joined through));
  seen = record { passed = passed; through = (joined, through, number); last = last; seen = seen };
}

module _ {S : Type 0} (see : S → List Tern → S) (g : GraphData) (limit steps : ℕ) (joined : Bool) (state : List Tern) (old new : MachineData) (before after : S) where
  -- beside the record
  pub settles_beside : (good : GoodData) (run : BesideData) (next other : ℕ) → other ≡ limit →
      SettlesRun see good.graph good.run g other steps joined old new state run before after →
      SettlesIn see g limit steps joined state old new good (Beside run next) before after
  settles_beside good run next other same settles = record {
    goes = settles.is;
    last = settles.last_is;
    takes = phase_of see g limit steps joined state new.state before after settles.passed
        (subst (λ n. SettlesThrough g state n settles.passed joined) same settles.through) settles.last settles.number settles.seen;
  }

  -- recorded
  pub settles_recorded : (good good_new : GoodData) → GoesRecorded good g old state → SettlesGood see limit steps joined old new good good_new before after →
      SettlesIn see g limit steps joined state old new good_new Recorded before after
  settles_recorded good good_new goes settles = record {
    goes = record {
      alone = record { fits = subst (λ (h : GraphData). FitsGraph h new) goes.graph settles.fits; state_is = refl };
      graph = settles.graph ∙ goes.graph;
      known = ap length settles.known;
    };
    last = settles.last_is;
    takes = phase_of see g limit steps joined state new.state before after settles.passed
        (subst (λ (h : GraphData). SettlesThrough h state limit settles.passed joined) goes.graph
        (subst (λ (s : List Tern). SettlesThrough good.graph s limit settles.passed joined) goes.alone.state_is settles.through))
        (settles.last ∙ ap (λ (s : List Tern). last_state s settles.passed) goes.alone.state_is) settles.number settles.seen;
  }

  -- by itself
  pub settles_alone : (good : GoodData) → GoesAlone g old state → TakesPhase g limit old new steps joined →
      SeesStates see (PhaseThrough g limit old.state steps) old.state new.state before after →
      SettlesIn see g limit steps joined state old new good Alone before after
  settles_alone good goes takes seen = record {
    goes = record { fits = takes.fits; state_is = refl };
    last = takes.last;
    takes = subst (λ (s : List Tern). SettlesSeen see g limit steps joined s new.state before after) goes.state_is
        (record { settles = takes.settles; seen = seen });
  }

-- after it left the record
pub settles_left : {S : Type 0} (see : S → List Tern → S) (g : GraphData) (limit steps : ℕ) (joined : Bool) (state : List Tern) (old mid new : MachineData)
    (good : GoodData) (course : Course) (before after : S) → Leaves g state old mid → SettlesIn see g limit steps joined state mid new good course before after →
    SettlesIn see g limit steps joined state old new good course before after
settles_left see g limit steps joined state old mid new good course before after leaves settles = record {
  goes = settles.goes;
  last = settles.last ∙ leaves.build.last;
  takes = settles.takes;
}

-- ---- by itself

pub left_alone : (g : GraphData) (state : List Tern) (old new : MachineData) → Leaves g state old new → IsAlone g state old new
left_alone g state old new leaves = record { goes = record { fits = leaves.fits; state_is = leaves.state_is }; last = leaves.build.last }

pub stays_alone : (g : GraphData) (state : List Tern) (m : MachineData) → GoesAlone g m state → IsAlone g state m m
stays_alone g state m goes = record { goes = goes; last = refl }

-- ---- a node that is given a state

module _ (g : GraphData) (state : List Tern) (node : ℕ) (value : Tern) where
  put_alone : (old new : MachineData) → Places node value old new → (FitsGraph g old → FitsGraph g new) → GoesAlone g old state →
      GoesAlone g new (slice_set state node value)
  put_alone old new places fits goes = record {
    fits = fits goes.fits;
    state_is = places.state ∙ ap (λ (s : List Tern). slice_set s node value) goes.state_is;
  }

  -- in a machine that goes by itself
  pub gives_alone : (good : GoodData) (old new : MachineData) → Places node value old new → (FitsGraph g old → FitsGraph g new) → GoesAlone g old state →
      Gives good g (slice_set state node value) old new Alone
  gives_alone good old new places fits goes = record { goes = put_alone old new places fits goes; last = places.last }

  -- or is recorded
  pub gives_recorded : (good : GoodData) (old new : MachineData) → Places node value old new → (FitsGraph g old → FitsGraph g new) →
      GoesRecorded good g old state → Gives good g (slice_set state node value) old new Recorded
  gives_recorded good old new places fits goes = record {
    goes = record {
      alone = put_alone old new places fits goes.alone;
      graph = goes.graph;
      known = goes.known ∙ sym (ap length places.state ∙ length-set old.state node value);
    };
    last = places.last;
  }

  -- or beside the record, for the phase to come
  pub gives_beside : (good : GoodData) (m : MachineData) (run run_new : BesideData) (next : ℕ) → RAILS ≤ node → node < length m.state →
      IsRunBeside good.graph good.run g m state run → GivesNode node run run_new →
      Gives good g (slice_set state node value) m m (Beside run_new next)
  gives_beside good m run run_new next no_rail inside is gives = record {
    goes = subst (IsRunBeside good.graph good.run g m (slice_set state node value)) (sym gives.same)
        (gives_run good.graph good.run g m state run node value run_new.given no_rail inside is gives.inside);
    last = refl;
  }
