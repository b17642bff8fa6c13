-- A phase that a machine took by itself is one that it may take again, and nobody who doesn't look sees that it wasn't.
use Rattle.std.proofs.Common.{◌≡◌, ℕ, ◌<◌, ◌++◌, ◌∷◌, Bool, true, false, List, [], length, refl, sym, ap, subst, ◌∙◌}
use Rattle.std.specs.Prelude.{slice_index_or, All, if◌then◌else◌}
use Rattle.std.proofs.lemmas.List.{get_or_default}
use Rattle.std.proofs.lemmas.List.Elements.{All-push}
use Rattle.ternary.specs.declared.tern.Tern.{Tern}
use Rattle.switch_paths.specs.Graphs.{GraphData}
use Rattle.settling.specs.declared.settling.Settled.{Settled}
use Rattle.settling.specs.Settling.{Settles}
use Rattle.settling.specs.Passing.{last_state, see_all}
use Rattle.column_stage.specs.Seeing.{PhaseThrough}
use Rattle.machine_laws.specs.Machines.{MachineData}
use Rattle.fault_stage.specs.declared.passing.Passed.{Passed}
use Rattle.fault_stage.specs.Passing.{GoesAgain, IsPassed, SettlesAlone}

-- what stands at a place of a list is one
pub same_passed : (passes : List Passed) (place : ℕ) (one other : Passed) → place < length passes → slice_index_or passes place one ≡ one →
    slice_index_or passes place other ≡ other → one ≡ other
same_passed passes place one other inside is_one is_other = sym is_one ∙ (get_or_default passes place one other inside ∙ is_other)

-- what holds of all that were there and of one that is put behind them, if it is, holds of all that are there then
pub all_put : {X : Type 0} (P : X → Type 0) (before after : List X) (x : X) (is_put : Bool) → after ≡ (if is_put then before ++ x ∷ [] else before) →
    All P before → P x → All P after
all_put P before after x true is all one = subst (All P) (sym is) (All-push P before x all one)
all_put P before after x false is all one = subst (All P) (sym is) all

-- who isn't told anything by a state isn't by all of these
unseen : {S : Type 0} (see : S → List Tern → S) → ((seen : S) (state : List Tern) → see seen state ≡ seen) → (before : S) (passed : List (List Tern)) →
    before ≡ see_all see before passed
unseen see blind before [] = refl
unseen see blind before (state ∷ passed) = subst (λ seen. before ≡ see_all see seen passed) (sym (blind before state)) (unseen see blind before passed)

-- so a phase that is taken again is one as any
pub settled_again : {S : Type 0} (see : S → List Tern → S) (g : GraphData) (limit : ℕ) (told : Settled) (state : List Tern) (old new : MachineData) (seen : S) →
    ((before : S) (next : List Tern) → see before next ≡ before) → GoesAgain g state limit told old new →
    SettlesAlone see g limit told.steps told.joined state old new seen seen
settled_again see g limit told state old new seen blind again =
    let p = again.phase in
    let is = again.is in
    let settles : Settles g p.start.items p.limit new.state told.steps told.joined = rw (again.state_is, again.told_is) is.settles in
    let through : PhaseThrough g p.limit p.start.items told.steps is.passed = rw again.told_is is.through in
    record {
      fits = again.fits;
      last = again.last;
      takes = record {
        settles = subst (λ n. Settles g state n new.state told.steps told.joined) again.limit_is
            (subst (λ (s : List Tern). Settles g s p.limit new.state told.steps told.joined) again.start settles);
        seen = record {
          passed = is.passed;
          through = subst (λ n. PhaseThrough g n state told.steps is.passed) again.limit_is
              (subst (λ (s : List Tern). PhaseThrough g p.limit s told.steps is.passed) again.start through);
          last = again.state_is ∙ (is.last ∙ ap (λ (s : List Tern). last_state s is.passed) again.start);
          seen = unseen see blind seen is.passed;
        };
      };
    }

-- a phase that was taken is one of the graph
pub passed_now : {S : Type 0} (see : S → List Tern → S) (g : GraphData) (limit : ℕ) (told : Settled) (state : List Tern) (old new : MachineData)
    (before after : S) (p : Passed) → SettlesAlone see g limit told.steps told.joined state old new before after → p.start.items ≡ state →
    p.end.items ≡ new.state → p.limit ≡ limit → p.told ≡ told → IsPassed g p
passed_now see g limit told state old new before after p settles start end limit_is told_is = record {
  settles = rw (start, end, limit_is, told_is) settles.takes.settles;
  passed = settles.takes.seen.passed;
  through = rw (start, limit_is, told_is) settles.takes.seen.through;
  last = rw (start, end) settles.takes.seen.last;
  counted = rw end settles.fits.covers.counted;
  sound = rw end settles.fits.sound;
}
