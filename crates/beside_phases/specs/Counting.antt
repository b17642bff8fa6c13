-- Steps beside a good run that are counted and shown: those that change the state under the fault.
-- After Bryant and Schuster, "Performance Evaluation of FMOSSIM, a Concurrent Switch-Level Fault Simulator", 1985.
use Rattle.std.specs.Prelude.{◌≡◌, ◌≢◌, ℕ, suc, ◌+◌, ◌<◌, ◌≤◌, Bool, List, [], ◌∷◌, length, Contains}
use Rattle.ternary.specs.declared.tern.Tern.{Tern}
use Rattle.switch_paths.specs.Graphs.{GraphData}
use Rattle.switch_paths.specs.Switching.{state_at}
use Rattle.settling.specs.Passing.{SettlesThrough, last_state, see_all}
use Rattle.part_words.specs.declared.change.Change.{Change}
use Rattle.machine_parts.specs.declared.part.MachinePart.{MachinePart}
use Rattle.machine_parts.specs.Marking.{IsMarked}
use Rattle.machine_parts.specs.Parts.{HasMember}
use Rattle.machine_laws.specs.Machines.{MachineData, KeepsBuild, KeepsParts}
use Rattle.run_beside.specs.Replacing.{IsReplacement}
use Rattle.beside.specs.Fitting.{FitsBeside}

-- replacements that each change something pass through these states, once so many were taken
abbrev pub MovingThrough : GraphData → ℕ → ℕ → List Tern → List (List Tern) → Type 0
MovingThrough g limit taken old [] = Unit {0}
MovingThrough g limit taken old (next ∷ states) = IsReplacement g limit taken old next × (next ≢ old) × MovingThrough g limit (suc taken) next states

-- replacements beside the good run passed through states, each of which was shown, once so many were taken; so many were taken then, and the machine
-- fits beside the good run still, with the parts that it had
pub record PassesBeside {S : Type 0} (see : S → List Tern → S) (g h : GraphData) (limit taken count : ℕ) (old new : MachineData) (good_new : List Tern)
    (apart_new : List Bool) (before after : S) : Type 0 where
  pub fits : FitsBeside g h good_new apart_new new
  pub build : KeepsBuild old new
  pub held : KeepsParts old new
  pub passed : List (List Tern)
  pub moving : MovingThrough h limit taken old.state passed
  pub last : new.state ≡ last_state old.state passed
  pub number : count ≡ taken + length passed
  pub seen : after ≡ see_all see before passed

-- so many replacements beside the good run were taken from the beginning of a phase, of which the first so many changed something; if there are others,
-- the state was its own replacement from there on
pub record CountsBeside {S : Type 0} (see : S → List Tern → S) (g h : GraphData) (limit count moved : ℕ) (old new : MachineData) (good_new : List Tern)
    (apart_new : List Bool) (before after : S) : Type 0 where
  pub passes : PassesBeside see g h limit 0 moved old new good_new apart_new before after
  pub few : moved ≤ count
  pub rests : moved < count → IsReplacement h limit moved new.state new.state

-- replacements passed through states until one changed nothing
pub record ComesToRest {S : Type 0} (see : S → List Tern → S) (g h : GraphData) (limit taken count : ℕ) (old new : MachineData) (good_new : List Tern)
    (apart_new : List Bool) (before after : S) : Type 0 where
  pub passes : PassesBeside see g h limit taken count old new good_new apart_new before after
  pub rests : IsReplacement h limit count new.state new.state

-- a run under a fault settled beside the good run: it passed through states that settle, as many as are told, each of which was shown; the machine fits
-- beside the good run still, with the parts that it had
pub record SettlesSeen {S : Type 0} (see : S → List Tern → S) (g h : GraphData) (limit steps : ℕ) (joined : Bool) (old new : MachineData)
    (good_new : List Tern) (apart_new : List Bool) (before after : S) : Type 0 where
  pub fits : FitsBeside g h good_new apart_new new
  pub build : KeepsBuild old new
  pub held : KeepsParts old new
  pub passed : List (List Tern)
  pub through : SettlesThrough h old.state limit passed joined
  pub last : new.state ≡ last_state old.state passed
  pub number : steps ≡ length passed
  pub seen : after ≡ see_all see before passed

-- the node of a change follows the good run, which changes it: it is a member of a part that isn't apart
pub record FollowsOne (change : Change) (parts : List MachinePart) (apart : List Bool) (good : List Tern) : Type 0 where
  pub differs : state_at good change.node ≢ change.value
  pub k : ℕ
  pub member : HasMember parts k change.node
  pub follows : ¬ IsMarked apart k

-- the node of one of these changes does
pub record SomeFollows (changes : List Change) (parts : List MachinePart) (apart : List Bool) (good : List Tern) : Type 0 where
  pub change : Change
  pub there : Contains changes change
  pub one : FollowsOne change parts apart good
