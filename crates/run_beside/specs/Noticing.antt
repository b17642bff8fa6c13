-- Which parts are apart: those that a node concerns which differs, and perhaps others; and what a step makes of them and of the marks.
use Rattle.std.specs.Prelude.{◌≡◌, ◌≢◌, ℕ, ◌⊎◌, ◌++◌, Bool, List, length, Contains, Option, None, Some, slice_index_or}
use Rattle.smallvec.specs.SmallVec.{SmallVec}
use Rattle.ternary.specs.declared.tern.Tern.{Tern}
use Rattle.switch_paths.specs.Switching.{state_at}
use Rattle.part_words.specs.declared.change.Change.{Change}
use Rattle.machine_parts.specs.Marking.{IsMarked, MarksAll}
use Rattle.machine_parts.specs.Readers.{readers_of}
use Rattle.machine_parts.specs.Running.{IsTaken, ReadsAny}
use Rattle.run_beside.specs.Following.{IsWritten, FollowsAt}

-- the part with this number has the node as a member or reads it, by the lists of owners and readers
abbrev pub IsConcerned : List (Option ℕ) → List (SmallVec ℕ) → ℕ → ℕ → Type 0
IsConcerned owners readers node k = (slice_index_or owners node None ≡ Some k) ⊎ Contains (readers_of readers node) k

-- every part is apart that a node concerns which differs
abbrev pub KeepsApart : List (Option ℕ) → List (SmallVec ℕ) → List Bool → List Tern → List Tern → Type 0
KeepsApart owners readers apart good bad =
    (node : ℕ) → state_at bad node ≢ state_at good node → (k : ℕ) → IsConcerned owners readers node k → IsMarked apart k

-- the node differs, and concerns the part with this number
abbrev pub ConcernsDiffering : List (Option ℕ) → List (SmallVec ℕ) → List Tern → List Tern → ℕ → ℕ → Type 0
ConcernsDiffering owners readers good bad node k = (state_at bad node ≢ state_at good node) × IsConcerned owners readers node k

-- some node of these changes differs, and concerns the part with this number
pub record ConcernsSome (changes : List Change) (owners : List (Option ℕ)) (readers : List (SmallVec ℕ)) (good bad : List Tern) (k : ℕ) : Type 0 where
  pub change : Change
  pub there : Contains changes change
  pub differs : state_at bad change.node ≢ state_at good change.node
  pub concerns : IsConcerned owners readers change.node k

-- the node agrees in both runs, and the part with this number reads it
abbrev pub ReadsAgreeing : List (SmallVec ℕ) → List Tern → List Tern → ℕ → ℕ → Type 0
ReadsAgreeing readers good bad node k = (state_at bad node ≡ state_at good node) × Contains (readers_of readers node) k

-- some node of these changes does, and the part with this number reads it
pub record ReadsSomeAgreeing (changes : List Change) (readers : List (SmallVec ℕ)) (good bad : List Tern) (k : ℕ) : Type 0 where
  pub change : Change
  pub there : Contains changes change
  pub agrees : state_at bad change.node ≡ state_at good change.node
  pub reads : Contains (readers_of readers change.node) k

-- parts are put apart, and parts that are apart are marked: those that enter are apart afterwards, and no others but those that were; each of them
-- is marked, and so is each that is apart afterwards and wakes; no mark is lost
pub record Notices (Enters Wakes : ℕ → Type 0) (old_apart new_apart old_marks new_marks : List Bool) : Type 0 where
  pub apart : MarksAll Enters old_apart new_apart
  pub count : length new_marks ≡ length old_marks
  pub stays : (k : ℕ) → IsMarked old_marks k → IsMarked new_marks k
  pub entered : (k : ℕ) → IsMarked new_apart k → IsMarked old_apart k ⊎ IsMarked new_marks k
  pub wakes : (k : ℕ) → Wakes k → IsMarked new_apart k → IsMarked new_marks k
  pub only : (k : ℕ) → IsMarked new_marks k → IsMarked old_marks k ⊎ IsMarked new_apart k

-- of these changes those nodes that differ put the parts apart that they concern, and all of them wake the parts that read them
abbrev pub NoticesChanges : List Change → List (Option ℕ) → List (SmallVec ℕ) → List Tern → List Tern → List Bool → List Bool → List Bool → List Bool → Type 0
NoticesChanges changes owners readers good bad =
    Notices (ConcernsSome changes owners readers good bad) (ReadsAny readers changes)

-- of these changes of the good run those nodes that differ put the parts apart that they concern, and those that agree wake the parts that read them: a
-- node that differs didn't follow
abbrev pub NoticesGood : List Change → List (Option ℕ) → List (SmallVec ℕ) → List Tern → List Tern → List Bool → List Bool → List Bool → List Bool → Type 0
NoticesGood changes owners readers good bad =
    Notices (ConcernsSome changes owners readers good bad) (ReadsSomeAgreeing changes readers good bad)

-- the changes of a step: those of the good run, and then those of the run under a fault alone
abbrev pub NoticesBoth : List Change → List Change → List (Option ℕ) → List (SmallVec ℕ) → List Tern → List Tern → List Bool → List Bool → List Bool → List Bool → Type 0
NoticesBoth changes own owners readers good bad =
    Notices (ConcernsSome (changes ++ own) owners readers good bad) (λ k. ReadsSomeAgreeing changes readers good bad k ⊎ ReadsAny readers own k)

-- every part stays apart that a node concerns which differs, in a step that wrote these changes of the good run if they follow, then these of
-- nodes that don't follow, and then put apart what they concern
abbrev pub StepsKeepApart : Type 0
StepsKeepApart =
    (owners : List (Option ℕ)) (readers : List (SmallVec ℕ)) (apart new_apart : List Bool) (changes own : List Change)
    (good good_next bad bad_mid bad_next : List Tern) →
    KeepsApart owners readers apart good bad → IsTaken changes good good_next → IsWritten (FollowsAt owners apart) changes bad bad_mid →
    IsTaken own bad_mid bad_next → MarksAll (ConcernsSome (changes ++ own) owners readers good_next bad_next) apart new_apart →
    KeepsApart owners readers new_apart good_next bad_next
