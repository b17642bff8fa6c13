-- Marks of parts, and the lists in which the marked parts stand.
use Rattle.std.specs.Prelude.{◌≡◌, ◌≢◌, ℕ, ◌+◌, ◌<◌, ◌≤◌, ◌⊎◌, Bool, List, length, All, Contains, slice_index, true, false, [], ◌∷◌, count_by, option_map, unwrap_or, slice_index_or}
use Rattle.machine_parts.specs.declared.part.MachinePart.{MachinePart}

-- the part with this number is marked
abbrev pub IsMarked : List Bool → ℕ → Type 0
IsMarked marks k = slice_index_or marks k false ≡ true

-- how many parts are marked
abbrev pub count_marked : List Bool → ℕ
count_marked marks = count_by (λ mark. mark) marks

-- the sum over the marked parts
abbrev pub marked_sum : (MachinePart → ℕ) → List MachinePart → List Bool → ℕ
marked_sum f [] marks = 0
marked_sum f (part ∷ parts) [] = 0
marked_sum f (part ∷ parts) (true ∷ marks) = f part + marked_sum f parts marks
marked_sum f (part ∷ parts) (false ∷ marks) = marked_sum f parts marks

-- how many instructions the part's code has; a stale part has none
abbrev pub instructions_of : MachinePart → ℕ
instructions_of part = unwrap_or (option_map (λ code. length code.value.instructions) part.code) 0

-- how many members the part has
abbrev pub members_of : MachinePart → ℕ
members_of part = part.members

-- a mark for each part, and whether it is stale and so waits for a code
pub record AgendaData : Type 0 where
  pub marks : List Bool
  pub waiting : List Bool

-- no number stands in the list twice
abbrev pub AreOnce : List ℕ → Type 0
AreOnce xs = (i j : ℕ) → i < j → j < length xs → slice_index xs i ≢ slice_index xs j

-- each marked number stands in the list, once, and no other; and there is room for a list of all
pub record ListsMarked (marks : List Bool) (list : List ℕ) (capacity : ℕ) : Type 0 where
  pub listed : (k : ℕ) → IsMarked marks k → Contains list k
  pub only : (k : ℕ) → Contains list k → IsMarked marks k
  pub once : AreOnce list
  pub number : length list ≡ count_marked marks
  pub room : length marks ≤ capacity

-- each marked part stands in the list of those that are to be evaluated, once, or waits; so many wait, and all of these are listed; and
-- there is room for a list of all parts
pub record IsAgenda (marks waiting : List Bool) (work waiters : List ℕ) (stale capacity : ℕ) : Type 0 where
  pub counted : length waiting ≡ length marks
  pub listed : (k : ℕ) → IsMarked marks k → Contains work k ⊎ IsMarked waiting k
  pub marked : (k : ℕ) → Contains work k → IsMarked marks k
  pub ready : (k : ℕ) → Contains work k → ¬ IsMarked waiting k
  pub waits : (k : ℕ) → IsMarked waiting k → IsMarked marks k
  pub once : AreOnce work
  pub number : length work + count_marked waiting ≡ count_marked marks
  pub stale_is : stale ≡ count_marked waiting
  pub waiters_all : (k : ℕ) → IsMarked waiting k → Contains waiters k
  pub waiters_inside : All (λ k. k < length marks) waiters
  pub room : length marks ≤ capacity

-- the marks that were set stay, those of these parts are set, and no other
pub record MarksAll (These : ℕ → Type 0) (old new : List Bool) : Type 0 where
  pub count : length new ≡ length old
  pub stays : (k : ℕ) → IsMarked old k → IsMarked new k
  pub set : (k : ℕ) → These k → IsMarked new k
  pub only : (k : ℕ) → IsMarked new k → IsMarked old k ⊎ These k

-- the part with this number is among those that some of these changes reaches
pub record IsReached {X : Type 0} (reaches : X → List ℕ) (changes : List X) (k : ℕ) : Type 0 where
  pub change : X
  pub changes_it : Contains changes change
  pub reads : Contains (reaches change) k
