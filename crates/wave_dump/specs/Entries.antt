-- The entries of a dump as they are held: with their values, and listed by their nodes.
use Rattle.std.specs.Prelude.{◌≡◌, ◌≢◌, ℕ, ◌<◌, List, [], length, map, All, Contains, slice_index_or}
use Rattle.std.specs.List.Sorted.{IsStrictlyIncreasing}
use Rattle.ternary.specs.declared.tern.Tern.{Tern}
use Rattle.wave_dump.specs.Scenes.{EntryData}
use Rattle.wave_dump.specs.Values.{value_in}

-- an entry, and its value that was written last
pub record ShownEntry : Type 0 where
  pub entry : EntryData
  pub shown : List Tern

-- the entries, and their values
abbrev pub entries_of : List ShownEntry → List EntryData
entries_of held = map (λ (entry : ShownEntry). entry.entry) held

abbrev pub shown_of : List ShownEntry → List (List Tern)
shown_of held = map (λ (entry : ShownEntry). entry.shown) held

-- each node of the entry is there, of so many nodes
abbrev pub IsInside : ℕ → EntryData → Type 0
IsInside count entry = All (λ node. node < count) entry.nodes

-- no entry at all, with no node
abbrev pub no_entry : EntryData
no_entry = record { name = []; nodes = [] }

-- the numbers of entries that are listed at a node
abbrev pub listed_at : List (List ℕ) → ℕ → List ℕ
listed_at lists node = slice_index_or lists node []

-- each entry is listed at each of its nodes
abbrev pub AreListed : List EntryData → List (List ℕ) → Type 0
AreListed entries lists =
    (number node : ℕ) → number < length entries → Contains (slice_index_or entries number no_entry).nodes node → Contains (listed_at lists node) number

-- the entry with this number is listed at these nodes besides, and what was listed is listed still
pub record ListsEntry (nodes : List ℕ) (number : ℕ) (old new : List (List ℕ)) : Type 0 where
  pub count : length new ≡ length old
  pub there : (node : ℕ) → Contains nodes node → Contains (listed_at new node) number
  pub stays : (node other : ℕ) → Contains (listed_at old node) other → Contains (listed_at new node) other

-- all that is listed at a node is marked, and what was marked is marked still
pub record MarksNode (lists : List (List ℕ)) (node : ℕ) (old new : List ℕ) : Type 0 where
  pub there : (number : ℕ) → Contains (listed_at lists node) number → Contains new number
  pub stays : (number : ℕ) → Contains old number → Contains new number

-- all that is listed at these nodes is marked, in ascending order
pub record MarksAll (lists : List (List ℕ)) (nodes marked : List ℕ) : Type 0 where
  pub ascending : IsStrictlyIncreasing marked
  pub there : (node number : ℕ) → Contains nodes node → Contains (listed_at lists node) number → Contains marked number

-- each entry whose value is another one in this state is marked
abbrev pub AreMarked : List ShownEntry → List Tern → List ℕ → Type 0
AreMarked held state marked =
    (number : ℕ) → number < length held →
    value_in state (slice_index_or (entries_of held) number no_entry) ≢ slice_index_or (shown_of held) number [] → Contains marked number
