-- Who reads each node, as lists of parts, and how parts enter these lists and leave them.
use Rattle.std.specs.Prelude.{◌≡◌, ◌≢◌, ℕ, ◌-◌, ◌<◌, ◌⊎◌, List, [], length, map, Contains, Some, nat_eq, slice_get, slice_index, slice_index_or}
use Rattle.std.specs.List.{IsDistinct}
use Rattle.smallvec.specs.SmallVec.{SmallVec}
use Rattle.machine_parts.specs.declared.part.MachinePart.{MachinePart}
use Rattle.machine_parts.specs.Parts.{ReadsAt}

-- the parts that are listed as readers of a node
abbrev pub readers_of : List (SmallVec ℕ) → ℕ → List ℕ
readers_of readers node = slice_index_or (map (λ parts. parts.items) readers) node []

-- no part stands in a list twice
pub record AreEachOnce (lists : List (SmallVec ℕ)) : Type 0 where
  pub once : (node : ℕ) → IsDistinct nat_eq (readers_of lists node)

-- where the part stands in the list at all, it stands last
pub record IsLastIf (k : ℕ) (list : List ℕ) : Type 0 where
  pub last : Contains list k → (0 < length list) × (slice_index list (length list - 1) ≡ k)

-- the part stands last in the list, once, behind those that were there
pub record Adds (k : ℕ) (old new : List ℕ) : Type 0 where
  pub stays : (l : ℕ) → Contains old l → Contains new l
  pub there : Contains new k
  pub only : (l : ℕ) → Contains new l → Contains old l ⊎ (l ≡ k)
  pub once : IsDistinct nat_eq new
  pub last : IsLastIf k new

-- the part with this number is listed as a reader of these nodes too
pub record Lists (k : ℕ) (nodes : List ℕ) (old new : List (SmallVec ℕ)) : Type 0 where
  pub count : length new ≡ length old
  pub stays : (node l : ℕ) → Contains (readers_of old node) l → Contains (readers_of new node) l
  pub listed : (node : ℕ) → Contains nodes node → Contains (readers_of new node) k
  pub only : (node l : ℕ) → Contains (readers_of new node) l → Contains (readers_of old node) l ⊎ (Contains nodes node × (l ≡ k))

-- it is listed so, once at each of these nodes and last
pub record ListsLast (k : ℕ) (nodes : List ℕ) (old new : List (SmallVec ℕ)) : Type 0 where
  pub lists : Lists k nodes old new
  pub each : AreEachOnce new
  pub last : (node : ℕ) → IsLastIf k (readers_of new node)

-- the part with this number may be listed as a reader of these nodes, and nothing else changed
pub record ListsSome (k : ℕ) (nodes : List ℕ) (old new : List (SmallVec ℕ)) : Type 0 where
  pub count : length new ≡ length old
  pub stays : (node l : ℕ) → Contains (readers_of old node) l → Contains (readers_of new node) l
  pub only : (node l : ℕ) → Contains (readers_of new node) l → Contains (readers_of old node) l ⊎ (Contains nodes node × (l ≡ k))
  pub each : AreEachOnce new

-- the part with this number is no reader of these nodes any more, and nothing else changed
pub record Unlists (k : ℕ) (nodes : List ℕ) (old new : List (SmallVec ℕ)) : Type 0 where
  pub count : length new ≡ length old
  pub gone : (node : ℕ) → Contains nodes node → ¬ Contains (readers_of new node) k
  pub stays : (node l : ℕ) → Contains (readers_of old node) l → l ≢ k → Contains (readers_of new node) l
  pub only : (node l : ℕ) → Contains (readers_of new node) l → Contains (readers_of old node) l
  pub each : AreEachOnce new

-- a part with this number reads the node
pub record ReadsAs (slots : List ℕ) (fresh : List MachinePart) (k node : ℕ) : Type 0 where
  pub i : ℕ
  pub part : MachinePart
  pub slot : slice_get slots i ≡ Some k
  pub there : slice_get fresh i ≡ Some part
  pub reads : Contains part.reads.items node

-- the parts with these numbers are listed as readers of what they read too
pub record ListsAll (slots : List ℕ) (fresh : List MachinePart) (old new : List (SmallVec ℕ)) : Type 0 where
  pub count : length new ≡ length old
  pub stays : (node l : ℕ) → Contains (readers_of old node) l → Contains (readers_of new node) l
  pub listed : (node k : ℕ) → ReadsAs slots fresh k node → Contains (readers_of new node) k
  pub only : (node l : ℕ) → Contains (readers_of new node) l → Contains (readers_of old node) l ⊎ ReadsAs slots fresh l node

-- each node has the readers that it had
pub record HaveSameReaders (old new : List (SmallVec ℕ)) : Type 0 where
  pub count : length new ≡ length old
  pub stays : (node l : ℕ) → Contains (readers_of old node) l → Contains (readers_of new node) l
  pub only : (node l : ℕ) → Contains (readers_of new node) l → Contains (readers_of old node) l

-- the parts with these numbers are listed as readers of what they read, as far as this place
pub record AreListedTo (slots : List ℕ) (fresh : List MachinePart) (end : ℕ) (old new : List (SmallVec ℕ)) : Type 0 where
  pub count : length new ≡ length old
  pub stays : (node l : ℕ) → Contains (readers_of old node) l → Contains (readers_of new node) l
  pub listed : (node k : ℕ) (how : ReadsAs slots fresh k node) → how.i < end → Contains (readers_of new node) k
  pub only : (node l : ℕ) → Contains (readers_of new node) l →
      Contains (readers_of old node) l ⊎ ((how : ReadsAs slots fresh l node) × (how.i < end))
  pub each : AreEachOnce new

-- they are taken off the lists, as far as this place
pub record AreOffTo (slots : List ℕ) (fresh : List MachinePart) (end : ℕ) (old new : List (SmallVec ℕ)) : Type 0 where
  pub count : length new ≡ length old
  pub gone : (node k : ℕ) (how : ReadsAs slots fresh k node) → how.i < end → ¬ Contains (readers_of new node) k
  pub stays : (node l : ℕ) → Contains (readers_of old node) l → (¬ Contains slots l) → Contains (readers_of new node) l
  pub only : (node l : ℕ) → Contains (readers_of new node) l → Contains (readers_of old node) l
  pub each : AreEachOnce new

-- the parts with a lower number are listed as readers of the nodes that they read, and no others
pub record AreListed (parts : List MachinePart) (count i : ℕ) (lists : List (SmallVec ℕ)) : Type 0 where
  pub counted : length lists ≡ count
  pub readers : (node k : ℕ) → k < i → ReadsAt parts k node → Contains (readers_of lists node) k
  pub reads : (node k : ℕ) → Contains (readers_of lists node) k → ReadsAt parts k node
  pub below : (node k : ℕ) → Contains (readers_of lists node) k → k < i
  pub each : AreEachOnce lists
