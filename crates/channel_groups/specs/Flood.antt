-- The flood from a storage node: what is found from one node, and how far the flood is.
use Rattle.std.specs.Prelude.{◌≡◌, ℕ, ◌+◌, ◌*◌, ◌<◌, ◌≤◌, ◌⊎◌, List, ◌++◌, length, slice_index, Contains}
use Rattle.std.specs.List.Sorted.{IsStrictlyIncreasing}
use Rattle.switch_paths.specs.Graphs.{GraphData, IsStorage}
use Rattle.group_meaning.specs.Groups.{AreJoined, AreLinked, Group, IsGroup}

-- from a node these places are looked at: what was found and listed stays, and the storage nodes at the other ends
-- of switches with an end at the node are found, and the places of these switches listed
pub record Sees (g : GraphData) (node : ℕ) (Looked : ℕ → Type 0) (old new : List ℕ) (places more : List ℕ) : Type 0 where
  pub grown : (rest : List ℕ) × (new ≡ old ++ rest)
  pub found : (n : ℕ) → Contains new n → Contains old n ⊎ ((place : ℕ) × AreJoined g place node n × IsStorage g n)
  pub all : (place n : ℕ) → Looked place → AreJoined g place node n → IsStorage g n → Contains new n
  pub kept : (place : ℕ) → Contains places place → Contains more place
  pub touched : (place : ℕ) → Contains more place → Contains places place ⊎ ((n : ℕ) × AreJoined g place node n)
  pub listed : (place n : ℕ) → Looked place → AreJoined g place node n → Contains more place

-- each node that was found is linked with the root; from the first ones, so many of them, all that they join is
-- found, and the places at them are listed
pub record IsFlooding (g : GraphData) (root count : ℕ) (found places : List ℕ) : Type 0 where
  pub rooted : Contains found root
  pub linked : (n : ℕ) → Contains found n → AreLinked g root n
  pub spread : (k place n : ℕ) → k < count → AreJoined g place (slice_index found k) n → IsStorage g n → Contains found n
  pub listed : (k place n : ℕ) → k < count → AreJoined g place (slice_index found k) n → Contains places place
  pub touched : (place : ℕ) → Contains places place → (m : ℕ) × (n : ℕ) × Contains found m × AreJoined g place m n

-- the numbers of a list in ascending order, each once
pub record IsSortedFrom (numbers sorted : List ℕ) : Type 0 where
  pub all : (n : ℕ) → Contains numbers n → Contains sorted n
  pub only : (n : ℕ) → Contains sorted n → Contains numbers n
  pub ascending : IsStrictlyIncreasing sorted

-- from start to end there are at most two steps for each member and each switch of the group of the root
pub record IsPaid (g : GraphData) (root start end : ℕ) : Type 0 where
  pub paid : (group : Group) → IsGroup g group → Contains group.members root →
      end ≤ start + 2 * length group.members + 2 * length group.switches
