-- Laws of groups, each proved as the contract of a function in `src/lib.rt`.
-- After Bryant, Beatty, Brace, Cho and Sheffler, "COSMOS: A Compiled Simulator for MOS Circuits", 1987.
use Rattle.std.specs.Prelude.{◌≡◌, ℕ, ◌<◌, List, [], ◌++◌, length}
use Rattle.ternary.specs.declared.tern.Tern.{Tern}
use Rattle.strength_order.specs.declared.TheConstants.{INPUT_LEVEL}
use Rattle.switch_paths.specs.Graphs.{GraphData, IsWired, level_of, IsStorage}
use Rattle.switch_paths.specs.Path.{Stand, LivePath, IsBlocked}
use Rattle.group_meaning.specs.Groups.{AreLinked, Group, AreGroups}

-- the path with these hops stands there at some time, after so many hops
pub record StandsAt (g : GraphData) (state : List Tern) (root : ℕ) (hops : List ℕ) (count : ℕ) (there : Stand) : Type 0 where
  pub front : List ℕ
  pub back : List ℕ
  pub splits : hops ≡ front ++ back
  pub counted : length front ≡ count
  pub prefix : LivePath g state root front there

-- on an unblocked path every node after the root is a storage node
abbrev pub UnblockedPathsRunOverStorage : Type 0
UnblockedPathsRunOverStorage =
    (g : GraphData) → IsWired g → (state : List Tern) (root : ℕ) (hops : List ℕ) → (¬ IsBlocked g state root hops) →
    (count : ℕ) (there : Stand) → 0 < count → StandsAt g state root hops count there → IsStorage g there.node

-- all storage nodes on an unblocked path are linked with each other, so they are in one group
abbrev pub UnblockedPathsStayInOneGroup : Type 0
UnblockedPathsStayInOneGroup =
    (g : GraphData) → IsWired g → (state : List Tern) (root : ℕ) (hops : List ℕ) → (¬ IsBlocked g state root hops) →
    (first second : ℕ) (m n : Stand) → StandsAt g state root hops first m → StandsAt g state root hops second n →
    IsStorage g m.node → IsStorage g n.node → AreLinked g m.node n.node

-- the only unblocked path to an input node is its own empty one
abbrev pub InputNodesAreReachedFromThemselves : Type 0
InputNodesAreReachedFromThemselves =
    (g : GraphData) → IsWired g → (state : List Tern) (root : ℕ) (hops : List ℕ) (there : Stand) →
    LivePath g state root hops there → (¬ IsBlocked g state root hops) → level_of g there.node ≡ INPUT_LEVEL → hops ≡ []

-- linked is an equivalence on storage nodes
abbrev pub LinkedIsAnEquivalence : Type 0
LinkedIsAnEquivalence =
    (g : GraphData) (a b c : ℕ) → (IsStorage g a → AreLinked g a a)
    × (AreLinked g a b → AreLinked g b a) × (AreLinked g a b → AreLinked g b c → AreLinked g a c)

-- every graph has groups
abbrev pub GroupsExist : Type 0
GroupsExist = (g : GraphData) → IsWired g → (groups : List Group) × AreGroups g groups

-- and no two lists of them
abbrev pub GroupsAreUnique : Type 0
GroupsAreUnique = (g : GraphData) (groups others : List Group) → AreGroups g groups → AreGroups g others → groups ≡ others
