-- Reasons: why a node may be 1, or may be 0.
-- After Bryant, "Boolean Analysis of MOS Circuits", 1987.
use Rattle.std.specs.Prelude.{◌≡◌, ℕ, ◌<◌, ◌≤◌, Bool, true, List, length, take, Option, Some, None}
use Rattle.ternary.specs.declared.tern.Tern.{Tern}
use Rattle.switch_paths.specs.declared.walks.Walk.{Walk}
use Rattle.switch_paths.specs.Switching.{state_at}
use Rattle.switch_paths.specs.Graphs.{GraphData}
use Rattle.switch_paths.specs.Path.{Stand, LivePath, IsBlocked}

-- a reason for a rail of a node is a live path to it that is unblocked and whose root's state has the rail
pub record IsReason (rail : Tern → Bool) (g : GraphData) (state : List Tern) (node root : ℕ) (hops : List ℕ) : Type 0 where
  pub there : Stand
  pub path : LivePath g state root hops there
  pub ends : there.node ≡ node
  pub unblocked : ¬ IsBlocked g state root hops
  pub set : rail (state_at state root) ≡ true

-- a path passes a node twice where it stands at one node after so many hops and again after more of them
pub record PassesTwice (g : GraphData) (state : List Tern) (root : ℕ) (hops : List ℕ) : Type 0 where
  pub first : ℕ
  pub second : ℕ
  pub later : first < second
  pub inside : second ≤ length hops
  pub before : Stand
  pub after : Stand
  pub to_before : LivePath g state root (take first hops) before
  pub to_after : LivePath g state root (take second hops) after
  pub same : before.node ≡ after.node

-- a best reason passes no node twice, and no reason for the same rail of the same node is stronger
pub record IsBestReason (rail : Tern → Bool) (g : GraphData) (state : List Tern) (node root : ℕ) (hops : List ℕ) : Type 0 where
  pub reason : IsReason rail g state node root hops
  pub once : ¬ PassesTwice g state root hops
  pub most : (other_root : ℕ) (other_hops : List ℕ) (other : IsReason rail g state node other_root other_hops) →
      other.there.strength ≤ reason.there.strength

-- the answer explains the rail of the node: it is a best reason, or there is no reason at all
abbrev pub Explains : (Tern → Bool) → GraphData → List Tern → ℕ → Option Walk → Type 0
Explains rail g state node None = (root : ℕ) (hops : List ℕ) → ¬ IsReason rail g state node root hops
Explains rail g state node (Some walk) = IsBestReason rail g state node walk.root walk.hops.items

-- the walk is a live path
abbrev pub IsLive : GraphData → List Tern → Walk → Type 0
IsLive g state walk = (there : Stand) × LivePath g state walk.root walk.hops.items there
