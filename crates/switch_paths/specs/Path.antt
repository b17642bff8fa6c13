-- Live paths, what blocks them, and which nodes they reach.
-- After Bryant, "A Switch-Level Model and Simulator for MOS Digital Systems", 1984, and "Boolean Analysis of
-- MOS Circuits", 1987.
use Rattle.std.specs.Prelude.{◌≡◌, ℕ, ◌<◌, min, Bool, true, ◌&&◌, ◌⊎◌, List, [], ◌∷◌, ◌++◌, Some}
use Rattle.ternary.specs.declared.tern.Tern.{Tern}
use Rattle.switch_paths.specs.declared.switching.Switch.{Switch}
use Rattle.switch_paths.specs.Switching.{is_closed, is_live, switch_state_at}
use Rattle.switch_paths.specs.Graphs.{GraphData, nodes, level_of, place_at}

-- where a path stands: at a node, with its strength so far, and whether it met closed switches alone
pub record Stand : Type 0 where
  pub node : ℕ
  pub strength : ℕ
  pub definite : Bool

-- the switch has one end at each of the two nodes
abbrev pub Joins : Switch → ℕ → ℕ → Type 0
Joins switch m n = ((switch.a ≡ m) × (switch.b ≡ n)) ⊎ ((switch.b ≡ m) × (switch.a ≡ n))

-- one hop goes over the switch at a place, which isn't open, to its other end; it is as strong as the weaker of
-- the path and the switch
pub record Hop (g : GraphData) (state : List Tern) (here : Stand) (place : ℕ) (there : Stand) : Type 0 where
  pub switch : Switch
  pub at_place : place_at g.places place ≡ Some switch
  pub joins : Joins switch here.node there.node
  pub live : is_live (switch_state_at state switch) ≡ true
  pub strength : there.strength ≡ min here.strength switch.level
  pub definite : there.definite ≡ (here.definite && is_closed (switch_state_at state switch))

-- hops over these places, one after the other, lead from one stand to the other
abbrev pub Leads : GraphData → List Tern → Stand → List ℕ → Stand → Type 0
Leads g state here [] there = here ≡ there
Leads g state here (place ∷ places) there =
    (next : Stand) × Hop g state here place next × Leads g state next places there

-- a path stands at its root first, with the root's level
abbrev pub at_root : GraphData → ℕ → Stand
at_root g root = record { node = root; strength = level_of g root; definite = true }

-- a live path is a root and a list of places; it leads to where it stands last
pub record LivePath (g : GraphData) (state : List Tern) (root : ℕ) (hops : List ℕ) (there : Stand) : Type 0 where
  pub in_range : root < nodes g
  pub leads : Leads g state (at_root g root) hops there

-- a definite path that is so strong leads to the node
pub record HasDefinite (g : GraphData) (state : List Tern) (node : ℕ) (IsSo : ℕ → Type 0) : Type 0 where
  pub root : ℕ
  pub hops : List ℕ
  pub there : Stand
  pub path : LivePath g state root hops there
  pub ends : there.node ≡ node
  pub definite : there.definite ≡ true
  pub strong : IsSo there.strength

-- a definite path that is stronger than this strength leads to the node
abbrev pub IsBeaten : GraphData → List Tern → ℕ → ℕ → Type 0
IsBeaten g state node strength = HasDefinite g state node (λ own. strength < own)

-- a path is blocked where some prefix of it, the empty one and the whole included, ends where a definite path
-- leads that is stronger than that prefix
pub record IsBlocked (g : GraphData) (state : List Tern) (root : ℕ) (hops : List ℕ) : Type 0 where
  pub front : List ℕ
  pub back : List ℕ
  pub splits : hops ≡ front ++ back
  pub there : Stand
  pub prefix : LivePath g state root front there
  pub beaten : IsBeaten g state there.node there.strength

-- an unblocked path leads from the root to the node
pub record Reaches (g : GraphData) (state : List Tern) (root node : ℕ) : Type 0 where
  pub hops : List ℕ
  pub there : Stand
  pub path : LivePath g state root hops there
  pub ends : there.node ≡ node
  pub unblocked : ¬ IsBlocked g state root hops
