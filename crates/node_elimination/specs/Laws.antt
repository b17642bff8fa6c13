-- Two laws: the equations of the levels are the paths, and elimination keeps the least solution.
-- After Bryant, "Boolean Analysis of MOS Circuits", 1987.
use Rattle.std.specs.Prelude.{◌≡◌, ℕ, ◌≤◌, ◌↔◌, Bool, true, List}
use Rattle.ternary.specs.declared.tern.Tern.{Tern}
use Rattle.switch_paths.specs.Switching.{state_at}
use Rattle.switch_paths.specs.Graphs.{GraphData, IsWired}
use Rattle.switch_paths.specs.Path.{Stand, LivePath, HasDefinite, IsBlocked}
use Rattle.node_elimination.specs.Solution.{Sol, without, edge_past, right_past}
use Rattle.node_elimination.specs.Levels.{Reached, Driven}

-- a definite path of strength at least s leads to the node
abbrev pub HasDefinitePath : GraphData → List Tern → ℕ → ℕ → Type 0
HasDefinitePath g state s node = HasDefinite g state node (λ own. s ≤ own)

-- an unblocked path of strength at least s leads to the node, from a root whose state has the rail
pub record HasUnblockedPath (rail : Tern → Bool) (g : GraphData) (state : List Tern) (s node : ℕ) : Type 0 where
  pub root : ℕ
  pub hops : List ℕ
  pub there : Stand
  pub path : LivePath g state root hops there
  pub ends : there.node ≡ node
  pub unblocked : ¬ IsBlocked g state root hops
  pub strong : s ≤ there.strength
  pub set : rail (state_at state root) ≡ true

-- D(s, n) holds exactly if a definite path of strength at least s leads to n
abbrev pub ReachedByPaths : Type 0
ReachedByPaths =
    (g : GraphData) → IsWired g → (state : List Tern) (s n : ℕ) → 1 ≤ s →
    Reached g state s n ↔ HasDefinitePath g state s n

-- U(s, n) for a rail holds exactly if an unblocked path of strength at least s leads to n from a root that has the rail
abbrev pub DrivenByPaths : Type 0
DrivenByPaths =
    (rail : Tern → Bool) (g : GraphData) → IsWired g → (state : List Tern) (s n : ℕ) → 1 ≤ s →
    Driven rail g state s n ↔ HasUnblockedPath rail g state s n

-- without k, the edges and right sides past k have the same least solution, that of k itself included
abbrev pub EliminationKeepsTheSolution : Type 0
EliminationKeepsTheSolution =
    (left : ℕ → Bool) (edge : ℕ → ℕ → Bool) (right : ℕ → Bool) (k i : ℕ) → left k ≡ true →
    Sol left edge right i ↔ Sol (without left k) (edge_past edge k) (right_past edge right k) i
