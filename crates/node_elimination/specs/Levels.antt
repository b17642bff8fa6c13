-- The three families of the levels s, for a graph under a state: D(s, n), clear(s, n), and U(s, n) for either rail.
-- After Bryant, "Boolean Analysis of MOS Circuits", 1987.
use Rattle.std.specs.Prelude.{◌≡◌, ◌≢◌, ℕ, ◌+◌, ◌≤◌, Bool, true, List, Some}
use Rattle.ternary.specs.declared.tern.Tern.{Tern}
use Rattle.switch_paths.specs.declared.switching.Switch.{Switch}
use Rattle.switch_paths.specs.Switching.{is_closed, is_live, state_at, switch_state_at}
use Rattle.switch_paths.specs.Graphs.{GraphData, level_of, place_at}
use Rattle.switch_paths.specs.Path.{Joins}

-- D(s, n): the node has a level of at least s, or a closed switch of level at least s joins it to such a node
pub data Reached (g : GraphData) (state : List Tern) (s : ℕ) : ℕ → Type 0 where
  own : {n : ℕ} → s ≤ level_of g n → Reached g state s n
  over : {n : ℕ} (m place : ℕ) (switch : Switch) → place_at g.places place ≡ Some switch → Joins switch m n →
      is_closed (switch_state_at state switch) ≡ true → s ≤ switch.level → Reached g state s m → Reached g state s n

-- clear(s, n): not D(s + 1, n)
abbrev pub IsClear : GraphData → List Tern → ℕ → ℕ → Type 0
IsClear g state s n = ¬ Reached g state (s + 1) n

-- U(s, n): U(s + 1, n), or the node is clear and is a root of level s that has the rail, or it is clear and a switch of
-- level at least s that isn't open joins it to a node of U(s)
pub data Driven (rail : Tern → Bool) (g : GraphData) (state : List Tern) : ℕ → ℕ → Type 0 where
  above : {s n : ℕ} → Driven rail g state (s + 1) n → Driven rail g state s n
  root : {s n : ℕ} → IsClear g state s n → level_of g n ≡ s → rail (state_at state n) ≡ true → Driven rail g state s n
  onto : {s n : ℕ} (m place : ℕ) (switch : Switch) → place_at g.places place ≡ Some switch → Joins switch m n →
      is_live (switch_state_at state switch) ≡ true → s ≤ switch.level → IsClear g state s n → Driven rail g state s m →
      Driven rail g state s n

-- no node and no switch has this level
pub record IsUnused (g : GraphData) (s : ℕ) : Type 0 where
  pub nodes : (n : ℕ) → level_of g n ≢ s
  pub switches : (place : ℕ) (switch : Switch) → place_at g.places place ≡ Some switch → switch.level ≢ s
