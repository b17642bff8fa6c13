-- The formulas of a level for all members, and the way from one level down to the next.
use Rattle.std.specs.Prelude.{◌≡◌, ℕ, ◌+◌, ◌*◌, ◌<◌, ◌↔◌, Bool, true, not, List, ◌++◌, length, Some, slice_get}
use Rattle.ternary.specs.declared.tern.Tern.{Tern}
use Rattle.ternary.specs.Tern.{may_one, may_zero}
use Rattle.switch_paths.specs.Graphs.{GraphData}
use Rattle.bool_pool.specs.declared.gate.Gate.{Gate}
use Rattle.bool_pool.specs.declared.gate.Id.{Id}
use Rattle.bool_pool.specs.declared.gate.Rails.{Rails}
use Rattle.node_elimination.specs.declared.inputs.Inputs.{Inputs}
use Rattle.node_elimination.specs.declared.descent.Drives.{Drives}
use Rattle.node_elimination.specs.declared.descent.Levels.{Levels}
use Rattle.node_elimination.specs.Growth.{place_of, AreFormulas}
use Rattle.node_elimination.specs.Levels.{Reached, Driven}
use Rattle.node_elimination.specs.LevelSystem.{value_of, system_cost}
use Rattle.node_elimination.specs.Inputs.{ShowsState}

-- the formulas of U, as one list
abbrev pub driven_formulas : Drives → List Id
driven_formulas drives = drives.one.items ++ drives.zero.items

-- the formulas of a level, as one list
abbrev pub level_formulas : Levels → List Id
level_formulas levels = levels.strong.items ++ driven_formulas levels.drives

-- there is one formula of U for each rail of each member, and all are formulas of the pool
pub record HaveDriven (members : ℕ) (gates : List Gate) (drives : Drives) : Type 0 where
  pub each_one : length drives.one.items ≡ members
  pub each_zero : length drives.zero.items ≡ members
  pub formulas : AreFormulas gates (driven_formulas drives)

-- beside them there is one formula of D for each member
pub record HaveLevels (members : ℕ) (gates : List Gate) (levels : Levels) : Type 0 where
  pub each_strong : length levels.strong.items ≡ members
  pub formulas : AreFormulas gates levels.strong.items
  pub drives : HaveDriven members gates levels.drives

-- under these variables the formulas are D(s) of the members in the state
abbrev pub ShowsReached : GraphData → ℕ → List Gate → List Id → ℕ → List Tern → (ℕ → Bool) → Type 0
ShowsReached g members gates strong s state vars =
    (i : ℕ) → i < members → (value_of gates strong vars i ≡ true) ↔ Reached g state s i

-- under them the formulas are U(s) for a rail
abbrev pub ShowsRail : (Tern → Bool) → GraphData → ℕ → List Gate → List Id → ℕ → List Tern → (ℕ → Bool) → Type 0
ShowsRail rail g members gates ids s state vars =
    (i : ℕ) → i < members → (value_of gates ids vars i ≡ true) ↔ Driven rail g state s i

-- under them the formulas are U(s) for both rails
pub record ShowsDriven (g : GraphData) (members : ℕ) (gates : List Gate) (drives : Drives) (s : ℕ) (state : List Tern)
    (vars : ℕ → Bool) : Type 0 where
  pub one : ShowsRail may_one g members gates drives.one.items s state vars
  pub zero : ShowsRail may_zero g members gates drives.zero.items s state vars

-- under them the formulas are D(s), and U(s) for both rails
pub record ShowsLevel (g : GraphData) (members : ℕ) (gates : List Gate) (levels : Levels) (s : ℕ) (state : List Tern)
    (vars : ℕ → Bool) : Type 0 where
  pub strong : ShowsReached g members gates levels.strong.items s state vars
  pub drives : ShowsDriven g members gates levels.drives s state vars

-- the formulas are D(s) in each state that the inputs tell
abbrev pub ReachAt : GraphData → ℕ → Inputs → List Gate → ℕ → List Gate → List Id → Type 0
ReachAt g members inputs before s after strong =
    (state : List Tern) (vars : ℕ → Bool) → ShowsState g before inputs state vars →
    ShowsReached g members after strong s state vars

-- the formulas are U(s) in each state that the inputs tell
abbrev pub DriveAt : GraphData → ℕ → Inputs → List Gate → ℕ → List Gate → Drives → Type 0
DriveAt g members inputs before s after drives =
    (state : List Tern) (vars : ℕ → Bool) → ShowsState g before inputs state vars →
    ShowsDriven g members after drives s state vars

-- they are U(s) in each state that the inputs tell, where those of the level above are D(s + 1) and U(s + 1)
abbrev pub DriveDown : GraphData → ℕ → Inputs → List Gate → Levels → ℕ → List Gate → Drives → Type 0
DriveDown g members inputs before above s after drives =
    (state : List Tern) (vars : ℕ → Bool) → ShowsState g before inputs state vars →
    ShowsLevel g members before above (s + 1) state vars → ShowsDriven g members after drives s state vars

-- they are D(s) and U(s) in each state that the inputs tell, where those of the level above are D(s + 1) and U(s + 1)
abbrev pub StepDown : GraphData → ℕ → Inputs → List Gate → Levels → ℕ → List Gate → Levels → Type 0
StepDown g members inputs before above s after levels =
    (state : List Tern) (vars : ℕ → Bool) → ShowsState g before inputs state vars →
    ShowsLevel g members before above (s + 1) state vars → ShowsLevel g members after levels s state vars

-- the formulas are the negations of the first ones, so many of them
pub record AreNegations (before : List Gate) (ids : List Id) (count : ℕ) (after : List Gate)
    (negations : List Id) : Type 0 where
  pub each_one : length negations ≡ count
  pub formulas : AreFormulas after negations
  pub value_is : (vars : ℕ → Bool) (i : ℕ) → i < count → value_of after negations vars i ≡ not (value_of before ids vars i)

-- how many steps U of a level takes at most, for n members and t switches: two systems, and their bases
abbrev pub drives_cost : ℕ → ℕ → ℕ
drives_cost n t = 2 * system_cost n t + 5 * n

-- how many steps a level takes at most: those of U, and one system for D
abbrev pub level_cost : ℕ → ℕ → ℕ
level_cost n t = 3 * system_cost n t + 5 * n

-- each answer is the pair of the formulas of a member
pub record ArePairs (one zero : List Id) (answers : List Rails) : Type 0 where
  pub each_pair : length answers ≡ length one
  pub pairs : (k : ℕ) (rails : Rails) → slice_get answers k ≡ Some rails →
      (k < length one) × (rails.hi.place ≡ place_of one k) × (rails.lo.place ≡ place_of zero k)
