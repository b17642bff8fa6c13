-- Replacements beyond the end of a phase: two runs may take as many as the longer one wants.
use Rattle.std.specs.Prelude.{◌≡◌, ℕ, zero, suc, ◌+◌, ◌-◌, ◌≤◌, Bool, not, nat_lt, List, length}
use Rattle.ternary.specs.declared.tern.Tern.{Tern}
use Rattle.switch_paths.specs.Graphs.{GraphData, nodes}
use Rattle.switch_paths.specs.Step.{IsStep}
use Rattle.settling.specs.Settling.{Settles, IsJoinStep}
use Rattle.run_beside.specs.Agreeing.{IsMove}

-- so many replacements lead from one state to another: plain ones while some are left, then joining ones
abbrev pub Replaces : GraphData → ℕ → ℕ → List Tern → List Tern → Type 0
Replaces g left zero old new = new ≡ old
Replaces g zero (suc count) old new = (next : List Tern) × IsJoinStep g old next × Replaces g zero count next new
Replaces g (suc left) (suc count) old new = (next : List Tern) × IsStep g old next × Replaces g left count next new

-- a state at rest is its own joining step too
abbrev pub RestingStatesStay : Type 0
RestingStatesStay = (g : GraphData) (state : List Tern) → IsStep g state state → IsJoinStep g state state

-- if a state settles, it is settled after any number of replacements that is no less
abbrev pub SettledStatesStay : Type 0
SettledStatesStay =
    (g : GraphData) (old : List Tern) (limit : ℕ) (new : List Tern) (steps : ℕ) (joined : Bool) → Settles g old limit new steps joined →
    (count : ℕ) → steps ≤ count → Replaces g limit count old new

-- the next replacement leaves the state as it is: a plain one while some are left, else a joining one
abbrev pub IsAtEnd : GraphData → ℕ → List Tern → Type 0
IsAtEnd g zero state = IsJoinStep g state state
IsAtEnd g (suc left) state = IsStep g state state

-- if replacements lead to a state that the next one leaves as it is, the first state settles there
abbrev pub ReplacedStatesSettle : Type 0
ReplacedStatesSettle =
    (g : GraphData) (old : List Tern) (limit count : ℕ) (new : List Tern) → length old ≡ nodes g → Replaces g limit count old new →
    IsAtEnd g (limit - count) new → (steps : ℕ) × (joined : Bool) × (steps ≤ count) × Settles g old limit new steps joined

-- a replacement of the kind that its number says: plain ones while there are fewer than the limit, then joining ones
abbrev pub IsReplacement : GraphData → ℕ → ℕ → List Tern → List Tern → Type 0
IsReplacement g limit count old new = IsMove (not (nat_lt count limit)) g old new

-- so many replacements more lead from one state to another, once so many were taken
abbrev pub ReplacesFrom : GraphData → ℕ → ℕ → ℕ → List Tern → List Tern → Type 0
ReplacesFrom g limit count zero old new = new ≡ old
ReplacesFrom g limit count (suc more) old new = (next : List Tern) × IsReplacement g limit count old next × ReplacesFrom g limit (suc count) more next new

-- they are the replacements of what is left of the limit
abbrev pub LaterReplacementsReplace : Type 0
LaterReplacementsReplace =
    (g : GraphData) (limit count more : ℕ) (old new : List Tern) → ReplacesFrom g limit count more old new → Replaces g (limit - count) more old new

-- some of them and then others are as many as both together
abbrev pub LaterReplacementsFollow : Type 0
LaterReplacementsFollow =
    (g : GraphData) (limit count first more : ℕ) (old mid new : List Tern) → ReplacesFrom g limit count first old mid →
    ReplacesFrom g limit (count + first) more mid new → ReplacesFrom g limit count (first + more) old new
