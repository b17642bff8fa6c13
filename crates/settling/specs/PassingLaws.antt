-- Laws of the states that are passed through, each proved as the contract of a function in `src/laws.rt`.
use Rattle.std.specs.Prelude.{◌≡◌, ℕ, Bool, List, length}
use Rattle.ternary.specs.declared.tern.Tern.{Tern}
use Rattle.switch_paths.specs.Graphs.{GraphData, IsWired, nodes}
use Rattle.settling.specs.Settling.{Settles}
use Rattle.settling.specs.Passing.{SettlesThrough, last_state}

-- the states that are passed through say where a state settles, after how many steps, and whether it joined
abbrev pub PassingSettles : Type 0
PassingSettles =
    (g : GraphData) (old : List Tern) (limit : ℕ) (passed : List (List Tern)) (joined : Bool) →
    SettlesThrough g old limit passed joined → Settles g old limit (last_state old passed) (length passed) joined

-- whatever settles passes through states, as many as it takes steps, and ends in the last of them
abbrev pub SettlingPasses : Type 0
SettlingPasses =
    (g : GraphData) (old : List Tern) (limit : ℕ) (new : List Tern) (steps : ℕ) (joined : Bool) →
    Settles g old limit new steps joined →
    (passed : List (List Tern)) × SettlesThrough g old limit passed joined × (new ≡ last_state old passed) × (steps ≡ length passed)

-- the states that are passed through are these alone
abbrev pub PassingIsUnique : Type 0
PassingIsUnique =
    (g : GraphData) (old : List Tern) (limit : ℕ) (passed other : List (List Tern)) (joined other_joined : Bool) →
    SettlesThrough g old limit passed joined → SettlesThrough g old limit other other_joined →
    (passed ≡ other) × (joined ≡ other_joined)

-- every state of a graph passes through states, under every limit
abbrev pub EveryStatePasses : Type 0
EveryStatePasses =
    (g : GraphData) → IsWired g → (old : List Tern) → length old ≡ nodes g → (limit : ℕ) →
    (passed : List (List Tern)) × (joined : Bool) × SettlesThrough g old limit passed joined
