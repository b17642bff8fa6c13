-- Laws of settling, each proved as the contract of a function in `src/laws.rt`.
-- In the manner of MOSSIM II: Bryant, "A Switch-Level Model and Simulator for MOS Digital Systems", 1984.
use Rattle.std.specs.Prelude.{◌≡◌, ◌≢◌, ℕ, Bool, List, length}
use Rattle.ternary.specs.declared.tern.Tern.{Tern}
use Rattle.ternary.specs.declared.tern.Tern.TheVariants.{Unk}
use Rattle.switch_paths.specs.Switching.{state_at}
use Rattle.switch_paths.specs.Graphs.{GraphData, IsWired, nodes, IsStorage}
use Rattle.settling.specs.Settling.{IsJoinStep, Settles}

-- every state of a graph settles, under every limit
abbrev pub EveryStateSettles : Type 0
EveryStateSettles =
    (g : GraphData) → IsWired g → (old : List Tern) → length old ≡ nodes g → (limit : ℕ) →
    (new : List Tern) × (steps : ℕ) × (joined : Bool) × Settles g old limit new steps joined

-- a joining step that changes something makes some storage node X that wasn't
abbrev pub JoiningStepsMakeX : Type 0
JoiningStepsMakeX =
    (g : GraphData) → IsWired g → (old new : List Tern) → IsJoinStep g old new → new ≢ old →
    (node : ℕ) × IsStorage g node × (state_at old node ≢ Unk) × (state_at new node ≡ Unk)

-- a state settles in one way alone: to one state, after one number of steps
abbrev pub SettlingIsUnique : Type 0
SettlingIsUnique =
    (g : GraphData) (old : List Tern) (limit : ℕ) (new other : List Tern) (steps other_steps : ℕ) (joined other_joined : Bool) →
    Settles g old limit new steps joined → Settles g old limit other other_steps other_joined →
    (new ≡ other) × (steps ≡ other_steps) × (joined ≡ other_joined)
