-- The states under all valuations as a session's stage sees them: the machine over functions, whether it was built, and for how many nodes more there
-- is room.
-- States as two functions of variables after Bryant, "Boolean Analysis of MOS Circuits", 1987.
use Rattle.std.specs.Prelude.{◌≡◌, ℕ, ◌+◌, ◌≤◌, Bool, true, List, length, Option, None, Some, vec_len, vec_capacity}
use Rattle.ternary.specs.declared.tern.Tern.{Tern}
use Rattle.switch_paths.specs.Graphs.{GraphData}
use Rattle.group_text.specs.Texts.{GroupTextData}
use Rattle.decision_graph.specs.declared.vertex.Function.{Function}
use Rattle.truth_columns.specs.Columns.{AreKept}
use Rattle.truth_makers.specs.declared.symbols.Symbols.{Symbols}
use Rattle.truth_makers.specs.Makers.{bound_of, columns_in, function_holds, IsFunctionOf}
use Rattle.truth_machine.specs.Machines.{TruthData, column_of, FitsInMachine}
use Rattle.truth_machine.specs.Gears.{IsEmptyGear}
use Rattle.column_stage.specs.declared.TheConstants.{NEW_NODES}
use Rattle.column_stage.specs.Standing.{StandFirst}
use Rattle.symbol_stage.specs.declared.stage.Room.{Room}

-- the machine, whether it was built for the graph as it is, and for how many nodes more there is room
pub record StageData : Type 0 where
  pub machine : TruthData Function Symbols
  pub built : Bool
  pub spare : ℕ

-- how many columns there are: one for each valuation
abbrev pub columns_on : StageData → ℕ
columns_on stage = columns_in stage.machine.maker

-- how many vertices its graph may have
abbrev pub bound_in : StageData → ℕ
bound_in stage = bound_of stage.machine.maker

-- the states of a column
abbrev pub states_in : StageData → ℕ → List Tern
states_in stage column = column_of function_holds stage.machine column

-- a later stage's maker has all functions that the first one's had, and they hold where they held
abbrev pub KeepsFunctions : StageData → StageData → Type 0
KeepsFunctions old new = AreKept (columns_in old.machine.maker) (IsFunctionOf old.machine.maker) (function_holds old.machine.maker)
    (columns_in new.machine.maker) (IsFunctionOf new.machine.maker) (function_holds new.machine.maker)

-- for how many nodes more there is room
abbrev pub spare_held : Option Room → ℕ
spare_held None = 0
spare_held (Some room) = NEW_NODES

-- the rails are those of the machine, with room for an edit's nodes; the gear has no parts, and lists for so many nodes
pub record IsRoom (machine : TruthData Function Symbols) (room : Room) : Type 0 where
  pub gear : IsEmptyGear (IsFunctionOf machine.maker) (length machine.hi + NEW_NODES) room.gear
  pub highs : room.hi.items ≡ machine.hi
  pub lows : room.lo.items ≡ machine.lo
  pub high_room : vec_len room.hi + NEW_NODES ≤ vec_capacity room.hi
  pub low_room : vec_len room.lo + NEW_NODES ≤ vec_capacity room.lo

-- in each column it fits the graph
abbrev pub FitsIn : StageData → GraphData → Type 0
FitsIn stage g = FitsInMachine columns_in function_holds g stage.machine

-- in each column it fits the graph, whose texts are kept in front of all others
pub record Serves (stage : StageData) (g : GraphData) (kept : List GroupTextData) : Type 0 where
  pub fits : FitsIn stage g
  pub known : StandFirst 0 g kept

-- if it was built it serves
abbrev pub ServesIn : StageData → GraphData → List GroupTextData → Type 0
ServesIn stage g kept = stage.built ≡ true → Serves stage g kept
