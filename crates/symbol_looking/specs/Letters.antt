-- The letters that nodes have under all valuations, and their rails.
use Rattle.std.specs.Prelude.{ℕ, ◌<◌, List, length, map, slice_index_or, All, Option, Some, None, if◌then◌else◌}
use Rattle.std.specs.List.{list_all, range_with_len}
use Rattle.ternary.specs.declared.tern.Tern.{Tern}
use Rattle.switch_paths.specs.Switching.{state_at}
use Rattle.told_lines.specs.Sums.{is_state}
use Rattle.decision_graph.specs.declared.vertex.Function.{Function}
use Rattle.truth_columns.specs.Columns.{HasColumn}
use Rattle.truth_makers.specs.Makers.{function_holds, IsFunctionOf}
use Rattle.symbol_stage.specs.Stages.{StageData, columns_on, states_in}

-- how many nodes a stage has
unfoldable pub nodes_on : StageData → ℕ
nodes_on stage = length (states_in stage 0)

-- the state that a node has in all of so many columns, if it has one
unfoldable pub letter_in_all : ℕ → (ℕ → List Tern) → ℕ → Option Tern
letter_in_all columns states node =
    if list_all (λ column. is_state (state_at (states column) node) (state_at (states 0) node)) (range_with_len 0 columns)
    then Some (state_at (states 0) node) else None

-- in the columns of a stage
abbrev pub letter_on : StageData → ℕ → Option Tern
letter_on stage node = letter_in_all (columns_on stage) (states_in stage) node

-- a node's function in a list of rails
abbrev pub rail_of : List Function → ℕ → Function
rail_of rails node = slice_index_or rails node (record { place = 0 })

-- functions of a stage's maker that are the rails of these nodes: in each column they hold as their states say
pub record AreRailsAt (stage : StageData) (nodes : List ℕ) (highs lows : List Function) : Type 0 where
  pub own_highs : All (IsFunctionOf stage.machine.maker) highs
  pub own_lows : All (IsFunctionOf stage.machine.maker) lows
  pub states : (column : ℕ) → column < columns_on stage →
      HasColumn (function_holds stage.machine.maker) column highs lows (map (state_at (states_in stage column)) nodes)
