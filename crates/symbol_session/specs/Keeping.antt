-- Where the rails stand that are kept under a name.
use Rattle.std.specs.Prelude.{◌≡◌, ℕ, ◌+◌, ◌-◌, ◌<◌, ◌≤◌, Bool, true, false, not, List, [], ◌∷◌, ◌++◌, length, take, drop, map, count_by, All, bytes_eq, slice_index_or, if◌then◌else◌}
use Rattle.std.specs.List.{range_with_len}
use Rattle.switch_paths.specs.Graphs.{nodes}
use Rattle.switch_paths.specs.declared.TheConstants.{RAILS}
use Rattle.decision_graph.specs.declared.vertex.Function.{Function}
use Rattle.truth_columns.specs.Columns.{HasColumn}
use Rattle.truth_makers.specs.Makers.{function_holds, IsFunctionOf}
use Rattle.symbol_stage.specs.declared.given.Letters.{Letters}
use Rattle.symbol_stage.specs.Stages.{StageData, columns_on, states_in}
use Rattle.symbol_session.specs.Sessions.{Save, SymbolData}

-- states are kept under this name, compared byte by byte
abbrev pub is_named : List ℕ → Save → Bool
is_named name save = bytes_eq name save.0

-- how many other names keep states
abbrev pub other_saves : List Save → List ℕ → ℕ
other_saves saves name = count_by (λ save. not (is_named name save)) saves

-- the names before this one, or all if it isn't there; and how many functions these keep
abbrev pub before_save : List Save → List ℕ → List Save
before_save [] name = []
before_save (save ∷ saves) name = if is_named name save then [] else save ∷ before_save saves name

abbrev pub kept_by : List Save → ℕ
kept_by [] = 0
kept_by (save ∷ saves) = save.1 + (save.1 + kept_by saves)

-- the number of the nodes of what is kept under a name, or 0
abbrev pub nodes_under : List Save → List ℕ → ℕ
nodes_under [] name = 0
nodes_under (save ∷ saves) name = if is_named name save then save.1 else nodes_under saves name

-- something is kept under it
abbrev pub is_kept : List Save → List ℕ → Bool
is_kept [] name = false
is_kept (save ∷ saves) name = if is_named name save then true else is_kept saves name

-- the names with this one and its number, in the place where it was or else behind the others
abbrev pub with_name : List Save → List ℕ → ℕ → List Save
with_name [] name n = (name, n) ∷ []
with_name (save ∷ saves) name n = if is_named name save then (name, n) ∷ saves else save ∷ with_name saves name n

-- the rails with these in the place of the old ones
abbrev pub with_rails : List Function → ℕ → ℕ → List Function → List Function → List Function
with_rails rails place old highs lows = take place rails ++ (highs ++ (lows ++ drop (place + (old + old)) rails))

-- a stage has a state for each of so many nodes in each column, and functions for them
pub record HasNodes (stage : StageData) (n : ℕ) : Type 0 where
  pub highs : n ≤ length stage.machine.hi
  pub states : (column : ℕ) → column < columns_on stage → length (states_in stage column) ≡ n

-- functions of a stage's maker that are the rails of its first nodes, so many: in each column they hold as these nodes' states say
pub record AreRailsTo (stage : StageData) (n : ℕ) (highs lows : List Function) : Type 0 where
  pub high_count : length highs ≡ n
  pub low_count : length lows ≡ n
  pub own_highs : All (IsFunctionOf stage.machine.maker) highs
  pub own_lows : All (IsFunctionOf stage.machine.maker) lows
  pub states : (column : ℕ) → column < columns_on stage →
      HasColumn (function_holds stage.machine.maker) column highs lows (take n (states_in stage column))

-- the present states of all nodes are kept under a name, and all else is as before
pub record KeepsStates (old : SymbolData) (name : List ℕ) (new : SymbolData) : Type 0 where
  pub highs : List Function
  pub lows : List Function
  pub rails : AreRailsTo old.session.stage (nodes old.session.core.circuit.graph) highs lows
  pub session : new.session ≡ old.session
  pub names : new.names ≡ old.names
  pub saves : new.saves ≡ with_name old.saves name (nodes old.session.core.circuit.graph)
  pub kept : new.kept ≡ with_rails old.kept (1 + kept_by (before_save old.saves name)) (nodes_under old.saves name) highs lows
  pub count : new.count ≡ old.count
  pub quiet : new.quiet ≡ old.quiet
  pub text : new.text ≡ old.text

-- a function at a place of what is kept
abbrev pub kept_at : List Function → ℕ → Function
kept_at kept place = slice_index_or kept place (record { place = 0 })

-- the letters of a node of so many whose rails are kept from a place on
abbrev pub letters_at : List Function → ℕ → ℕ → ℕ → Letters
letters_at kept place n node = record { hi = kept_at kept (place + node); lo = kept_at kept (place + (n + node)) }

-- the letters of the nodes past the rails, so many nodes in all, from a place on
abbrev pub letters_from : List Function → ℕ → ℕ → List (ℕ × Letters)
letters_from kept place n = map (λ node. (node, letters_at kept place n node)) (range_with_len RAILS (n - RAILS))
