-- The line of an assignment that isn't met, by what is wanted of its nodes under one valuation.
use Rattle.std.specs.Prelude.{◌≡◌, ℕ, Bool, true, false, List, [], ◌∷◌, map, Result, Ok, Err}
use Rattle.ternary.specs.declared.tern.Tern.{Tern}
use Rattle.switch_paths.specs.Switching.{state_at}
use Rattle.vector_values.specs.Values.{Letter}
use Rattle.node_values.specs.Givings.{is_vector}
use Rattle.told_lines.specs.Hearing.{HearsFront}
use Rattle.truth_makers.specs.declared.symbols.Symbols.{Symbols}
use Rattle.truth_makers.specs.Makers.{function_holds}
use Rattle.truth_parts.specs.Columns.{state_with}
use Rattle.decision_graph.specs.declared.vertex.Function.{Function}
use Rattle.symbol_lines.specs.declared.items.Item.{Item}
use Rattle.symbol_lines.specs.declared.items.Item.TheVariants as item
use Rattle.session_meaning.specs.Sessions.{HeldSession}
use Rattle.symbol_script.specs.declared.line.Assignment.{Assignment}
use Rattle.symbol_meaning.specs.Told.{SymbolTold, Unmet}
use Rattle.symbol_meaning.specs.Merging.{is_formula, wanted_text}
use Rattle.symbol_told.specs.Lines.{Telling}
use Rattle.symbol_stage.specs.Stages.{StageData, states_in}
use Rattle.symbol_giving.specs.Letters.{pairs_in}
use Rattle.symbol_giving.specs.declared.letters.SymbolLetter.{SymbolLetter}
use Rattle.symbol_expecting.specs.declared.fault.ExpectFault.{ExpectFault}
use Rattle.symbol_expecting.specs.Missing.{column_with}

-- a line without rails, and several
abbrev pub telling_alone : SymbolTold → Telling
telling_alone line = record { line = line; highs = []; lows = [] }

abbrev pub tellings : List SymbolTold → List Telling
tellings told = map telling_alone told

-- the letters that are wanted of nodes under a valuation, and their states there
abbrev pub wanted_under : StageData → List (ℕ × SymbolLetter) → List Bool → List Letter
wanted_under stage pairs vars = map (λ pair. pair.1) (pairs_in stage pairs (column_with stage.machine.maker vars))

abbrev pub states_under : StageData → List (ℕ × SymbolLetter) → List Bool → List Tern
states_under stage pairs vars = map (λ pair. state_at (states_in stage (column_with stage.machine.maker vars)) pair.0) pairs

-- the state that two functions are under a valuation: where a node may be 1, and where it may be 0
abbrev pub state_under : Symbols → Function → Function → List Bool → Tern
state_under symbols hi lo vars =
    state_with (function_holds symbols hi (column_with symbols vars)) (function_holds symbols lo (column_with symbols vars))

-- the item is a formula
abbrev pub is_formula_item : Item → Bool
is_formula_item (item.Letter letter) = false
is_formula_item (item.Formula parts) = true

-- the value that is told as the wanted one of an assignment
abbrev pub text_wanted : HeldSession StageData → Assignment → List Letter → List ℕ
text_wanted session own wanted = wanted_text (is_vector session.core.circuit session.core.vectors own.name) (is_formula own.value) own.text wanted

-- the line of an assignment that isn't met under a valuation, after so many waveform lines
abbrev pub unmet_told : HeldSession StageData → Assignment → List (ℕ × SymbolLetter) → List Bool → ℕ → SymbolTold
unmet_told session own pairs vars n =
    Unmet own.name (text_wanted session own (wanted_under session.stage pairs vars)) (states_under session.stage pairs vars) n vars

-- the line was heard, or at a fault a part of it, or nothing
abbrev pub TellsLine : {H : Type 0} → (H → Telling → H) → (H → Telling → H → Type 0) → SymbolTold → H → H → Result Bool ExpectFault → Type 0
TellsLine hear part line before after (Ok told) = (told ≡ true) × (after ≡ hear before (telling_alone line))
TellsLine hear part line before after (Err fault) = HearsFront hear part before after (telling_alone line ∷ [])
