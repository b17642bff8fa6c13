-- In which columns an expectation wasn't met so far.
use Rattle.std.specs.Prelude.{◌≡◌, ℕ, ◌<◌, ◌||◌, Bool, true, false, not, List, [], ◌∷◌, map, Result, Ok, Err, IfErr, IfOk}
use Rattle.std.specs.List.{list_any}
use Rattle.script_lang.specs.declared.value.Value.{Value}
use Rattle.decision_graph.specs.declared.vertex.Function.{Function}
use Rattle.decision_graph.specs.declared.graph.GraphFault.{GraphFault}
use Rattle.truth_makers.specs.Makers.{columns_in, function_holds, IsFunctionOf, IsSpent}
use Rattle.truth_machine.specs.Symbols.{MakesMore}
use Rattle.told_lines.specs.Lines.{is_unmet}
use Rattle.symbol_script.specs.declared.line.Assignment.{Assignment}
use Rattle.symbol_stage.specs.Stages.{StageData, columns_on, states_in}
use Rattle.formula_functions.specs.Tables.{TableData}
use Rattle.session_meaning.specs.Sessions.{HeldSession}
use Rattle.session_meaning.specs.Columns.{column_of}
use Rattle.session_meaning.specs.Effects.{unmet_lines}
use Rattle.symbol_giving.specs.Letters.{named_in}
use Rattle.symbol_giving.specs.declared.letters.SymbolLetter.{SymbolLetter}
use Rattle.symbol_meaning.specs.Readings.{plain_under}
use Rattle.symbol_expecting.specs.Missing.{are_met_in}
use Rattle.script_meaning.specs.declared.turn.Turn.{Turn}
use Rattle.script_meaning.specs.declared.turn.Turn.TheVariants.{Accepted, Refused, TooLarge}
use Rattle.symbol_run.specs.declared.session.SymbolFault.{SymbolFault}
use Rattle.symbol_session.specs.Sessions.{SymbolData, data_of, maker_of}

-- where one of these nodes isn't as it is wanted, or a function holds, was made, or there was no room for it
pub record IsMissedMade (pairs : List (ℕ × SymbolLetter)) (before : Function) (old new : StageData) (made : Result Function GraphFault) : Type 0 where
  pub makes : MakesMore old.machine new.machine
  pub built : new.built ≡ old.built
  pub inside : IfOk made (IsFunctionOf new.machine.maker)
  pub holds : IfOk made (λ own. (column : ℕ) → column < columns_on old → function_holds new.machine.maker own column
      ≡ (function_holds old.machine.maker before column || not (are_met_in old pairs column)))
  pub spent : IfErr made (IsSpent new.machine.maker)

-- the assignments of a column's plain script, by the truth values that names have there
abbrev pub plain_by_table : SymbolData → List Assignment → ℕ → List (List ℕ × Value)
plain_by_table d list column =
    map (plain_under (named_in d.session.stage d.names column) d.session.core.circuit d.session.core.vectors) list

-- in a column of a session an assignment isn't met, by the truth values that names have there
abbrev pub isnt_met : HeldSession StageData → TableData → Assignment → ℕ → Bool
isnt_met session table own column =
    list_any is_unmet (unmet_lines (column_of states_in session column)
    (map (plain_under (named_in session.stage table column) session.core.circuit session.core.vectors) (own ∷ [])))

-- in each column it is known whether one of these assignments isn't met, or none was before; all else is as before
pub record NotesMissed (old : SymbolData) (list : List Assignment) (new : SymbolData) : Type 0 where
  pub missed : (column : ℕ) → column < columns_in (maker_of old) → (data_of new column).missed
      ≡ ((data_of old column).missed || list_any is_unmet (unmet_lines (data_of old column) (plain_by_table old list column)))
  pub others : (column : ℕ) → column < columns_in (maker_of old) → data_of new column ≡ record (data_of old column) { missed = (data_of new column).missed }
  pub circuit : new.session.core ≡ old.session.core

-- it is remembered, or there is nothing to be remembered
abbrev pub Remembers : Bool → SymbolData → List Assignment → SymbolData → Result Turn SymbolFault → Type 0
Remembers true old list new (Ok Accepted) = NotesMissed old list new
Remembers false old list new (Ok Accepted) = new ≡ old
Remembers missed old list new (Ok (Refused code)) = ⊥
Remembers missed old list new (Ok (TooLarge fault)) = ⊥
Remembers missed old list new (Err fault) = missed ≡ true
