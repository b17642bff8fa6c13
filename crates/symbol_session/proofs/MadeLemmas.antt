-- A session whose stage's maker made more: all else is as before; and one whose table has a name more.
use Rattle.std.proofs.Common.{◌≡◌, ℕ, ◌<◌, List, [], ◌∷◌, ◌++◌, None, Some, Result, Ok, Err, refl, sym, ap, ap₂, ◌∙◌, arith}
use Rattle.std.specs.Prelude.{IfOk, OnOk}
use Rattle.std.proofs.lemmas.List.Elements.{All-append, All-cons, All-nil}
use Rattle.ternary.specs.declared.tern.Tern.{Tern}
use Rattle.switch_paths.specs.Graphs.{nodes}
use Rattle.decision_graph.specs.declared.graph.GraphFault.{GraphFault}
use Rattle.decision_graph.specs.declared.vertex.Function.{Function}
use Rattle.formulas.specs.declared.formula.Part.{Part}
use Rattle.formula_functions.specs.Tables.{TableData, value_named, with_named}
use Rattle.formula_functions.specs.Truths.{truth_of}
use Rattle.truth_columns.specs.Columns.{values_in}
use Rattle.truth_makers.specs.Makers.{columns_in, function_holds, IsFunctionOf}
use Rattle.script_meaning.specs.declared.turn.Turn.{Turn}
use Rattle.script_meaning.specs.declared.turn.Turn.TheVariants.{Accepted, Refused, TooLarge}
use Rattle.session_meaning.specs.Sessions.{HeldSession, SessionData}
use Rattle.symbol_lines.specs.declared.commands.SymbolCommand.TheVariants as command
use Rattle.symbol_script.specs.declared.line.SymbolLine.{SymbolLine}
use Rattle.symbol_script.specs.declared.line.SymbolLine.TheVariants as asks
use Rattle.symbol_stage.specs.declared.given.Letters.{Letters}
use Rattle.symbol_stage.specs.Given.{GivesLetters, letter_given}
use Rattle.symbol_stage.specs.Stages.{StageData, columns_on}
use Rattle.truth_makers.specs.Expecting.{state_of_truth}
use Rattle.symbol_giving.specs.Letters.{OnlyMakes, named_in}
use Rattle.symbol_run.specs.declared.session.SymbolFault.{SymbolFault}
use Rattle.symbol_equiv.specs.Sharing.{KeepsFunctions}
use Rattle.symbol_session.specs.Asked.{AreSame, NamesAsked}
use Rattle.symbol_session.specs.Sessions.{IsSymbolSession, SymbolData, data_of, maker_of, truths_by}
use Rattle.symbol_session.specs.Turns.{HasNext}
use Rattle.symbol_meaning.specs.Scripts.{definition_in}
use Rattle.symbol_session.proofs.DataLemmas.{GoesOn, data_on, held_on, stays_same}
use Rattle.symbol_session.proofs.QuietLemmas.{stays_next}
use Rattle.symbol_session.proofs.DefiningLemmas.{high_is, named_next}
use Rattle.symbol_session.proofs.MovedLemmas.{beside}
use Rattle.symbol_session.proofs.StartLemmas.{keeps_more}

-- ---- the maker made more

module _ (old : SymbolData) (session : HeldSession StageData) (only : OnlyMakes old.session session) where
  pub goes_made : GoesOn old (record old { session = session })
  goes_made = record {
    keeps = keeps_more old.session.stage.machine session.stage.machine only.makes;
    names = refl;
    kept = refl;
    saves = refl;
    quiet = refl;
    text = refl;
  }

  pub held_made : IsSymbolSession old → IsSymbolSession (record old { session = session })
  held_made own =
      held_on old (record old { session = session }) own goes_made (omega (arith, ap (λ (core : SessionData). nodes core.circuit.graph) only.core))
      (own.counted ∙ sym (ap (λ (core : SessionData). core.count) only.core))

  pub same_made : IsSymbolSession old → AreSame (columns_in (maker_of old)) (data_of old) (data_of (record old { session = session }))
  same_made own column inside =
      data_on old (record old { session = session }) own goes_made column inside
      ∙ ap₂ (λ (core : SessionData) (states : List Tern). beside (record core { state = states }) (data_of old column)) only.core (only.makes.states column inside)

-- ---- the letters of a formula

pub high_inside : (stage : StageData) (made : Result Letters GraphFault) → IfOk made (GivesLetters stage) → IfOk made (λ letters. IsFunctionOf stage.machine.maker letters.hi)
high_inside stage (Ok letters) own = own.high
high_inside stage (Err fault) own = tt

pub high_truth : (old new : StageData) (table : TableData) (parts : List Part) (made : Result Letters GraphFault) →
    IfOk made (λ given. (column : ℕ) → column < columns_on old → letter_given new given column ≡ state_of_truth (truth_of (named_in old table column) parts)) →
    IfOk made (λ letters. (column : ℕ) → column < columns_on old → function_holds new.machine.maker letters.hi column ≡ truth_of (named_in old table column) parts)
high_truth old new table parts (Ok letters) letter = λ column inside.
    high_is (function_holds new.machine.maker letters.hi column) (function_holds new.machine.maker letters.lo column) (truth_of (named_in old table column) parts)
    (letter column inside)
high_truth old new table parts (Err fault) letter = tt

-- ---- a name more

pub held_named : (d : SymbolData) → IsSymbolSession d → (name : List ℕ) (function : Function) → IsFunctionOf (maker_of d) function →
    IsSymbolSession (record d { names = with_named d.names name function })
held_named d own name function inside = record {
  shape = own.shape;
  named = All-append (IsFunctionOf (maker_of d)) d.names.functions (function ∷ []) own.named
      (All-cons (IsFunctionOf (maker_of d)) function [] inside (All-nil (IsFunctionOf (maker_of d))));
  inside = own.inside;
  missed = own.missed;
  counted = own.counted;
  saved = own.saved;
}

-- it is behind the others, with the truth value of its formula in each column
pub next_named : (old mid new : SymbolData) → IsSymbolSession old → KeepsFunctions (maker_of old) (maker_of mid) → mid.names ≡ old.names → (name : List ℕ)
    (parts : List Part) (function : Function) → new ≡ record mid { names = new.names } → new.names ≡ with_named mid.names name function →
    ((column : ℕ) → column < columns_in (maker_of old) →
    function_holds (maker_of mid) function column ≡ truth_of (value_named old.names.names (truths_by old column)) parts) →
    HasNext old new (asks.Names (command.Let name parts))
next_named old mid new own keeps same name parts function others added holds = record {
  names = ap (λ (table : TableData). table.names) added ∙ ap (λ (table : TableData). table.names ++ name ∷ []) same;
  truths = λ column inside.
      ap (λ (d : SymbolData). truths_by d column) others
      ∙ ap (λ (table : TableData). values_in (function_holds (maker_of mid)) column table.functions)
      (added ∙ ap (λ (table : TableData). with_named table name function) same)
      ∙ named_next (maker_of old) (maker_of mid) keeps old.names own.named parts function column inside (holds column inside);
}

-- it was accepted
pub accepted_names : (names : List (List ℕ)) (asked : SymbolLine) (result : Result Turn SymbolFault) → IfOk result (λ turn. turn ≡ Accepted) → NamesAsked names asked result
accepted_names names asked (Ok Accepted) is = tt
accepted_names names asked (Ok (Refused code)) is = absurd (cc)
accepted_names names asked (Ok (TooLarge fault)) is = absurd (cc)
accepted_names names asked (Err fault) is = tt

-- behind a line that is accepted
pub next_added : (old mid new : SymbolData) → IsSymbolSession old → KeepsFunctions (maker_of old) (maker_of mid) → mid.names ≡ old.names → (name : List ℕ)
    (parts : List Part) (function : Function) → new ≡ record mid { names = new.names } →
    ((column : ℕ) → column < columns_in (maker_of old) →
    function_holds (maker_of mid) function column ≡ truth_of (value_named old.names.names (truths_by old column)) parts) →
    (result : Result Turn SymbolFault) → OnOk result (new.names ≡ with_named mid.names name function) → result ≡ Ok Accepted →
    HasNext old new (asks.Names (command.Let name parts))
next_added old mid new own keeps same name parts function others holds (Ok turn) added accepted = next_named old mid new own keeps same name parts function others added holds
next_added old mid new own keeps same name parts function others holds (Err fault) added accepted = absurd (cc)

-- a line without a definition leaves the table as it is
pub next_none : (d : SymbolData) (asked : SymbolLine) → definition_in (Some asked) ≡ None → HasNext d d asked
next_none d asked none = stays_next d d (stays_same d) asked none
