-- Functions that stand under names while the stage moves: what keeps the letters that nodes can be given keeps all functions.
use Rattle.std.proofs.Common.{◌≡◌, ℕ, ◌<◌, ◌||◌, Bool, true, false, List, All, refl, sym, ap, subst, ◌∙◌}
use Rattle.ternary.specs.Tern.{may_one}
use Rattle.column_stage.specs.Truths.{KeepsGiven}
use Rattle.decision_graph.specs.declared.vertex.Function.{Function}
use Rattle.formula_functions.specs.Tables.{TableData, named_under, value_named}
use Rattle.truth_columns.proofs.ColumnLemmas.{values_in-kept}
use Rattle.truth_makers.specs.Makers.{columns_in, function_holds, IsFunctionOf}
use Rattle.truth_makers.specs.Valuations.{valuation_of}
use Rattle.truth_parts.proofs.ColumnLemmas.{rails_of-state_with}
use Rattle.symbol_stage.specs.Given.{GivesLetters, letter_given}
use Rattle.symbol_stage.specs.Stages.{StageData, KeepsFunctions, bound_in, columns_on}
use Rattle.symbol_stage.specs.declared.given.Letters.{Letters}

-- two rails, one of which is there
or_true : (bit : Bool) → (bit || true) ≡ true
or_true true = refl
or_true false = refl

-- a function as a letter, over one that holds in each column
abbrev letter_over : Function → Function → Letters
letter_over always f = record { hi = f; lo = always }

module _ (old new : StageData) (columns : columns_on new ≡ columns_on old) (keeps : KeepsGiven columns_on GivesLetters letter_given bound_in old new) (always : Function)
    (there : IsFunctionOf old.machine.maker always)
    (holding : (column : ℕ) → column < columns_on old → function_holds old.machine.maker always column ≡ true) where
  as_letter : (f : Function) → IsFunctionOf old.machine.maker f → GivesLetters old (letter_over always f)
  as_letter f inside = record {
    high = inside;
    low = there;
    some = λ column within.
        ap (λ (low : Bool). function_holds old.machine.maker f column || low) (holding column within) ∙ or_true (function_holds old.machine.maker f column);
  }

  holds_still : (f : Function) (column : ℕ) → IsFunctionOf old.machine.maker f → column < columns_on old →
      function_holds new.machine.maker f column ≡ function_holds old.machine.maker f column
  holds_still f column inside within =
      let was = as_letter f inside in
      let is = keeps.own (letter_over always f) was in
      let now : column < columns_on new = subst (λ (n : ℕ). column < n) (sym columns) within in
      let before = rails_of-state_with (function_holds old.machine.maker f column) (function_holds old.machine.maker always column) (was.some column within) in
      let behind = rails_of-state_with (function_holds new.machine.maker f column) (function_holds new.machine.maker always column) (is.some column now) in
      behind.0 ∙ ap may_one (keeps.same (letter_over always f) column was within) ∙ sym before.0

  -- so all functions are kept
  pub functions_given : KeepsFunctions old new
  functions_given = record {
    count = columns;
    there = λ f inside. (keeps.own (letter_over always f) (as_letter f inside)).high;
    stays = holds_still;
  }

-- where functions are kept, a name has under the valuation of each column the truth value that it had
pub named_kept : (old new : StageData) (names : TableData) → KeepsFunctions old new → All (IsFunctionOf old.machine.maker) names.functions → (column : ℕ) →
    column < columns_on old → (name : List ℕ) →
    named_under new.machine.maker.graph.vertices (valuation_of new.machine.maker.graph.variables column) names name
    ≡ named_under old.machine.maker.graph.vertices (valuation_of old.machine.maker.graph.variables column) names name
named_kept old new names keeps inside column within name =
    let was = old.machine.maker in
    let is = new.machine.maker in
    ap (λ (truths : List Bool). value_named names.names truths name)
    (values_in-kept (columns_in was) (columns_in is) (IsFunctionOf was) (IsFunctionOf is) (function_holds was) (function_holds is) column names.functions
    keeps inside within)
