-- Letters of a stage stay what they are while its maker makes more functions, and so do the truth values of names.
use Rattle.std.proofs.Common.{◌≡◌, ℕ, ◌<◌, ◌^◌, Bool, true, false, List, [], ◌∷◌, map, All, Some, None, refl, sym, ap, ap₂, subst, ◌∙◌}
use Rattle.std.specs.Prelude.{zip}
use Rattle.std.proofs.lemmas.List.Elements.{All-cons, All-head, All-nil, All-tail, All-weaker}
use Rattle.ternary.specs.declared.tern.Tern.{Tern}
use Rattle.ternary.specs.Tern.{may_one}
use Rattle.column_stage.specs.Truths.{KeepsGiven}
use Rattle.vector_values.specs.Values.{Letter}
use Rattle.decision_graph.proofs.VertexLemmas.{Extends-same}
use Rattle.formula_functions.specs.Tables.{TableData, value_named}
use Rattle.formula_functions.proofs.TableLemmas.{AreInside-extends}
use Rattle.truth_columns.proofs.ColumnLemmas.{values_in-kept}
use Rattle.truth_makers.specs.Expecting.{state_of_truth}
use Rattle.truth_makers.specs.Makers.{columns_in, function_holds, IsFunctionOf}
use Rattle.truth_makers.proofs.SymbolLemmas.{functions-kept}
use Rattle.truth_parts.proofs.ColumnLemmas.{rails_of-state_with}
use Rattle.truth_machine.specs.Symbols.{MakesMore}
use Rattle.symbol_stage.specs.declared.given.Letters.{Letters}
use Rattle.symbol_stage.specs.Given.{GivesLetters, letter_given}
use Rattle.symbol_stage.specs.Stages.{StageData, bound_in, columns_on}
use Rattle.symbol_stage.proofs.FormulaLemmas.{makes_both}
use Rattle.symbol_stage.proofs.StayingLemmas.{given_more}
use Rattle.session_meaning.specs.Sessions.{HeldSession}
use Rattle.session_meaning.specs.Truths.{letters_in_column}
use Rattle.symbol_giving.specs.declared.letters.SymbolLetter.{SymbolLetter}
use Rattle.symbol_giving.specs.declared.letters.SymbolLetter.TheVariants.{Any, Same, Truth}
use Rattle.symbol_giving.specs.Letters.{IsLetterOf, IsTableOf, IsTruthLetter, OnlyMakes, letter_in, named_in, pairs_in, same_letter, same_pair}

-- ---- the letter of a truth value

truth-rail : (value : Bool) → may_one (state_of_truth value) ≡ value
truth-rail true = refl
truth-rail false = refl

-- the first of a letter's functions holds where the letter may be 1
high_is : (stage : StageData) (given : Letters) (column : ℕ) → GivesLetters stage given → column < columns_on stage →
    function_holds stage.machine.maker given.hi column ≡ may_one (letter_given stage given column)
high_is stage given column own inside =
    (rails_of-state_with (function_holds stage.machine.maker given.hi column) (function_holds stage.machine.maker given.lo column) (own.some column inside)).0

-- functions that are the letters of truth values are so by the first of them
pub truth_made : (stage : StageData) (given : Letters) (truth : ℕ → Bool) → GivesLetters stage given →
    ((column : ℕ) → column < columns_on stage → letter_given stage given column ≡ state_of_truth (truth column)) → IsTruthLetter stage given
truth_made stage given truth own is = record {
  own = own;
  truth = λ column inside.
      let held : function_holds stage.machine.maker given.hi column ≡ truth column =
      high_is stage given column own inside ∙ ap may_one (is column inside) ∙ truth-rail (truth column) in
      is column inside ∙ ap state_of_truth (sym held);
}

-- ---- letters stay

module _ (old new : StageData) (columns : columns_on new ≡ columns_on old) (keeps : KeepsGiven columns_on GivesLetters letter_given bound_in old new) where
  pub truth_stays : (given : Letters) → IsTruthLetter old given → IsTruthLetter new given
  truth_stays given is =
      truth_made new given (λ column. function_holds old.machine.maker given.hi column) (keeps.own given is.own)
      (λ column inside.
      let within : column < columns_on old = subst (λ (n : ℕ). column < n) columns inside in
      keeps.same given column is.own within ∙ is.truth column within)

  pub own_stays : (letter : SymbolLetter) → IsLetterOf old letter → IsLetterOf new letter
  own_stays Any is = tt
  own_stays (Same state) is = tt
  own_stays (Truth given) is = truth_stays given is

  pub letter_stays : (letter : SymbolLetter) (column : ℕ) → IsLetterOf old letter → column < columns_on old → letter_in new column letter ≡ letter_in old column letter
  letter_stays Any column is inside = refl
  letter_stays (Same state) column is inside = refl
  letter_stays (Truth given) column is inside = ap (λ (state : Tern). Some state) (keeps.same given column is.own inside)

  -- those of a list
  pub letters_own : (letters : List SymbolLetter) → All (IsLetterOf old) letters → All (IsLetterOf new) letters
  letters_own letters are = All-weaker (IsLetterOf old) (IsLetterOf new) own_stays letters are

  pub letters_stay : (letters : List SymbolLetter) (column : ℕ) → All (IsLetterOf old) letters → column < columns_on old →
      map (letter_in new column) letters ≡ map (letter_in old column) letters
  letters_stay [] column are inside = refl
  letters_stay (letter ∷ letters) column are inside =
      ap₂ (λ (own : Letter) (others : List Letter). own ∷ others) (letter_stays letter column (All-head (IsLetterOf old) letter letters are) inside)
      (letters_stay letters column (All-tail (IsLetterOf old) letter letters are) inside)

  -- and of nodes
  pub pairs_own : (pairs : List (ℕ × SymbolLetter)) → All (λ pair. IsLetterOf old pair.1) pairs → All (λ pair. IsLetterOf new pair.1) pairs
  pairs_own pairs are =
      All-weaker (λ (pair : ℕ × SymbolLetter). IsLetterOf old pair.1) (λ (pair : ℕ × SymbolLetter). IsLetterOf new pair.1) (λ pair. own_stays pair.1) pairs are

  pub pairs_stay : (pairs : List (ℕ × SymbolLetter)) (column : ℕ) → All (λ pair. IsLetterOf old pair.1) pairs → column < columns_on old →
      pairs_in new pairs column ≡ pairs_in old pairs column
  pairs_stay [] column are inside = refl
  pairs_stay (pair ∷ pairs) column are inside =
      ap₂ (λ (own : Letter) (others : List (ℕ × Letter)). (pair.0, own) ∷ others)
      (letter_stays pair.1 column (All-head (λ (one : ℕ × SymbolLetter). IsLetterOf old one.1) pair pairs are) inside)
      (pairs_stay pairs column (All-tail (λ (one : ℕ × SymbolLetter). IsLetterOf old one.1) pair pairs are) inside)

  -- so does what nodes are given
  pub given_own : (given : List (ℕ × Letters)) → All (λ pair. GivesLetters old pair.1) given → All (λ pair. GivesLetters new pair.1) given
  given_own given are =
      All-weaker (λ (pair : ℕ × Letters). GivesLetters old pair.1) (λ (pair : ℕ × Letters). GivesLetters new pair.1) (λ pair. keeps.own pair.1) given are

  pub given_stay : (given : List (ℕ × Letters)) (column : ℕ) → All (λ pair. GivesLetters old pair.1) given → column < columns_on old →
      letters_in_column letter_given new given column ≡ letters_in_column letter_given old given column
  given_stay [] column are inside = refl
  given_stay (pair ∷ given) column are inside =
      ap₂ (λ (own : Tern) (others : List (ℕ × Tern)). (pair.0, own) ∷ others)
      (keeps.same pair.1 column (All-head (λ (one : ℕ × Letters). GivesLetters old one.1) pair given are) inside)
      (given_stay given column (All-tail (λ (one : ℕ × Letters). GivesLetters old one.1) pair given are) inside)

-- ---- more was made

pub columns_more : (old new : StageData) → MakesMore old.machine new.machine → columns_on new ≡ columns_on old
columns_more old new makes = ap (λ (n : ℕ). 2 ^ n) makes.shape.variables

-- the functions of a table are the stage's own still
pub table_more : (old new : StageData) (table : TableData) → MakesMore old.machine new.machine → IsTableOf old table → IsTableOf new table
table_more old new table makes is =
    AreInside-extends old.machine.maker.graph.vertices new.machine.maker.graph.vertices table.functions makes.extends is

-- and its names have the truth values that they had
pub named_more : (old new : StageData) (table : TableData) → MakesMore old.machine new.machine → IsTableOf old table → (column : ℕ) → column < columns_on old →
    named_in new table column ≡ named_in old table column
named_more old new table makes is column inside =
    let was = old.machine.maker in
    let now = new.machine.maker in
    ap (λ (truths : List Bool). value_named table.names truths)
    (values_in-kept (columns_in was) (columns_in now) (IsFunctionOf was) (IsFunctionOf now) (function_holds was) (function_holds now) column table.functions
    (functions-kept was.graph.variables now.graph.variables was.graph.vertices now.graph.vertices makes.shape.variables makes.extends) is inside)

-- nothing was made
pub only_none : (session : HeldSession StageData) → OnlyMakes session session
only_none session = record {
  core = refl;
  makes = record {
    shape = record { variables = refl; most = refl };
    extends = Extends-same session.stage.machine.maker.graph.vertices;
    rests = record { parts = refl; marks = refl; highs = refl; lows = refl };
    states = λ column inside. refl;
    fits = λ g fits. fits;
  };
}

-- and more behind what was
pub only_both : (old mid new : HeldSession StageData) → OnlyMakes old mid → OnlyMakes mid new → OnlyMakes old new
only_both old mid new first later = record {
  core = later.core ∙ first.core;
  makes = makes_both old.stage.machine mid.stage.machine new.stage.machine first.makes later.makes;
}

-- so all letters stay
pub only_keeps : (old new : HeldSession StageData) → OnlyMakes old new → KeepsGiven columns_on GivesLetters letter_given bound_in old.stage new.stage
only_keeps old new only = given_more old.stage new.stage only.makes

pub only_columns : (old new : HeldSession StageData) → OnlyMakes old new → columns_on new.stage ≡ columns_on old.stage
only_columns old new only = columns_more old.stage new.stage only.makes

-- ---- letters that are the same under all valuations

pub same_letter_is : (stage : StageData) (column : ℕ) (letter : Letter) → letter_in stage column (same_letter letter) ≡ letter
same_letter_is stage column None = refl
same_letter_is stage column (Some state) = refl

pub same_letter_own : (stage : StageData) (letter : Letter) → IsLetterOf stage (same_letter letter)
same_letter_own stage None = tt
same_letter_own stage (Some state) = tt

pub same_pairs : (stage : StageData) (column : ℕ) (pairs : List (ℕ × Letter)) → pairs_in stage (map same_pair pairs) column ≡ pairs
same_pairs stage column [] = refl
same_pairs stage column ((node, letter) ∷ pairs) =
    ap₂ (λ (own : Letter) (others : List (ℕ × Letter)). (node, own) ∷ others) (same_letter_is stage column letter) (same_pairs stage column pairs)

pub same_pairs_own : (stage : StageData) (pairs : List (ℕ × Letter)) → All (λ pair. IsLetterOf stage pair.1) (map same_pair pairs)
same_pairs_own stage [] = All-nil (λ (pair : ℕ × SymbolLetter). IsLetterOf stage pair.1)
same_pairs_own stage ((node, letter) ∷ pairs) =
    All-cons (λ (pair : ℕ × SymbolLetter). IsLetterOf stage pair.1) (same_pair (node, letter)) (map same_pair pairs) (same_letter_own stage letter) (same_pairs_own stage pairs)

-- ---- nodes side by side with letters

pub zipped_in : (stage : StageData) (column : ℕ) (nodes : List ℕ) (letters : List SymbolLetter) →
    pairs_in stage (zip nodes letters) column ≡ zip nodes (map (letter_in stage column) letters)
zipped_in stage column [] letters = refl
zipped_in stage column (node ∷ nodes) [] = refl
zipped_in stage column (node ∷ nodes) (letter ∷ letters) =
    ap (λ (others : List (ℕ × Letter)). (node, letter_in stage column letter) ∷ others) (zipped_in stage column nodes letters)

pub zipped_own : (stage : StageData) (nodes : List ℕ) (letters : List SymbolLetter) → All (IsLetterOf stage) letters →
    All (λ pair. IsLetterOf stage pair.1) (zip nodes letters)
zipped_own stage [] letters are = All-nil (λ (pair : ℕ × SymbolLetter). IsLetterOf stage pair.1)
zipped_own stage (node ∷ nodes) [] are = All-nil (λ (pair : ℕ × SymbolLetter). IsLetterOf stage pair.1)
zipped_own stage (node ∷ nodes) (letter ∷ letters) are =
    All-cons (λ (pair : ℕ × SymbolLetter). IsLetterOf stage pair.1) (node, letter) (zip nodes letters) (All-head (IsLetterOf stage) letter letters are)
    (zipped_own stage nodes letters (All-tail (IsLetterOf stage) letter letters are))
