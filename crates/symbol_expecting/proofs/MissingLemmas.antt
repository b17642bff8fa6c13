-- Functions that hold where nodes aren't as they are wanted: of one node, of one node more, and by a stage whose maker makes more.
use Rattle.std.proofs.Common.{◌≡◌, ◌↔◌, ℕ, suc, ◌+◌, ◌<◌, ◌≤◌, ◌^◌, ◌&&◌, ◌||◌, Bool, true, false, not, List, [], ◌∷◌, length, All, take, get_or, Option, Some, None, refl, sym, ap, ap₂, subst, ◌∙◌, arith}
use Rattle.std.specs.Prelude.{IfNone, IfSome, Vec}
use Rattle.std.specs.declared.alloc.Global.{Global}
use Rattle.std.proofs.lemmas.List.Elements.{All-cons, All-get_or, All-head, All-nil, All-tail, All-weaker}
use Rattle.std.proofs.lemmas.List.Folds.{list_all-map, list_all_more}
use Rattle.ternary.specs.declared.tern.Tern.{Tern}
use Rattle.ternary.specs.declared.tern.Tern.TheVariants.{Zero, One, Unk}
use Rattle.ternary.specs.Tern.{may_one, may_zero}
use Rattle.switch_paths.specs.Graphs.{nodes}
use Rattle.switch_paths.specs.Switching.{state_at}
use Rattle.vector_values.specs.Values.{Letter}
use Rattle.decision_graph.specs.declared.vertex.Function.{Function}
use Rattle.decision_graph.specs.Meaning.{assigned, holds}
use Rattle.decision_graph.proofs.ValueLemmas.{holds-extends}
use Rattle.decision_graph.proofs.VertexLemmas.{Extends-same}
use Rattle.column_stage.specs.Truths.{KeepsGiven}
use Rattle.truth_columns.specs.Columns.{values_in}
use Rattle.truth_columns.proofs.ColumnLemmas.{length-values_in}
use Rattle.truth_makers.specs.Makers.{function_holds, IsFunctionOf}
use Rattle.truth_makers.specs.Expecting.{IsMissed, state_of_truth}
use Rattle.truth_makers.specs.Valuations.{column_of, holds_in, valuation_of, IsFirstColumn}
use Rattle.truth_makers.proofs.SymbolLemmas.{functions-kept}
use Rattle.truth_parts.specs.Columns.{states_of}
use Rattle.truth_machine.specs.Symbols.{MakesMore}
use Rattle.session_meaning.specs.Effects.{is_met}
use Rattle.session_meaning.specs.Sessions.{HeldSession, IsHeldSession}
use Rattle.symbol_stage.specs.Given.{GivesLetters, letter_given}
use Rattle.symbol_stage.specs.Stages.{StageData, ServesIn, bound_in, columns_on, states_in}
use Rattle.symbol_stage.proofs.FormulaLemmas.{makes_both}
use Rattle.symbol_stage.proofs.StayingLemmas.{given_more}
use Rattle.symbol_giving.specs.Letters.{letter_in, pairs_in, IsLetterOf, OnlyMakes}
use Rattle.symbol_giving.specs.declared.letters.SymbolLetter.{SymbolLetter}
use Rattle.symbol_giving.specs.declared.letters.SymbolLetter.TheVariants.{Any}
use Rattle.symbol_giving.proofs.LetterLemmas.{letter_stays, own_stays, pairs_stay}
use Rattle.symbol_expecting.specs.Missing.{are_met, are_met_in, column_with, AreWantedOf, IsFirstMissed, MakesOn}

-- ---- a stage whose maker makes more

-- none was made yet
pub makes_none : (stage : StageData) → MakesOn stage stage
makes_none stage = record {
  makes = record {
    shape = record { variables = refl; most = refl };
    extends = Extends-same stage.machine.maker.graph.vertices;
    rests = record { parts = refl; marks = refl; highs = refl; lows = refl };
    states = λ column inside. refl;
    fits = λ g fits. fits;
  };
  built = refl;
}

-- more was made twice
pub makes_more : (old mid new : StageData) → MakesOn old mid → MakesOn mid new → MakesOn old new
makes_more old mid new first second = record {
  makes = makes_both old.machine mid.machine new.machine first.makes second.makes;
  built = second.built ∙ first.built;
}

module _ (old new : StageData) (makes : MakesMore old.machine new.machine) where
  pub columns_more : columns_on new ≡ columns_on old
  columns_more = ap (λ (n : ℕ). 2 ^ n) makes.shape.variables

  pub count_more : length new.machine.hi ≡ length old.machine.hi
  count_more = ap (λ (list : List Function). length list) makes.rests.highs

  pub states_more : (column : ℕ) → column < columns_on old → states_in new column ≡ states_in old column
  states_more column inside = makes.states column inside

  -- a function that was there is there, and holds where it held
  pub there_more : (f : Function) → IsFunctionOf old.machine.maker f → IsFunctionOf new.machine.maker f
  there_more f inside = omega (arith, inside, makes.extends.longer)

  pub holds_more : (f : Function) (column : ℕ) → IsFunctionOf old.machine.maker f → column < columns_on old →
      function_holds new.machine.maker f column ≡ function_holds old.machine.maker f column
  holds_more f column inside below =
      let one = old.machine.maker.graph in
      let other = new.machine.maker.graph in
      (functions-kept one.variables other.variables one.vertices other.vertices makes.shape.variables makes.extends).stays f column inside below

  -- one that was made holds in a column as under its valuation before
  pub made_in : (f : Function) (column : ℕ) → function_holds new.machine.maker f column
      ≡ holds new.machine.maker.graph.vertices (valuation_of old.machine.maker.graph.variables column) f.place
  made_in f column =
      ap (λ (n : ℕ). holds new.machine.maker.graph.vertices (valuation_of n column) f.place) makes.shape.variables

  -- letters are its own still, and the same in each column
  given_stays : KeepsGiven columns_on GivesLetters letter_given bound_in old new
  given_stays = given_more old new makes

  pub letter_more : (column : ℕ) (letter : SymbolLetter) → IsLetterOf old letter → column < columns_on old →
      letter_in new column letter ≡ letter_in old column letter
  letter_more column letter is inside = letter_stays old new columns_more given_stays letter column is inside

  pub own_more : (letter : SymbolLetter) → IsLetterOf old letter → IsLetterOf new letter
  own_more letter is = own_stays old new columns_more given_stays letter is

  -- so are those that are wanted of nodes
  pub pairs_more : (pairs : List (ℕ × SymbolLetter)) → AreWantedOf old pairs → (column : ℕ) → column < columns_on old →
      pairs_in new pairs column ≡ pairs_in old pairs column
  pairs_more pairs are column inside =
      pairs_stay old new columns_more given_stays pairs column
      (All-weaker (λ (one : ℕ × SymbolLetter). (one.0 < length old.machine.hi) × IsLetterOf old one.1) (λ (one : ℕ × SymbolLetter). IsLetterOf old one.1)
      (λ one is. is.1) pairs are) inside

  pub wanted_more : (pairs : List (ℕ × SymbolLetter)) → AreWantedOf old pairs → AreWantedOf new pairs
  wanted_more pairs are =
      All-weaker (λ (one : ℕ × SymbolLetter). (one.0 < length old.machine.hi) × IsLetterOf old one.1)
      (λ (one : ℕ × SymbolLetter). (one.0 < length new.machine.hi) × IsLetterOf new one.1)
      (λ one is. (omega (arith, is.0, count_more), own_more one.1 is.1)) pairs are

  pub met_same : (pairs : List (ℕ × SymbolLetter)) → AreWantedOf old pairs → (column : ℕ) → column < columns_on old →
      are_met_in new pairs column ≡ are_met_in old pairs column
  met_same pairs are column inside = ap₂ are_met (states_more column inside) (pairs_more pairs are column inside)

-- ---- one node

-- a test that doesn't hold exactly where a state is the wanted one says that it isn't met
unmet_bit : (b : Bool) (got want : Tern) → ((b ≡ false) ↔ (got ≡ want)) → b ≡ not (is_met (Some want) got)
unmet_bit b Zero Zero test = test.1 refl
unmet_bit b One One test = test.1 refl
unmet_bit b Unk Unk test = test.1 refl
unmet_bit true Zero One test = refl
unmet_bit false Zero One test = absurd (cc (test.0 refl))
unmet_bit true Zero Unk test = refl
unmet_bit false Zero Unk test = absurd (cc (test.0 refl))
unmet_bit true One Zero test = refl
unmet_bit false One Zero test = absurd (cc (test.0 refl))
unmet_bit true One Unk test = refl
unmet_bit false One Unk test = absurd (cc (test.0 refl))
unmet_bit true Unk Zero test = refl
unmet_bit false Unk Zero test = absurd (cc (test.0 refl))
unmet_bit true Unk One test = refl
unmet_bit false Unk One test = absurd (cc (test.0 refl))

-- X is the state with both rails
unknown_bit : (got : Tern) → (not (may_one got) || not (may_zero got)) ≡ not (is_met (Some Unk) got)
unknown_bit Zero = refl
unknown_bit One = refl
unknown_bit Unk = refl

module _ (old : StageData) (node : ℕ) (hi lo : Function)
    (one : (column : ℕ) → column < columns_on old → function_holds old.machine.maker hi column ≡ may_one (state_at (states_in old column) node))
    (zero : (column : ℕ) → column < columns_on old → function_holds old.machine.maker lo column ≡ may_zero (state_at (states_in old column) node)) where
  -- what was made holds where the node hasn't the state of a function's truth value
  pub truth_missed : (new : StageData) → MakesOn old new → (function made : Function) →
      IsMissed old.machine.maker.graph.vertices new.machine.maker.graph.vertices hi.place lo.place function.place made.place → (column : ℕ) →
      column < columns_on old → function_holds new.machine.maker made column
      ≡ not (is_met (Some (state_of_truth (function_holds old.machine.maker function column))) (state_at (states_in old column) node))
  truth_missed new makes function made missed column inside =
      let vars = valuation_of old.machine.maker.graph.variables column in
      let got = state_at (states_in old column) node in
      made_in old new makes.makes made column
      ∙ unmet_bit (holds new.machine.maker.graph.vertices vars made.place) got (state_of_truth (function_holds old.machine.maker function column))
      (missed vars got (one column inside) (zero column inside))

  -- or where one of its rails isn't there
  pub unknown_missed : (first second new : StageData) → MakesOn old first → MakesOn first second → MakesOn second new → (no_one no_zero made : Function) →
      IsFunctionOf old.machine.maker lo → IsFunctionOf first.machine.maker no_one →
      ((vars : ℕ → Bool) → holds first.machine.maker.graph.vertices vars no_one.place ≡ not (holds old.machine.maker.graph.vertices vars hi.place)) →
      ((vars : ℕ → Bool) → holds second.machine.maker.graph.vertices vars no_zero.place ≡ not (holds first.machine.maker.graph.vertices vars lo.place)) →
      ((vars : ℕ → Bool) → holds new.machine.maker.graph.vertices vars made.place
      ≡ (holds second.machine.maker.graph.vertices vars no_one.place || holds second.machine.maker.graph.vertices vars no_zero.place)) →
      (column : ℕ) → column < columns_on old →
      function_holds new.machine.maker made column ≡ not (is_met (Some Unk) (state_at (states_in old column) node))
  unknown_missed first second new makes1 makes2 makes3 no_one no_zero made low there is_one is_zero is column inside =
      let vars = valuation_of old.machine.maker.graph.variables column in
      let got = state_at (states_in old column) node in
      let g = old.machine.maker.graph.vertices in
      let g1 = first.machine.maker.graph.vertices in
      let g2 = second.machine.maker.graph.vertices in
      let one_is : holds g2 vars no_one.place ≡ not (may_one got) =
      holds-extends g1 g2 vars no_one.place makes2.makes.extends there ∙ is_one vars ∙ ap not (one column inside) in
      let zero_is : holds g2 vars no_zero.place ≡ not (may_zero got) =
      is_zero vars ∙ ap not (holds-extends g g1 vars lo.place makes1.makes.extends low ∙ zero column inside) in
      made_in old new (makes_more old second new (makes_more old first second makes1 makes2) makes3).makes made column
      ∙ is vars ∙ ap₂ (λ (a b : Bool). a || b) one_is zero_is ∙ unknown_bit got

-- a constant that never holds is missed nowhere
pub never_missed : (symbols : StageData) (never : Function) (column : ℕ) (got : Tern) → function_holds symbols.machine.maker never column ≡ false →
    function_holds symbols.machine.maker never column ≡ not (is_met None got)
never_missed symbols never column got is = is

-- ---- one node more

not_both : (a b : Bool) → (not a || not b) ≡ not (a && b)
not_both true b = refl
not_both false b = refl

module _ (stage : StageData) (pairs : List (ℕ × SymbolLetter)) (column : ℕ) where
  met_more : (k : ℕ) (pair : ℕ × SymbolLetter) → k < length pairs → get_or pairs k (0, Any) ≡ pair →
      are_met_in stage (take (k + 1) pairs) column
      ≡ (are_met_in stage (take k pairs) column && is_met (letter_in stage column pair.1) (state_at (states_in stage column) pair.0))
  met_more k pair inside is =
      let test = λ (own : ℕ × Letter). is_met own.1 (state_at (states_in stage column) own.0) in
      let seen : ℕ × SymbolLetter → ℕ × Letter = λ own. (own.0, letter_in stage column own.1) in
      list_all-map test seen (take (k + 1) pairs)
      ∙ list_all_more (λ (own : ℕ × SymbolLetter). test (seen own)) pairs k (0, Any) inside
      ∙ ap₂ (λ (front own : Bool). front && own) (sym (list_all-map test seen (take k pairs))) (ap (λ (own : ℕ × SymbolLetter). test (seen own)) is)

-- the node at a place and what is wanted of it
pub wanted_at : (stage : StageData) (pairs : List (ℕ × SymbolLetter)) (k : ℕ) (pair : ℕ × SymbolLetter) → AreWantedOf stage pairs → k < length pairs →
    get_or pairs k (0, Any) ≡ pair → (pair.0 < length stage.machine.hi) × IsLetterOf stage pair.1
wanted_at stage pairs k pair are inside is =
    subst (λ (one : ℕ × SymbolLetter). (one.0 < length stage.machine.hi) × IsLetterOf stage one.1) is
    (All-get_or (λ (one : ℕ × SymbolLetter). (one.0 < length stage.machine.hi) × IsLetterOf stage one.1) pairs k (0, Any) inside are)

-- where the first nodes aren't all as they are wanted, or the next one isn't
pub missed_next : (old now mid new : StageData) → MakesOn old now → MakesOn now mid → MakesOn mid new → (pairs : List (ℕ × SymbolLetter)) (k : ℕ)
    (pair : ℕ × SymbolLetter) (made own more : Function) → AreWantedOf old pairs → k < length pairs → get_or pairs k (0, Any) ≡ pair →
    IsFunctionOf now.machine.maker made → IsFunctionOf mid.machine.maker own →
    ((column : ℕ) → column < columns_on old → function_holds now.machine.maker made column ≡ not (are_met_in old (take k pairs) column)) →
    ((column : ℕ) → column < columns_on now → function_holds mid.machine.maker own column
    ≡ not (is_met (letter_in now column pair.1) (state_at (states_in now column) pair.0))) →
    ((vars : ℕ → Bool) → holds new.machine.maker.graph.vertices vars more.place
    ≡ (holds mid.machine.maker.graph.vertices vars made.place || holds mid.machine.maker.graph.vertices vars own.place)) →
    (column : ℕ) → column < columns_on old → function_holds new.machine.maker more column ≡ not (are_met_in old (take (k + 1) pairs) column)
missed_next old now mid new first second third pairs k pair made own more are inside is there own_there made_is own_is is_more column below =
    let wanted = wanted_at old pairs k pair are inside is in
    let within : column < columns_on now = subst (λ (n : ℕ). column < n) (sym (columns_more old now first.makes)) below in
    let test = is_met (letter_in old column pair.1) (state_at (states_in old column) pair.0) in
    let own_here : function_holds mid.machine.maker own column ≡ not test =
    own_is column within
    ∙ ap₂ (λ (letter : Letter) (states : List Tern). not (is_met letter (state_at states pair.0))) (letter_more old now first.makes column pair.1 wanted.1 below)
    (states_more old now first.makes column below) in
    let made_here : function_holds mid.machine.maker made column ≡ not (are_met_in old (take k pairs) column) =
    holds_more now mid second.makes made column there within ∙ made_is column below in
    made_in mid new third.makes more column ∙ is_more (valuation_of mid.machine.maker.graph.variables column)
    ∙ ap₂ (λ (a b : Bool). a || b) made_here own_here ∙ not_both (are_met_in old (take k pairs) column) test
    ∙ ap not (sym (met_more old pairs column k pair inside is))

-- ---- what was found

not_true : (b : Bool) → true ≡ not b → b ≡ false
not_true true is = absurd (cc is)
not_true false is = refl

not_false : (b : Bool) → false ≡ not b → b ≡ true
not_false true is = refl
not_false false is = absurd (cc is)

module _ (old new : StageData) (makes : MakesOn old new) (pairs : List (ℕ × SymbolLetter)) (are : AreWantedOf old pairs) (made : Function)
    (value : (column : ℕ) → column < columns_on old → function_holds new.machine.maker made column ≡ not (are_met_in old pairs column)) where
  met_where : (column : ℕ) → column < columns_on new → function_holds new.machine.maker made column ≡ false → are_met_in new pairs column ≡ true
  met_where column inside never =
      let within : column < columns_on old = subst (λ (n : ℕ). column < n) (columns_more old new makes.makes) inside in
      met_same old new makes.makes pairs are column within ∙ not_false (are_met_in old pairs column) (sym never ∙ value column within)

  missed_where : (column : ℕ) → column < columns_on new → function_holds new.machine.maker made column ≡ true → are_met_in new pairs column ≡ false
  missed_where column inside held =
      let within : column < columns_on old = subst (λ (n : ℕ). column < n) (columns_more old new makes.makes) inside in
      met_same old new makes.makes pairs are column within ∙ not_true (are_met_in old pairs column) (sym held ∙ value column within)

  pub found_missed : (found : Option (Vec Bool Global)) → IfSome found (λ vars. length vars.items ≡ new.machine.maker.graph.variables) →
      IfSome found (λ vars. IsFirstColumn new.machine.maker.graph.variables new.machine.maker.graph.vertices made.place
      (column_of (assigned vars.items) new.machine.maker.graph.variables)) →
      IfNone found ((column : ℕ) → holds_in new.machine.maker.graph.variables new.machine.maker.graph.vertices column made.place ≡ false) →
      IsFirstMissed new pairs found
  found_missed None count first never = λ column inside. met_where column inside (never column)
  found_missed (Some vars) count first never = record {
    count = count;
    inside = first.inside;
    missed = missed_where (column_with new.machine.maker vars.items) first.inside first.held;
    met_before = λ other before.
        let inside : other < columns_on new = omega (arith, before, first.inside) in
        met_where other inside (first.earlier other before);
  }

-- ---- the nodes of a session

-- there are no more states than rails
states_few : (ones zeros : List Bool) → length (states_of ones zeros) ≤ length ones
states_few [] zeros = let none : length (states_of [] zeros) ≡ 0 = refl in omega (arith, none)
states_few (x ∷ ones) [] = let none : length (states_of (x ∷ ones) []) ≡ 0 = refl in omega (arith, none)
states_few (x ∷ ones) (y ∷ zeros) =
    let more : length (states_of (x ∷ ones) (y ∷ zeros)) ≡ suc (length (states_of ones zeros)) = refl in omega (arith, more, states_few ones zeros)

-- each node of its circuit has rails
pub nodes_counted : (old new : HeldSession StageData) → OnlyMakes old new → IsHeldSession columns_on states_in ServesIn old →
    nodes old.core.circuit.graph ≤ length new.stage.machine.hi
nodes_counted old new only held =
    let m = old.stage.machine in
    let ones = values_in (function_holds m.maker) 0 m.hi in
    let zeros = values_in (function_holds m.maker) 0 m.lo in
    let counted : length (states_of ones zeros) ≡ nodes old.core.circuit.graph = (held.sound 0 (omega (arith, held.some))).counted in
    let few : length (states_of ones zeros) ≤ length ones = states_few ones zeros in
    let long : length ones ≡ length m.hi = length-values_in (function_holds m.maker) 0 m.hi in
    let same : length new.stage.machine.hi ≡ length m.hi = count_more old.stage new.stage only.makes in
    omega (arith, counted, few, long, same)

-- nodes among so many and letters side by side
pub wanted_both : (stage : StageData) (count : ℕ) (pairs : List (ℕ × SymbolLetter)) → count ≤ length stage.machine.hi → All (λ pair. pair.0 < count) pairs →
    All (λ pair. IsLetterOf stage pair.1) pairs → AreWantedOf stage pairs
wanted_both stage count [] few inside own = All-nil (λ (pair : ℕ × SymbolLetter). (pair.0 < length stage.machine.hi) × IsLetterOf stage pair.1)
wanted_both stage count (pair ∷ pairs) few inside own =
    let here = All-head (λ (one : ℕ × SymbolLetter). one.0 < count) pair pairs inside in
    All-cons (λ (one : ℕ × SymbolLetter). (one.0 < length stage.machine.hi) × IsLetterOf stage one.1) pair pairs
    (omega (arith, here, few), All-head (λ (one : ℕ × SymbolLetter). IsLetterOf stage one.1) pair pairs own)
    (wanted_both stage count pairs few (All-tail (λ (one : ℕ × SymbolLetter). one.0 < count) pair pairs inside)
    (All-tail (λ (one : ℕ × SymbolLetter). IsLetterOf stage one.1) pair pairs own))
