-- The state that a node has in all columns: there is one exactly if no two columns differ in it, so it is the one that a maker of functions finds for
-- the node's rails.
use Rattle.std.proofs.Common.{◌≡◌, ◌≢◌, ℕ, zero, suc, ◌+◌, ◌<◌, ◌≤◌, ◌&&◌, ◌⊎◌, inl, inr, Bool, true, false, List, Option, Some, None, if◌then◌else◌, refl, sym, ap, subst, ◌∙◌, arith}
use Rattle.std.specs.Prelude.{IfSome, IfNone}
use Rattle.std.specs.List.{list_all, range_with_len}
use Rattle.std.proofs.lemmas.Bool.{cases_lt}
use Rattle.std.proofs.lemmas.Nat.{pow_pos}
use Rattle.ternary.specs.declared.tern.Tern.{Tern}
use Rattle.ternary.specs.declared.tern.Tern.TheVariants.{Zero, One, Unk}
use Rattle.ternary.specs.Tern.{may_one, may_zero}
use Rattle.switch_paths.specs.Switching.{state_at}
use Rattle.told_lines.specs.Sums.{is_state}
use Rattle.decision_graph.specs.declared.vertex.Function.{Function}
use Rattle.decision_graph.specs.Vertices.{IsReduced}
use Rattle.truth_makers.specs.declared.symbols.Symbols.{Symbols}
use Rattle.truth_makers.specs.Expecting.{IsStateOfAll}
use Rattle.truth_makers.specs.Makers.{function_holds, IsFunctionOf}
use Rattle.truth_makers.proofs.LetterLemmas.{other_column}
use Rattle.symbol_stage.specs.Stages.{StageData, columns_on, states_in}
use Rattle.symbol_meaning.specs.Merging.{IsOfAll}
use Rattle.symbol_meaning.proofs.LetterLemmas.{letter_of_rails}
use Rattle.symbol_looking.specs.Letters.{letter_in_all, letter_on}

-- ---- states

-- a state is itself, and no other one
state_itself : (state : Tern) → is_state state state ≡ true
state_itself Zero = refl
state_itself One = refl
state_itself Unk = refl

state_other : (state other : Tern) → state ≢ other → is_state state other ≡ false
state_other Zero Zero differ = absurd (differ refl)
state_other Zero One differ = refl
state_other Zero Unk differ = refl
state_other One Zero differ = refl
state_other One One differ = absurd (differ refl)
state_other One Unk differ = refl
state_other Unk Zero differ = refl
state_other Unk One differ = refl
state_other Unk Unk differ = absurd (differ refl)

-- ---- numbers

-- a test is met by each of so many numbers
all_met : (test : ℕ → Bool) (first count : ℕ) → ((k : ℕ) → first ≤ k → k < first + count → test k ≡ true) → list_all test (range_with_len first count) ≡ true
all_met test first zero met = refl
all_met test first (suc count) met =
    rw (met first (omega arith) (omega arith))
    (all_met test (first + 1) count (λ k from before. met k (omega (arith, from)) (omega (arith, before))))

and_false : (one other : Bool) → other ≡ false → (one && other) ≡ false
and_false true other is = is
and_false false other is = refl

-- or one of them doesn't meet it
one_unmet : (test : ℕ → Bool) (first count k : ℕ) → first ≤ k → k < first + count → test k ≡ false → list_all test (range_with_len first count) ≡ false
one_unmet test first zero k from before unmet = absurd (omega (arith, from, before))
one_unmet test first (suc count) k from before unmet =
    by (cases_lt first k) (λ after. one_unmet test (first + 1) count k after (omega (arith, before)) unmet)
  where
    by : (first < k) ⊎ (k ≤ first) → (first + 1 ≤ k → list_all test (range_with_len (first + 1) count) ≡ false) →
        (test first && list_all test (range_with_len (first + 1) count)) ≡ false
    by (inl later) rest = and_false (test first) (list_all test (range_with_len (first + 1) count)) (rest (omega (arith, later)))
    by (inr here) rest = let same : first ≡ k = omega (arith, here, from) in rw (ap test same ∙ unmet) refl

-- ---- the state of all columns

module _ (columns : ℕ) (states : ℕ → List Tern) (node : ℕ) where
  abbrev value : ℕ → Tern
  value column = state_at (states column) node

  abbrev test : ℕ → Bool
  test column = is_state (state_at (states column) node) (state_at (states 0) node)

  -- it is that of the first column, if the others have that too
  found_alike : ((column : ℕ) → column < columns → value column ≡ value 0) → letter_in_all columns states node ≡ Some (value 0)
  unfolding letter_in_all
  found_alike same =
      let met : list_all test (range_with_len 0 columns) ≡ true =
      all_met test 0 columns
      (λ column from before. ap (λ (state : Tern). is_state state (value 0)) (same column (omega (arith, before))) ∙ state_itself (value 0)) in
      ap (λ (all : Bool). if all then Some (value 0) else None) met

  -- and else there is none
  found_none : (column : ℕ) → column < columns → value column ≢ value 0 → letter_in_all columns states node ≡ None
  unfolding letter_in_all
  found_none column inside differ =
      let unmet : list_all test (range_with_len 0 columns) ≡ false =
      one_unmet test 0 columns column (omega arith) (omega (arith, inside)) (state_other (value column) (value 0) differ) in
      ap (λ (all : Bool). if all then Some (value 0) else None) unmet

  -- so it is what all columns have
  pub is_of_all : 0 < columns → IsOfAll columns (λ column. state_at (states column) node) (letter_in_all columns states node)
  is_of_all some = by (other_column value (value 0) columns)
    where
      by : ((column : ℕ) → column < columns → value column ≡ value 0) ⊎ ((column : ℕ) × (column < columns) × (value column ≢ value 0)) →
          IsOfAll columns (λ column. state_at (states column) node) (letter_in_all columns states node)
      by (inl same) = subst (IsOfAll columns value) (sym (found_alike same)) same
      by (inr (column, inside, differ)) = subst (IsOfAll columns value) (sym (found_none column inside differ)) (column, 0, inside, some, differ)

-- what all columns have is one thing
one_of_all : (columns : ℕ) → 0 < columns → (values : ℕ → Tern) (own other : Option Tern) → IsOfAll columns values own → IsOfAll columns values other → own ≡ other
one_of_all columns some values (Some a) (Some b) is also = ap Some (sym (is 0 some) ∙ also 0 some)
one_of_all columns some values (Some a) None is (one, other, below, under, differ) = absurd (differ (is one below ∙ sym (is other under)))
one_of_all columns some values None (Some b) (one, other, below, under, differ) also = absurd (differ (also one below ∙ sym (also other under)))
one_of_all columns some values None None is also = refl

-- ---- rails

-- what a maker says of the states that a node with these rails has
abbrev FindsState : Symbols → Function → Function → Option Tern → Type 0
FindsState symbols high low found =
    IsReduced symbols.graph.variables symbols.graph.vertices × IfSome found (IsStateOfAll symbols.graph.vertices high.place low.place)
    × IfNone found ((state : Tern) → IsStateOfAll symbols.graph.vertices high.place low.place state → ⊥)

-- the state that a stage's maker finds is that of all columns
pub letter_found : (stage : StageData) (node : ℕ) (symbols : Symbols) (high low : Function) (found : Option Tern) → symbols ≡ stage.machine.maker →
    IsFunctionOf stage.machine.maker high → IsFunctionOf stage.machine.maker low →
    ((column : ℕ) → column < columns_on stage → function_holds stage.machine.maker high column ≡ may_one (state_at (states_in stage column) node)) →
    ((column : ℕ) → column < columns_on stage → function_holds stage.machine.maker low column ≡ may_zero (state_at (states_in stage column) node)) →
    FindsState symbols high low found → found ≡ letter_on stage node
letter_found stage node symbols high low found same high_has low_has ones zeros finds =
    let maker = stage.machine.maker in
    let own : FindsState maker high low found = subst (λ (s : Symbols). FindsState s high low found) same finds in
    let values = λ (column : ℕ). state_at (states_in stage column) node in
    one_of_all (columns_on stage) (pow_pos maker.graph.variables) values found (letter_on stage node)
    (letter_of_rails maker.graph.variables maker.graph.vertices high.place low.place values ones zeros own.0 high_has low_has found own.1 own.2)
    (is_of_all (columns_on stage) (states_in stage) node (pow_pos maker.graph.variables))
