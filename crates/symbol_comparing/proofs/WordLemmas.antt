-- A word in two runs: what was found of its letters is what is told of it, and something is told of each.
use Rattle.std.proofs.Common.{◌≡◌, ◌≢◌, ◌↔◌, ℕ, zero, suc, ◌-◌, ◌<◌, ◌⊎◌, inl, inr, Bool, false, List, [], ◌∷◌, length, Option, None, Some, Vec, refl, sym, ap, ap₂, subst, ◌∙◌, arith, true≢false}
use Rattle.std.specs.Prelude.{IfNone, IfSome}
use Rattle.std.specs.declared.alloc.Global.{Global}
use Rattle.std.proofs.lemmas.Bool.{cases_lt}
use Rattle.std.proofs.lemmas.Nat.{pow_pos}
use Rattle.ternary.specs.declared.tern.Tern.{Tern}
use Rattle.decision_graph.specs.declared.vertex.Vertex.{Vertex}
use Rattle.decision_graph.specs.Meaning.{assigned, holds}
use Rattle.truth_makers.specs.declared.symbols.Symbols.{Symbols}
use Rattle.truth_makers.specs.Makers.{columns_in}
use Rattle.truth_makers.specs.Valuations.{column_of, holds_in, number_of, valuation_of, IsFirstColumn}
use Rattle.ternary.proofs.TernLemmas.{same_or_other}
use Rattle.truth_parts.proofs.ColumnLemmas.{length-states}
use Rattle.truth_makers.specs.Makers as maker
use Rattle.symbol_meaning.specs.Readings.{Valuations}
use Rattle.symbol_meaning.specs.Comparing.{Difference, IsComparedWord}
use Rattle.symbol_comparing.specs.Rails.{RailLists, letters_in, AreRailsOf, HoldAlike}
use Rattle.symbol_comparing.specs.Told.{AreValuationsOf}
use Rattle.symbol_comparing.specs.Words.{column_with, DifferFirst, IsFirstDifference}
use Rattle.symbol_told.proofs.ValuationLemmas.{truths_of_column}
use Rattle.symbol_comparing.proofs.StateLemmas.{alike_letters, letters_alike}

-- ---- what was found

-- a function that doesn't hold exactly where rails hold alike
abbrev pub Tests : Symbols → RailLists → RailLists → List Vertex → ℕ → Type 0
Tests symbols one other vertices made =
    (vars : ℕ → Bool) → (holds vertices vars made ≡ false) ↔ HoldAlike symbols.graph.vertices vars (length one.highs) one other

-- the valuation under which all variables are false is that of the first column
number-unset : (n : ℕ) (bits : ℕ → Bool) → ((i : ℕ) → bits i ≡ false) → number_of bits n ≡ 0
unfolding number_of
number-unset zero bits unset = refl
number-unset (suc n) bits unset =
    let rest : number_of (λ v. bits (suc v)) n ≡ 0 = number-unset n (λ v. bits (suc v)) (λ i. unset (suc i)) in
    rw (unset 0, rest) refl

module _ (symbols : Symbols) (one other : RailLists) (first : AreRailsOf symbols one) (second : AreRailsOf symbols other) where
  module _ (even : length other.highs ≡ length one.highs) (vertices : List Vertex) (made : ℕ) (tests : Tests symbols one other vertices made) where
    -- where it doesn't hold the letters are the same
    same_where : (column : ℕ) → holds_in symbols.graph.variables vertices column made ≡ false → letters_in symbols one column ≡ letters_in symbols other column
    same_where column unheld =
        letters_alike symbols one other first second even column ((tests (valuation_of symbols.graph.variables column)).0 unheld)

    -- if it holds nowhere they are the same in all columns
    pub found_none : ((column : ℕ) → holds_in symbols.graph.variables vertices column made ≡ false) → IsFirstDifference symbols one other None
    found_none never = λ column inside. same_where column (never column)

    -- and else they differ first in the first column in which it holds
    pub found_some : (vars : Vec Bool Global) → length vars.items ≡ symbols.graph.variables →
        IsFirstColumn symbols.graph.variables vertices made (column_with symbols vars.items) → IsFirstDifference symbols one other (Some vars)
    found_some vars count is = record {
      count = count;
      inside = is.inside;
      differ = λ same.
          let unheld = (tests (valuation_of symbols.graph.variables (column_with symbols vars.items))).1
          (alike_letters symbols one other first second even (column_with symbols vars.items) is.inside same) in
          true≢false (sym is.held ∙ unheld);
      same_before = λ earlier before. same_where earlier (is.earlier earlier before);
    }

    -- what was found of it, by a maker of as many variables
    pub found_by : (variables : ℕ) → variables ≡ symbols.graph.variables → (found : Option (Vec Bool Global)) →
        IfSome found (λ vars. length vars.items ≡ variables) →
        IfSome found (λ vars. IsFirstColumn variables vertices made (column_of (assigned vars.items) variables)) →
        IfNone found ((column : ℕ) → holds_in variables vertices column made ≡ false) → IsFirstDifference symbols one other found
    found_by variables same None count is never =
        found_none (subst (λ (n : ℕ). (column : ℕ) → holds_in n vertices column made ≡ false) same never)
    found_by variables same (Some vars) count is never =
        found_some vars (count ∙ same) (subst (λ (n : ℕ). IsFirstColumn n vertices made (column_of (assigned vars.items) n)) same is)

  -- where the numbers of nodes differ, so do the letters in the first column
  pub found_uneven : (length one.highs ≢ length other.highs) → (vars : Vec Bool Global) → length vars.items ≡ symbols.graph.variables →
      ((v : ℕ) → assigned vars.items v ≡ false) → IsFirstDifference symbols one other (Some vars)
  found_uneven uneven vars count unset =
      let column = column_with symbols vars.items in
      let lowest : column ≡ 0 =
      number-unset symbols.graph.variables (λ i. assigned vars.items (symbols.graph.variables - 1 - i)) (λ i. unset _) in
      record {
        count = count;
        inside = subst (λ (own : ℕ). own < columns_in symbols) (sym lowest) (pow_pos symbols.graph.variables);
        differ = λ same.
            let one_count = length-states (maker.function_holds symbols) column one.highs one.lows first.columns.counted in
            let other_count = length-states (maker.function_holds symbols) column other.highs other.lows second.columns.counted in
            uneven (sym one_count ∙ ap (λ (states : List Tern). length states) same ∙ other_count);
        same_before = λ earlier before. absurd (omega (arith, before, lowest));
      }

-- ---- what is told

abbrev pub difference_of : ℕ → List ℕ → List Tern → List Tern → List Bool → Difference
difference_of line word one other truths = record { line = line; word = word; one = one; other = other; truths = truths }

-- a difference that was found is told as the first one
pub told_of_found : (symbols : Symbols) (v : Valuations) (line : ℕ) (word : List ℕ) (one other : RailLists) (vars : List Bool) (own : Difference) →
    AreValuationsOf symbols v → DifferFirst symbols one other vars →
    own ≡ difference_of line word (letters_in symbols one (column_with symbols vars)) (letters_in symbols other (column_with symbols vars)) vars →
    IsComparedWord v line word (letters_in symbols one) (letters_in symbols other) (own ∷ [])
told_of_found symbols v line word one other vars own are differ is = record {
  column = column_with symbols vars;
  inside = omega (arith, differ.inside, are.columns);
  differ = differ.differ;
  same_before = differ.same_before;
  own_is = is ∙ ap (difference_of line word (letters_in symbols one (column_with symbols vars)) (letters_in symbols other (column_with symbols vars)))
      (sym (are.truths (column_with symbols vars) ∙ truths_of_column symbols.graph.variables vars differ.count));
}

-- and nothing if none was found
pub told_of_none : (symbols : Symbols) (v : Valuations) (line : ℕ) (word : List ℕ) (one other : RailLists) → AreValuationsOf symbols v →
    IsFirstDifference symbols one other None → IsComparedWord v line word (letters_in symbols one) (letters_in symbols other) []
told_of_none symbols v line word one other are none = λ column inside. none column (omega (arith, inside, are.columns))

-- ---- what is told of each word

-- two lists of states are the same, or they aren't
same_letters : (xs ys : List Tern) → (xs ≡ ys) ⊎ (xs ≢ ys)
same_letters [] [] = inl refl
same_letters [] (y ∷ ys) = inr (λ e. absurd (cc e))
same_letters (x ∷ xs) [] = inr (λ e. absurd (cc e))
same_letters (x ∷ xs) (y ∷ ys) = by (same_or_other x y) (same_letters xs ys)
  where
    by : ((x ≡ y) ⊎ (x ≢ y)) → ((xs ≡ ys) ⊎ (xs ≢ ys)) → ((x ∷ xs) ≡ (y ∷ ys)) ⊎ ((x ∷ xs) ≢ (y ∷ ys))
    by (inl head) (inl tail) = inl (ap₂ (λ (own : Tern) (rest : List Tern). own ∷ rest) head tail)
    by (inl head) (inr tail) = inr (λ e. tail (cc e))
    by (inr head) rest = inr (λ e. head (cc e))

-- a column is the first of so many in which letters differ, or they are the same in all
record FirstOf (columns : ℕ) (one other : ℕ → List Tern) : Type 0 where
  column : ℕ
  inside : column < columns
  differ : one column ≢ other column
  before : (earlier : ℕ) → earlier < column → one earlier ≡ other earlier

first_of : (columns : ℕ) (one other : ℕ → List Tern) → ((column : ℕ) → column < columns → one column ≡ other column) ⊎ FirstOf columns one other
first_of zero one other = inl (λ column inside. absurd (omega (arith, inside)))
first_of (suc columns) one other = by (first_of columns one other) (same_letters (one columns) (other columns))
  where
    by : (((column : ℕ) → column < columns → one column ≡ other column) ⊎ FirstOf columns one other) →
        ((one columns ≡ other columns) ⊎ (one columns ≢ other columns)) →
        ((column : ℕ) → column < suc columns → one column ≡ other column) ⊎ FirstOf (suc columns) one other
    by (inr is) last = inr (record { column = is.column; inside = omega (arith, is.inside); differ = is.differ; before = is.before })
    by (inl all) (inl last) = inl (λ column inside. elim (cases_lt column columns) [
      | inl less ↦ all column less
      | inr past ↦
          let here : columns ≡ column = omega (arith, past, inside) in
          subst (λ (own : ℕ). one own ≡ other own) here last
    ])
    by (inl all) (inr last) = inr (record { column = columns; inside = omega arith; differ = last; before = all })

-- so something is told of each word
pub word_told : (v : Valuations) (line : ℕ) (word : List ℕ) (one other : ℕ → List Tern) → (told : List Difference) × IsComparedWord v line word one other told
word_told v line word one other = by (first_of v.columns one other)
  where
    by : (((column : ℕ) → column < v.columns → one column ≡ other column) ⊎ FirstOf v.columns one other) →
        (told : List Difference) × IsComparedWord v line word one other told
    by (inl same) = ([], same)
    by (inr is) = (
      record { line = line; word = word; one = one is.column; other = other is.column; truths = v.truths is.column } ∷ [],
      record { column = is.column; inside = is.inside; differ = is.differ; same_before = is.before; own_is = refl },
    )

-- what is told of a word is told of the same letters
pub word_alike : (v : Valuations) (line : ℕ) (word : List ℕ) (one other own its : ℕ → List Tern) (told : List Difference) →
    ((column : ℕ) → column < v.columns → one column ≡ own column) → ((column : ℕ) → column < v.columns → other column ≡ its column) →
    IsComparedWord v line word one other told → IsComparedWord v line word own its told
word_alike v line word one other own its [] first second same = λ column inside. sym (first column inside) ∙ same column inside ∙ second column inside
word_alike v line word one other own its (difference ∷ []) first second is = record {
  column = is.column;
  inside = is.inside;
  differ = λ same. is.differ (first is.column is.inside ∙ same ∙ sym (second is.column is.inside));
  same_before = λ earlier before.
      let inside : earlier < v.columns = omega (arith, before, is.inside) in
      sym (first earlier inside) ∙ is.same_before earlier before ∙ second earlier inside;
  own_is = is.own_is ∙ ap₂ (λ (letters others : List Tern). difference_of line word letters others (v.truths is.column))
      (first is.column is.inside) (second is.column is.inside);
}
word_alike v line word one other own its (difference ∷ next ∷ more) first second is = absurd is
