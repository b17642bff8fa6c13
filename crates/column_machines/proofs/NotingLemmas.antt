-- What is noted of changes in words, place by place; and the rails of a column in the words that are noted.
use Rattle.std.proofs.Common.{◌≡◌, ℕ, ◌+◌, ◌<◌, Bool, true, false, ◌&&◌, ◌||◌, inl, inr, List, [], ◌∷◌, ◌++◌, length, refl, sym, ap, ap₂, subst, ◌∙◌, arith}
use Rattle.std.specs.Prelude.{slice_index}
use Rattle.std.proofs.lemmas.Bool.{cases_lt}
use Rattle.std.proofs.lemmas.List.Elements.{Contains-push, Contains-push_cases, Contains-append_left}
use Rattle.ternary.specs.declared.tern.Tern.{Tern}
use Rattle.ternary.specs.Tern.{may_one, may_zero}
use Rattle.ternary.proofs.TernLemmas.{may_one-join, may_zero-join}
use Rattle.word_columns.specs.Columns.{is_in_column}
use Rattle.word_columns.proofs.ColumnLemmas.{column-or, turn}
use Rattle.part_words.specs.Noting.{after}
use Rattle.column_machines.specs.declared.evaluation.WordChange.{WordChange}
use Rattle.column_machines.specs.Noting.{after_word, differ, differs_in, HasChange, IsNextOf, IsNoted, IsIdle, Notes}

-- ---- bits

-- bits that don't differ are the same
differ-same : (a b : Bool) → differ a b ≡ false → a ≡ b
differ-same true true same = refl
differ-same true false same = absurd (cc)
differ-same false true same = absurd (cc)
differ-same false false same = refl

pub differ-self : (a : Bool) → differ a a ≡ false
differ-self true = refl
differ-self false = refl

-- two pairs of bits of which none differs in a used column
same_bits : (x y u : Bool) → ((x || y) && u) ≡ false → u ≡ true → (x ≡ false) × (y ≡ false)
same_bits true y true none used = absurd (cc)
same_bits false true true none used = absurd (cc)
same_bits false false true none used = (refl, refl)
same_bits x y false none used = absurd (cc)

-- a change that changes nothing in a used column has the node's rails there
pub no_difference : (used hi lo column : ℕ) (change : WordChange) → is_in_column column used ≡ true → differs_in used hi lo column change ≡ false →
    (is_in_column column change.hi ≡ is_in_column column hi) × (is_in_column column change.lo ≡ is_in_column column lo)
no_difference used hi lo column change used_is none =
    let (high, low) = same_bits (differ (is_in_column column change.hi) (is_in_column column hi))
    (differ (is_in_column column change.lo) (is_in_column column lo))
    (is_in_column column used) none used_is in
    (differ-same _ _ high, differ-same _ _ low)

-- and where it has these rails it changes nothing
pub no_change : (used hi lo column : ℕ) (change : WordChange) → is_in_column column change.hi ≡ is_in_column column hi →
    is_in_column column change.lo ≡ is_in_column column lo → differs_in used hi lo column change ≡ false
no_change used hi lo column change high low =
    ap₂ (λ a b. (differ a (is_in_column column hi) || differ b (is_in_column column lo)) && is_in_column column used) high low
    ∙ (ap₂ (λ x y. (x || y) && is_in_column column used) (differ-self (is_in_column column hi)) (differ-self (is_in_column column lo)) ∙ none (is_in_column column used))
  where
    none : (u : Bool) → (false && u) ≡ false
    none true = refl
    none false = refl

-- the word of the columns that a change changes
turn-differ : (a b : Bool) → turn a b ≡ differ a b
turn-differ a true = refl
turn-differ a false = refl

pub column-differs : (column used hi lo : ℕ) (change : WordChange) →
    (turn (is_in_column column change.hi) (is_in_column column hi) || turn (is_in_column column change.lo) (is_in_column column lo))
    && is_in_column column used
    ≡ differs_in used hi lo column change
column-differs column used hi lo change =
    ap₂ (λ x y. (x || y) && is_in_column column used) (turn-differ (is_in_column column change.hi) (is_in_column column hi))
    (turn-differ (is_in_column column change.lo) (is_in_column column lo))

-- the rails of a node that is given a state
pub after-one : (joining : Bool) (column old given : ℕ) (s v : Tern) → is_in_column column old ≡ may_one s → is_in_column column given ≡ may_one v →
    is_in_column column (after_word joining old given) ≡ may_one (after joining s v)
after-one true column old given s v one two = column-or column old given ∙ (ap₂ (λ a b. a || b) one two ∙ sym (may_one-join s v))
after-one false column old given s v one two = two

pub after-zero : (joining : Bool) (column old given : ℕ) (s v : Tern) → is_in_column column old ≡ may_zero s →
    is_in_column column given ≡ may_zero v →
    is_in_column column (after_word joining old given) ≡ may_zero (after joining s v)
after-zero true column old given s v one two = column-or column old given ∙ (ap₂ (λ a b. a || b) one two ∙ sym (may_zero-join s v))
after-zero false column old given s v one two = two

-- ---- places

pub HasChange-more : (changes more : List WordChange) (node : ℕ) → HasChange changes node → HasChange (changes ++ more) node
HasChange-more changes more node has = record {
  change = has.change;
  there = Contains-append_left changes more has.change has.there;
  of_node = has.of_node;
}

module _ (joining : Bool) (used : ℕ) (nodes hi lo ones others : List ℕ) where
  -- at no place nothing is noted
  pub Notes-none : (old : List WordChange) → Notes joining used nodes hi lo ones others 0 old old
  Notes-none old = record {
    kept = λ change there. there;
    noted = λ place inside. absurd (omega (arith, inside));
    only = λ change there. inl there;
  }

  -- at a place where nothing changes nothing is noted
  pub Notes-idle : (place : ℕ) (old mid : List WordChange) →
      IsIdle joining used hi lo (slice_index nodes place) (slice_index ones place) (slice_index others place) →
      Notes joining used nodes hi lo ones others place old mid → Notes joining used nodes hi lo ones others (place + 1) old mid
  Notes-idle place old mid idle notes = record {
    kept = notes.kept;
    noted = λ other inside.
        elim (cases_lt other place) [
          | inl before ↦ notes.noted other before
          | inr past ↦
              let same : place ≡ other = omega (arith, inside, past) in
              inr (subst (λ n. IsIdle joining used hi lo (slice_index nodes n) (slice_index ones n) (slice_index others n)) same idle)
        ];
    only = notes.only;
  }

  -- and at one where the node changes it is noted
  pub Notes-more : (place : ℕ) (change : WordChange) (old mid : List WordChange) → place < length ones → slice_index nodes place ≡ change.node →
      IsNextOf joining hi lo (slice_index ones place) (slice_index others place) change →
      Notes joining used nodes hi lo ones others place old mid → Notes joining used nodes hi lo ones others (place + 1) old (mid ++ change ∷ [])
  Notes-more place change old mid inside here next notes = record {
    kept = λ other there. Contains-append_left mid (change ∷ []) other (notes.kept other there);
    noted = λ other within.
        elim (cases_lt other place) [
          | inl before ↦
              elim (notes.noted other before) [
                | inl has ↦ inl (HasChange-more mid (change ∷ []) _ has)
                | inr idle ↦ inr idle
              ]
          | inr past ↦
              let same : place ≡ other = omega (arith, within, past) in
              inl (record { change = change; there = Contains-push mid change; of_node = sym here ∙ ap (slice_index nodes) same })
        ];
    only = λ other there.
        elim (Contains-push_cases mid change other there) [
          | inl before ↦ notes.only other before
          | inr same ↦ inr (subst (IsNoted joining nodes hi lo ones others) same (record { place = place; inside = inside; node = here; next = next }))
        ];
  }
