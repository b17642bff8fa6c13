-- What is noted of changes, place by place; and rails of a column that are given.
use Rattle.std.proofs.Common.{◌≡◌, ◌≢◌, ℕ, zero, suc, ◌+◌, ◌<◌, ◌⊎◌, Bool, true, false, ◌||◌, inl, inr, List, [], ◌∷◌, ◌++◌, length, get_or, All, Option, Some, None, refl, sym, ap, ap₂, subst, ◌∙◌, arith}
use Rattle.std.specs.Prelude.{slice_index, IfSome}
use Rattle.std.specs.Option.{IfNone}
use Rattle.std.proofs.lemmas.Bool.{cases_lt}
use Rattle.std.proofs.lemmas.List.Elements.{All-push, Contains-push, Contains-push_cases, Contains-append_left}
use Rattle.ternary.specs.declared.tern.Tern.{Tern}
use Rattle.ternary.specs.Tern.{may_one, may_zero}
use Rattle.ternary.proofs.TernLemmas.{may_one-join, may_zero-join}
use Rattle.part_words.specs.Noting.{after}
use Rattle.truth_columns.proofs.ColumnLemmas.{value_at}
use Rattle.truth_parts.specs.declared.workspace.TruthChange.{TruthChange}
use Rattle.truth_parts.specs.Columns.{rail_in}
use Rattle.truth_parts.specs.Noting.{after_rail, with_found, Differs, HasChange, IsIdle, IsNextFrom, IsNextOf, IsNoted, IsOf, Notes, StaysBy}

-- ---- columns in which something differs

-- two truth values are the same or not
same_bit : (a b : Bool) → (a ≡ b) ⊎ (a ≢ b)
same_bit true true = inl refl
same_bit true false = inr (λ e. cc)
same_bit false true = inr (λ e. cc)
same_bit false false = inl refl

-- if it isn't so that they agree in all columns, they differ in some column
pub some_column : (columns : ℕ) (f h : ℕ → Bool) → ¬ ((column : ℕ) → column < columns → f column ≡ h column) →
    (column : ℕ) × (column < columns) × (f column ≢ h column)
some_column zero f h not_all = absurd (not_all (λ column inside. absurd (omega (arith, inside))))
some_column (suc columns) f h not_all =
    elim (same_bit (f columns) (h columns)) [
      | inl same ↦
          let (column, inside, other) = some_column columns f h (λ all. not_all (λ column inside.
          elim (cases_lt column columns) [
            | inl below ↦ all column below
            | inr last ↦ let is : columns ≡ column = omega (arith, inside, last) in subst (λ n. f n ≡ h n) is same
          ])) in
          (column, omega (arith, inside), other)
      | inr other ↦ (columns, omega arith, other)
    ]

-- ---- rails that are given

pub after-one : (joining old given : Bool) (s v : Tern) → old ≡ may_one s → given ≡ may_one v → after_rail joining old given ≡ may_one (after joining s v)
after-one true old given s v one two = ap₂ (λ a b. a || b) one two ∙ sym (may_one-join s v)
after-one false old given s v one two = two

pub after-zero : (joining old given : Bool) (s v : Tern) → old ≡ may_zero s → given ≡ may_zero v → after_rail joining old given ≡ may_zero (after joining s v)
after-zero true old given s v one two = ap₂ (λ a b. a || b) one two ∙ sym (may_zero-join s v)
after-zero false old given s v one two = two

-- ---- places

pub HasChange-more : {A : Type 0} → (changes more : List (TruthChange A)) (node : ℕ) → HasChange changes node → HasChange (changes ++ more) node
HasChange-more changes more node has = record {
  change = has.change;
  there = Contains-append_left changes more has.change has.there;
  of_node = has.of_node;
}

module _ {A : Type 0} (joining : Bool) (columns : ℕ) (holds : A → ℕ → Bool) (nodes : List ℕ) (hi lo ones others : List A) where
  -- at no place nothing is noted
  pub Notes-none : (old : List (TruthChange A)) → Notes joining columns holds nodes hi lo ones others 0 old old
  Notes-none old = record {
    kept = λ change there. there;
    noted = λ place inside. absurd (omega (arith, inside));
    only = λ change there. inl there;
  }

  -- at a place where nothing changes nothing is noted
  pub Notes-idle : (place : ℕ) (old mid : List (TruthChange A)) → IsIdle joining columns holds hi lo ones others (slice_index nodes place) place →
      Notes joining columns holds nodes hi lo ones others place old mid → Notes joining columns holds nodes hi lo ones others (place + 1) old mid
  Notes-idle place old mid idle notes = record {
    kept = notes.kept;
    noted = λ other inside.
        elim (cases_lt other place) [
          | inl before ↦ notes.noted other before
          | inr past ↦
              let same : place ≡ other = omega (arith, inside, past) in
              inr (subst (λ n. IsIdle joining columns holds hi lo ones others (slice_index nodes n) n) same idle)
        ];
    only = notes.only;
  }

  -- and at one where the node changes it is noted
  pub Notes-more : (place : ℕ) (change : TruthChange A) (old mid : List (TruthChange A)) → place < length ones → slice_index nodes place ≡ change.node →
      IsNextOf joining columns holds hi lo ones others place change → Differs columns holds hi lo change →
      Notes joining columns holds nodes hi lo ones others place old mid → Notes joining columns holds nodes hi lo ones others (place + 1) old (mid ++ change ∷ [])
  Notes-more place change old mid inside here next differs notes = record {
    kept = λ other there. Contains-append_left mid (change ∷ []) other (notes.kept other there);
    noted = λ other within.
        elim (cases_lt other place) [
          | inl before ↦
              elim (notes.noted other before) [
                | inl has ↦ inl (HasChange-more mid (change ∷ []) _ has)
                | inr idle ↦ inr idle
              ]
          | inr past ↦
              let same : place ≡ other = omega (arith, within, past) in
              inl (record { change = change; there = Contains-push mid change; of_node = sym here ∙ ap (slice_index nodes) same })
        ];
    only = λ other there.
        elim (Contains-push_cases mid change other there) [
          | inl before ↦ notes.only other before
          | inr same ↦
              inr (subst (IsNoted joining columns holds nodes hi lo ones others) same
              (record { place = place; inside = inside; node = here; next = next; differs = differs }))
        ];
  }

  -- what is found at a place is noted
  module _ (place : ℕ) (inside : place < length ones) (even : length others ≡ length ones) (rails : length lo ≡ length hi)
      (below : slice_index nodes place < length hi) (high low one other : A) (high_is : high ≡ get_or hi (slice_index nodes place) high)
      (low_is : low ≡ get_or lo (slice_index nodes place) low) (one_is : one ≡ get_or ones place one) (other_is : other ≡ get_or others place other) where
    high_rail_is : (column : ℕ) → rail_in holds column hi (slice_index nodes place) ≡ holds high column
    high_rail_is column = value_at holds column hi (slice_index nodes place) high below ∙ ap (λ x. holds x column) (sym high_is)

    low_rail_is : (column : ℕ) → rail_in holds column lo (slice_index nodes place) ≡ holds low column
    low_rail_is column = value_at holds column lo (slice_index nodes place) low (omega (arith, below, rails)) ∙ ap (λ x. holds x column) (sym low_is)

    one_rail_is : (column : ℕ) → rail_in holds column ones place ≡ holds one column
    one_rail_is column = value_at holds column ones place one inside ∙ ap (λ x. holds x column) (sym one_is)

    other_rail_is : (column : ℕ) → rail_in holds column others place ≡ holds other column
    other_rail_is column = value_at holds column others place other (omega (arith, inside, even)) ∙ ap (λ x. holds x column) (sym other_is)

    pub Notes-found : (has : A → Type 0) (found : Option (TruthChange A)) (old mid : List (TruthChange A)) →
        IfSome found (IsNextFrom joining columns has holds (slice_index nodes place) high low one other) →
        IfNone found (StaysBy joining columns holds high low one other) →
        Notes joining columns holds nodes hi lo ones others place old mid → Notes joining columns holds nodes hi lo ones others (place + 1) old (with_found found mid)
    Notes-found has None old mid some stays notes =
        Notes-idle place old mid (record {
          high = λ column within. ap₂ (after_rail joining) (high_rail_is column) (one_rail_is column) ∙ stays.high column within ∙ sym (high_rail_is column);
          low = λ column within. ap₂ (after_rail joining) (low_rail_is column) (other_rail_is column) ∙ stays.low column within ∙ sym (low_rail_is column);
        }) notes
    Notes-found has (Some change) old mid next none notes =
        Notes-more place change old mid inside (sym next.of_node)
        (record {
          high = λ column within. next.high column within
              ∙ ap₂ (after_rail joining) (sym (ap (rail_in holds column hi) next.of_node ∙ high_rail_is column)) (sym (one_rail_is column));
          low = λ column within. next.low column within
              ∙ ap₂ (after_rail joining) (sym (ap (rail_in holds column lo) next.of_node ∙ low_rail_is column)) (sym (other_rail_is column));
        })
        (record {
          column = next.unlike.column;
          inside = next.unlike.inside;
          other = λ leaves. next.unlike.other (
            leaves.high ∙ ap (rail_in holds next.unlike.column hi) next.of_node ∙ high_rail_is next.unlike.column,
            leaves.low ∙ ap (rail_in holds next.unlike.column lo) next.of_node ∙ low_rail_is next.unlike.column,
          );
        })
        notes

-- a change that is found is of the maker, as those before it are
pub All-found : {A : Type 0} → (has : A → Type 0) (joining : Bool) (columns : ℕ) (holds : A → ℕ → Bool) (node : ℕ) (high low one other : A)
    (found : Option (TruthChange A)) (changes : List (TruthChange A)) → IfSome found (IsNextFrom joining columns has holds node high low one other) →
    All (IsOf has) changes → All (IsOf has) (with_found found changes)
All-found has joining columns holds node high low one other None changes next all = all
All-found has joining columns holds node high low one other (Some change) changes next all = All-push (IsOf has) changes change all next.of_maker
