-- Of so many columns: the first for which a test holds, the value that all have or two that differ, the greatest number, and the mark.
use Rattle.std.proofs.Common.{◌≡◌, ◌≢◌, ℕ, zero, suc, ◌<◌, ◌≤◌, ◌⊎◌, inl, inr, Bool, true, false, List, length, map, Option, None, Some, refl, sym, subst, ◌∙◌, arith, true≢false}
use Rattle.std.specs.List.{range_with_len}
use Rattle.std.proofs.lemmas.Bool.{cases_Bool, cases_lt}
use Rattle.std.proofs.lemmas.List.FromFn.{get_or-map-range_with_len, length-map-range_with_len}
use Rattle.ternary.specs.declared.tern.Tern.{Tern}
use Rattle.switch_paths.specs.Switching.{state_at}
use Rattle.switch_paths.specs.declared.switching.SwitchState.{SwitchState}
use Rattle.switch_paths.specs.declared.switching.SwitchState.TheVariants.{Open, Closed, Unknown}
use Rattle.ternary.proofs.TernLemmas.{same_or_other}
use Rattle.symbol_meaning.specs.Merging.{AreOfAll, IsGreatest, IsMarked, IsOfAll}

-- the first of so many columns for which a test holds
pub record IsFirstTrue (columns : ℕ) (test : ℕ → Bool) : Type 0 where
  pub column : ℕ
  pub inside : column < columns
  pub held : test column ≡ true
  pub before : (earlier : ℕ) → earlier < column → test earlier ≡ false

-- it holds for none of them, or there is a first one
pub first_true : (columns : ℕ) (test : ℕ → Bool) → ((column : ℕ) → column < columns → test column ≡ false) ⊎ IsFirstTrue columns test
first_true zero test = inl (λ column inside. absurd (omega (arith, inside)))
first_true (suc columns) test = by (first_true columns test) (cases_Bool (test columns))
  where
    by : (((column : ℕ) → column < columns → test column ≡ false) ⊎ IsFirstTrue columns test) →
        ((test columns ≡ true) ⊎ (test columns ≡ false)) →
        ((column : ℕ) → column < suc columns → test column ≡ false) ⊎ IsFirstTrue (suc columns) test
    by (inr is) here = inr (record { column = is.column; inside = omega (arith, is.inside); held = is.held; before = is.before })
    by (inl none) (inl here) = inr (record { column = columns; inside = omega arith; held = here; before = none })
    by (inl none) (inr here) = inl (λ column inside. elim (cases_lt column columns) [
      | inl less ↦ none column less
      | inr past ↦
          let same : columns ≡ column = omega (arith, past, inside) in
          subst (λ (own : ℕ). test own ≡ false) same here
    ])

-- all columns have one value, or one of them another
other_column : {A : Type 0} → ((a b : A) → (a ≡ b) ⊎ (a ≢ b)) → (values : ℕ → A) (own : A) (columns : ℕ) →
    ((column : ℕ) → column < columns → values column ≡ own) ⊎ ((column : ℕ) × (column < columns) × (values column ≢ own))
other_column same values own zero = inl (λ column inside. absurd (omega (arith, inside)))
other_column same values own (suc columns) = by (same (values columns) own) (other_column same values own columns)
  where
    by : ((values columns ≡ own) ⊎ (values columns ≢ own)) →
        (((column : ℕ) → column < columns → values column ≡ own) ⊎ ((column : ℕ) × (column < columns) × (values column ≢ own))) →
        ((column : ℕ) → column < suc columns → values column ≡ own) ⊎ ((column : ℕ) × (column < suc columns) × (values column ≢ own))
    by last (inr other) = inr (other.0, omega (arith, other.1), other.2)
    by (inr other) (inl all) = inr (columns, omega arith, other)
    by (inl last) (inl all) = inl (λ column inside. elim (cases_lt column columns) [
      | inl below ↦ all column below
      | inr above ↦
          let here : columns ≡ column = omega (arith, inside, above) in
          subst (λ (at : ℕ). values at ≡ own) here last
    ])

-- so something is told of the value, where two values are the same or not
pub of_all : {A : Type 0} → ((a b : A) → (a ≡ b) ⊎ (a ≢ b)) → (columns : ℕ) → 0 < columns → (values : ℕ → A) →
    (own : Option A) × IsOfAll columns values own
of_all {A = A} same columns some values = by (other_column same values (values 0) columns)
  where
    by : (((column : ℕ) → column < columns → values column ≡ values 0) ⊎ ((column : ℕ) × (column < columns) × (values column ≢ values 0))) →
        (own : Option A) × IsOfAll columns values own
    by (inl all) = (Some (values 0), all)
    by (inr (column, inside, other)) = (None, (column, 0, inside, some, other))

-- of the state of a node
pub letter_of_all : (columns : ℕ) → 0 < columns → (states : ℕ → Tern) → (letter : Option Tern) × IsOfAll columns states letter
letter_of_all columns some states = of_all same_or_other columns some states

-- and of a switch's
same_switch : (a b : SwitchState) → (a ≡ b) ⊎ (a ≢ b)
same_switch Open Open = inl refl
same_switch Open Closed = inr (λ e. cc)
same_switch Open Unknown = inr (λ e. cc)
same_switch Closed Open = inr (λ e. cc)
same_switch Closed Closed = inl refl
same_switch Closed Unknown = inr (λ e. cc)
same_switch Unknown Open = inr (λ e. cc)
same_switch Unknown Closed = inr (λ e. cc)
same_switch Unknown Unknown = inl refl

pub switch_of_all : (columns : ℕ) → 0 < columns → (states : ℕ → SwitchState) → (state : Option SwitchState) × IsOfAll columns states state
switch_of_all columns some states = of_all same_switch columns some states

-- of as many states in each column
pub letters_of_all : (columns : ℕ) → 0 < columns → (states : ℕ → List Tern) (count : ℕ) →
    ((column : ℕ) → column < columns → length (states column) ≡ count) → (letters : List (Option Tern)) × AreOfAll columns states letters
letters_of_all columns some states count even =
    let letter = λ (k : ℕ). letter_of_all columns some (λ (column : ℕ). state_at (states column) k) in
    let letters : List (Option Tern) = map (λ (k : ℕ). (letter k).0) (range_with_len 0 count) in
    let counted : length letters ≡ count = length-map-range_with_len (λ (k : ℕ). (letter k).0) 0 count in (
      letters,
      record {
        count = λ column inside. even column inside ∙ sym counted;
        each = λ k inside.
            subst (λ (own : Option Tern). IsOfAll columns (λ (column : ℕ). state_at (states column) k) own)
            (sym (get_or-map-range_with_len (λ (at : ℕ). (letter at).0) 0 count k k None (omega (arith, inside, counted)) (omega arith)))
            (letter k).1;
      },
    )

-- one column more than so many has a greatest number
greatest_of : (more : ℕ) (numbers : ℕ → ℕ) → (greatest : ℕ) × IsGreatest (suc more) numbers greatest
greatest_of zero numbers = (
  numbers 0,
  record {
    few = λ column inside.
        let here : column ≡ 0 = omega (arith, inside) in
        subst (λ (at : ℕ). numbers at ≤ numbers 0) (sym here) (omega arith);
    reached = (0, omega arith, refl);
  },
)
greatest_of (suc more) numbers = by (greatest_of more numbers)
  where
    larger : (greatest : ℕ) → IsGreatest (suc more) numbers greatest → greatest < numbers (suc more) → (top : ℕ) × IsGreatest (suc (suc more)) numbers top
    larger greatest is less = (
      numbers (suc more),
      record {
        few = λ column inside. elim (cases_lt column (suc more)) [
          | inl below ↦ omega (arith, is.few column below, less)
          | inr above ↦
              let here : suc more ≡ column = omega (arith, inside, above) in
              subst (λ (at : ℕ). numbers at ≤ numbers (suc more)) here (omega arith)
        ];
        reached = (suc more, omega arith, refl);
      },
    )

    no_larger : (greatest : ℕ) → IsGreatest (suc more) numbers greatest → numbers (suc more) ≤ greatest → (top : ℕ) × IsGreatest (suc (suc more)) numbers top
    no_larger greatest is least = (
      greatest,
      record {
        few = λ column inside. elim (cases_lt column (suc more)) [
          | inl below ↦ is.few column below
          | inr above ↦
              let here : suc more ≡ column = omega (arith, inside, above) in
              subst (λ (at : ℕ). numbers at ≤ greatest) here least
        ];
        reached = (is.reached.0, omega (arith, is.reached.1), is.reached.2);
      },
    )

    by : ((greatest : ℕ) × IsGreatest (suc more) numbers greatest) → (top : ℕ) × IsGreatest (suc (suc more)) numbers top
    by (greatest, is) = elim (cases_lt greatest (numbers (suc more))) [
      | inl less ↦ larger greatest is less
      | inr least ↦ no_larger greatest is least
    ]

-- so some column has the greatest
pub greatest_of_all : (columns : ℕ) → 0 < columns → (numbers : ℕ → ℕ) → (greatest : ℕ) × IsGreatest columns numbers greatest
greatest_of_all zero some numbers = absurd (omega (arith, some))
greatest_of_all (suc more) some numbers = greatest_of more numbers

-- and some column has a mark, or none
pub mark_of_all : (columns : ℕ) (marks : ℕ → Bool) → (mark : Bool) × IsMarked columns marks mark
mark_of_all columns marks = by (first_true columns marks)
  where
    by : (((column : ℕ) → column < columns → marks column ≡ false) ⊎ IsFirstTrue columns marks) → (mark : Bool) × IsMarked columns marks mark
    by (inl none) = (false, (λ is. absurd (cc is), λ own. absurd (true≢false (sym own.2 ∙ none own.0 own.1))))
    by (inr is) = (true, (λ held. (is.column, is.inside, is.held), λ own. refl))
