-- Laws of places: the first row in which two rows differ has the first place at which their traces differ.
use Rattle.std.proofs.Common.{◌≡◌, ℕ, ◌+◌, ◌<◌, Bool, List, Some, slice_get, inl, inr, refl, sym, ◌∙◌, subst, below_more}
use Rattle.ternary.specs.declared.tern.Tern.{Tern}
use Rattle.fault_sim.specs.Traces.{DifferAt, DifferFirstAt, AreAlikeRows, IsDifference, FirstInRow}

-- where two lists of rows differ, their rows there differ
in_rows : (strong : Bool) (good bad : List (List Tern)) (row entry : ℕ) (good_row bad_row : List Tern) → slice_get good row ≡ Some good_row →
    slice_get bad row ≡ Some bad_row → IsDifference strong good bad row entry → DifferAt strong good_row bad_row entry
in_rows strong good bad row entry good_row bad_row in_good in_bad is =
    let first : is.good_row ≡ good_row = (let both = sym is.in_good ∙ in_good in cc) in
    let second : is.bad_row ≡ bad_row = (let both = sym is.in_bad ∙ in_bad in cc) in
    subst (λ values. DifferAt strong good_row values entry) second (subst (λ values. DifferAt strong values is.bad_row entry) first is.differ)

-- the rows of this number are the first that differ
pub FirstInRow-found : (strong : Bool) (good bad : List (List Tern)) (row entry : ℕ) (good_row bad_row : List Tern) → slice_get good row ≡ Some good_row →
    slice_get bad row ≡ Some bad_row → DifferFirstAt strong good_row bad_row entry →
    ((k other : ℕ) → k < row → ¬ IsDifference strong good bad k other) → FirstInRow strong good bad (row + 1) entry
FirstInRow-found strong good bad row entry good_row bad_row in_good in_bad first none = record {
  row = row;
  numbered = refl;
  first = record {
    here = record { good_row = good_row; bad_row = bad_row; in_good = in_good; in_bad = in_bad; differ = first.here };
    none_before = λ other_row other_entry before differ. elim before [
      | inl earlier ↦ none other_row other_entry earlier differ
      | inr same ↦
          first.none_before other_entry same.1
          (in_rows strong good bad row other_entry good_row bad_row in_good in_bad (subst (λ k. IsDifference strong good bad k other_entry) same.0 differ))
    ];
  };
}

-- these rows don't differ, nor do those before
pub none_so_far : (strong : Bool) (good bad : List (List Tern)) (row : ℕ) (good_row bad_row : List Tern) → slice_get good row ≡ Some good_row →
    slice_get bad row ≡ Some bad_row → AreAlikeRows strong good_row bad_row →
    ((k other : ℕ) → k < row → ¬ IsDifference strong good bad k other) → (k other : ℕ) → k < row + 1 → ¬ IsDifference strong good bad k other
none_so_far strong good bad row good_row bad_row in_good in_bad alike none k other low =
    below_more (λ j. (entry : ℕ) → ¬ IsDifference strong good bad j entry) row (λ j h entry. none j entry h)
    (λ entry differ. alike entry (in_rows strong good bad row entry good_row bad_row in_good in_bad differ)) k low other
