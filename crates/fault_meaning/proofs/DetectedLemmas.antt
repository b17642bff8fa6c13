-- A strong difference that shows first in a prefix of a trace's rows shows first in all of them.
use Rattle.std.proofs.Common.{◌≡◌, ℕ, ◌<◌, ◌++◌, zero, suc, inl, inr, List, [], ◌∷◌, length, slice_get, true, Bool, refl, sym, subst, ◌∙◌, arith}
use Rattle.std.proofs.lemmas.Option.{slice_get_within}
use Rattle.ternary.specs.declared.tern.Tern.{Tern}
use Rattle.fault_sim.specs.declared.verdicts.Verdict.TheVariants.{Detected}
use Rattle.fault_sim.specs.Traces.{Trace, IsBefore, IsDifference, FirstInRow, IsVerdict}

-- what stands at a place of a front
slice_get-front : {X : Type 0} (front back : List X) (i : ℕ) → i < length front → slice_get (front ++ back) i ≡ slice_get front i
slice_get-front [] back i low = absurd (omega (arith, low))
slice_get-front (x ∷ front) back zero low = refl
slice_get-front (x ∷ front) back (suc i) low = slice_get-front front back i (omega (arith, low))

module _ (strong : Bool) (good front back : List (List Tern)) where
  -- a difference in the front is one of all rows
  longer : (row entry : ℕ) → IsDifference strong good front row entry → IsDifference strong good (front ++ back) row entry
  longer row entry is = record {
    good_row = is.good_row;
    bad_row = is.bad_row;
    in_good = is.in_good;
    in_bad = slice_get-front front back row (slice_get_within front row is.bad_row is.in_bad) ∙ is.in_bad;
    differ = is.differ;
  }

  -- and one of all rows that is inside the front is one of the front
  shorter : (row entry : ℕ) → row < length front → IsDifference strong good (front ++ back) row entry → IsDifference strong good front row entry
  shorter row entry low is = record {
    good_row = is.good_row;
    bad_row = is.bad_row;
    in_good = is.in_good;
    in_bad = sym (slice_get-front front back row low) ∙ is.in_bad;
    differ = is.differ;
  }

  -- what is before a place in the front is in it too
  inside : (other_row other_entry row entry : ℕ) → IsBefore other_row other_entry row entry → row < length front → other_row < length front
  inside other_row other_entry row entry (inl before) low = omega (arith, before, low)
  inside other_row other_entry row entry (inr here) low = let same = here.0 in omega (arith, same, low)

  first_in_all : (number entry : ℕ) → FirstInRow strong good front number entry → FirstInRow strong good (front ++ back) number entry
  first_in_all number entry is =
      let here = is.first.here in
      let low = slice_get_within front is.row here.bad_row here.in_bad in
      record {
        row = is.row;
        numbered = is.numbered;
        first = record {
          here = longer is.row entry here;
          none_before = λ other_row other_entry before there.
              is.first.none_before other_row other_entry before
              (shorter other_row other_entry (inside other_row other_entry is.row entry before low) there);
        };
      }

-- so a trace with these rows in front of its own is detected there
pub detected_in_all : (good bad whole : Trace) (back : List (List Tern)) (number entry : ℕ) → whole.rows ≡ bad.rows ++ back →
    IsVerdict good bad (Detected number entry) → IsVerdict good whole (Detected number entry)
detected_in_all good bad whole back number entry rows is =
    subst (λ all. FirstInRow true good.rows all number entry) (sym rows) (first_in_all true good.rows bad.rows back number entry is)
