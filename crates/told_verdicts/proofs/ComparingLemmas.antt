-- What a comparison comes to is where the rows of a run differ first from the good ones, and so it is the verdict on its trace.
use Rattle.std.proofs.Common.{◌≡◌, ℕ, zero, suc, ◌+◌, Bool, true, false, List, [], ◌∷◌, Option, None, Some, MatchOption, inl, inr, refl, sym, ap, ◌∙◌, subst, arith}
use Rattle.std.proofs.lemmas.Option.{slice_get_within}
use Rattle.ternary.specs.declared.tern.Tern.{Tern}
use Rattle.told_lines.specs.Lines.{Line, Wave, Unmet, Shown, Looked, AtEnd, AtGate, Reported, Refused}
use Rattle.told_lines.specs.Hearing.{hear_all, of_column}
use Rattle.told_lines.specs.Noting.{WaveRowData, rows_of, states_of}
use Rattle.fault_sim.specs.Traces.{Trace, AreAlike, AreAlikeRows, DifferFirstAt, FirstInRow, IsBefore, IsDifference, IsVerdict}
use Rattle.fault_sim.proofs.DifferenceLemmas.{FirstInRow-found, none_so_far}
use Rattle.told_verdicts.specs.declared.compare.Place.{Place}
use Rattle.told_verdicts.specs.Comparing.{CompareData, compared, first_entry, place_in, place_or, uncompared, verdict_by}
use Rattle.told_verdicts.specs.Laws.{VerdictsAreCompared}
use Rattle.told_verdicts.proofs.FirstLemmas.{first_entry-is}

-- ---- the first place in all rows

-- the first place at which rows differ so, if so many rows stand before them
abbrev first_from : Bool → ℕ → List (List Tern) → List (List Tern) → Option Place
first_from strong row [] bads = None
first_from strong row (good ∷ goods) [] = None
first_from strong row (good ∷ goods) (bad ∷ bads) = place_or (place_in (row + 1) (first_entry strong good bad)) (first_from strong (row + 1) goods bads)

-- it is the first place, if so many rows stand before them
record IsFirstFrom (strong : Bool) (row : ℕ) (goods bads : List (List Tern)) (place : Place) : Type 0 where
  pub number : ℕ
  pub numbered : place.row ≡ row + number
  pub first : FirstInRow strong goods bads number place.entry

module _ (strong : Bool) (good bad : List Tern) (goods bads : List (List Tern)) where
  -- a later row is one of the others
  behind : (row entry : ℕ) → IsDifference strong (good ∷ goods) (bad ∷ bads) (suc row) entry → IsDifference strong goods bads row entry
  behind row entry is = record { good_row = is.good_row; bad_row = is.bad_row; in_good = is.in_good; in_bad = is.in_bad; differ = is.differ }

  before : (row entry : ℕ) → IsDifference strong goods bads row entry → IsDifference strong (good ∷ goods) (bad ∷ bads) (suc row) entry
  before row entry is = record { good_row = is.good_row; bad_row = is.bad_row; in_good = is.in_good; in_bad = is.in_bad; differ = is.differ }

  -- the first rows are alike
  unlike : AreAlikeRows strong good bad → (entry : ℕ) → ¬ IsDifference strong (good ∷ goods) (bad ∷ bads) zero entry
  unlike alike entry =
      none_so_far strong (good ∷ goods) (bad ∷ bads) 0 good bad refl refl alike (λ k other low. absurd (omega (arith, low))) 0 entry (omega arith)

  alike_on : AreAlikeRows strong good bad → AreAlike strong goods bads → (row entry : ℕ) →
      ¬ IsDifference strong (good ∷ goods) (bad ∷ bads) row entry
  alike_on alike others zero entry is = unlike alike entry is
  alike_on alike others (suc row) entry is = others row entry (behind row entry is)

  -- so the first difference is that of the others, one row further on
  none_on : AreAlikeRows strong good bad → (row entry : ℕ) →
      ((other_row other_entry : ℕ) → IsBefore other_row other_entry row entry → ¬ IsDifference strong goods bads other_row other_entry) →
      (other_row other_entry : ℕ) → IsBefore other_row other_entry (suc row) entry → ¬ IsDifference strong (good ∷ goods) (bad ∷ bads) other_row other_entry
  none_on alike row entry none zero other_entry early is = unlike alike other_entry is
  none_on alike row entry none (suc other_row) other_entry (inl low) is =
      none other_row other_entry (inl (omega (arith, low))) (behind other_row other_entry is)
  none_on alike row entry none (suc other_row) other_entry (inr here) is =
      let same = here.0 in
      let still : other_row ≡ row = omega (arith, same) in none other_row other_entry (inr (still, here.1)) (behind other_row other_entry is)

  first_on : AreAlikeRows strong good bad → (number entry : ℕ) → FirstInRow strong goods bads number entry →
      FirstInRow strong (good ∷ goods) (bad ∷ bads) (number + 1) entry
  first_on alike number entry is = record {
    row = suc is.row;
    numbered = let numbered = is.numbered in omega (arith, numbered);
    first = record {
      here = before is.row entry is.first.here;
      none_before = none_on alike is.row entry is.first.none_before;
    };
  }

  -- the first rows differ first at this entry
  from_here : (row entry : ℕ) → DifferFirstAt strong good bad entry →
      IsFirstFrom strong row (good ∷ goods) (bad ∷ bads) (record { row = row + 1; entry = entry })
  from_here row entry first = record {
    number = 1;
    numbered = refl;
    first = FirstInRow-found strong (good ∷ goods) (bad ∷ bads) 0 entry good bad refl refl first (λ k other low. absurd (omega (arith, low)));
  }

  -- they are alike, and the others are such
  from_others : (row : ℕ) → AreAlikeRows strong good bad → (found : Option Place) →
      MatchOption found (AreAlike strong goods bads) (IsFirstFrom strong (row + 1) goods bads) →
      MatchOption found (AreAlike strong (good ∷ goods) (bad ∷ bads)) (IsFirstFrom strong row (good ∷ goods) (bad ∷ bads))
  from_others row alike None others = alike_on alike others
  from_others row alike (Some place) is = record {
    number = is.number + 1;
    numbered = let numbered = is.numbered in omega (arith, numbered);
    first = first_on alike is.number place.entry is.first;
  }

-- the place that is computed is the first
first_from-is : (strong : Bool) (row : ℕ) (goods bads : List (List Tern)) →
    MatchOption (first_from strong row goods bads) (AreAlike strong goods bads) (IsFirstFrom strong row goods bads)
first_from-is strong row [] bads = λ at entry is. absurd (let low = slice_get_within [] at is.good_row is.in_good in omega (arith, low))
first_from-is strong row (good ∷ goods) [] = λ at entry is. absurd (let low = slice_get_within [] at is.bad_row is.in_bad in omega (arith, low))
first_from-is strong row (good ∷ goods) (bad ∷ bads) =
    by (first_entry strong good bad) (first_entry-is strong good bad) (first_from-is strong (row + 1) goods bads)
  where
    by : (found : Option ℕ) → MatchOption found (AreAlikeRows strong good bad) (DifferFirstAt strong good bad) →
        MatchOption (first_from strong (row + 1) goods bads) (AreAlike strong goods bads) (IsFirstFrom strong (row + 1) goods bads) →
        MatchOption (place_or (place_in (row + 1) found) (first_from strong (row + 1) goods bads)) (AreAlike strong (good ∷ goods) (bad ∷ bads))
        (IsFirstFrom strong row (good ∷ goods) (bad ∷ bads))
    by (Some entry) first others = from_here strong good bad goods bads row entry first
    by None alike others = from_others strong good bad goods bads row alike (first_from strong (row + 1) goods bads) others

-- ---- row by row

place_or-none : (found : Option Place) → found ≡ place_or found None
place_or-none None = refl
place_or-none (Some place) = refl

place_or-later : (found next later : Option Place) → place_or (place_or found next) later ≡ place_or found (place_or next later)
place_or-later None next later = refl
place_or-later (Some place) next later = refl

-- without rows of a run there is no place
unfound : (strong : Bool) (found : Option Place) (row : ℕ) (goods : List (List Tern)) → found ≡ place_or found (first_from strong row goods [])
unfound strong found row [] = place_or-none found
unfound strong found row (good ∷ goods) = place_or-none found

-- a comparison has come to the first places in these rows, or to those that were found before
record ComesTo (end : CompareData) (strong weak : Option Place) (row : ℕ) (goods bads : List (List Tern)) : Type 0 where
  pub strong_is : end.strong ≡ place_or strong (first_from true row goods bads)
  pub weak_is : end.weak ≡ place_or weak (first_from false row goods bads)

-- so it does over a column's lines
comes_to : (column : ℕ) (lines : List Line) (left : List WaveRowData) (row : ℕ) (strong weak : Option Place) →
    ComesTo (hear_all compared (record { left = left; row = row; strong = strong; weak = weak }) (of_column column lines)) strong weak row
    (states_of left) (states_of (rows_of lines))
comes_to column [] left row strong weak =
    record { strong_is = unfound true strong row (states_of left); weak_is = unfound false weak row (states_of left) }
comes_to column (Wave n k mark values ∷ lines) [] row strong weak =
    let others = comes_to column lines [] row strong weak in record { strong_is = others.strong_is; weak_is = others.weak_is }
comes_to column (Wave n k mark values ∷ lines) (good ∷ left) row strong weak =
    let next : Bool → Option Place = λ kind. place_in (row + 1) (first_entry kind good.values values) in
    let others = comes_to column lines left (row + 1) (place_or strong (next true)) (place_or weak (next false)) in
    record {
      strong_is = others.strong_is ∙ place_or-later strong (next true) (first_from true (row + 1) (states_of left) (states_of (rows_of lines)));
      weak_is = others.weak_is ∙ place_or-later weak (next false) (first_from false (row + 1) (states_of left) (states_of (rows_of lines)));
    }
comes_to column (Unmet name want got n ∷ lines) left row strong weak = comes_to column lines left row strong weak
comes_to column (Shown name values ∷ lines) left row strong weak = comes_to column lines left row strong weak
comes_to column (Looked name state sort ∷ lines) left row strong weak = comes_to column lines left row strong weak
comes_to column (AtEnd switch gate gate_state end end_state ∷ lines) left row strong weak = comes_to column lines left row strong weak
comes_to column (AtGate switch source source_state drain drain_state ∷ lines) left row strong weak = comes_to column lines left row strong weak
comes_to column (Reported groups texts fresh ∷ lines) left row strong weak = comes_to column lines left row strong weak
comes_to column (Refused place code name count ∷ lines) left row strong weak = comes_to column lines left row strong weak

-- ---- the verdict

-- a first place where no row stands before the rows
placed : (strong : Bool) (goods bads : List (List Tern)) (place : Place) → IsFirstFrom strong 0 goods bads place →
    FirstInRow strong goods bads place.row place.entry
placed strong goods bads place is =
    let numbered = is.numbered in
    let same : is.number ≡ place.row = omega (arith, numbered) in subst (λ (number : ℕ). FirstInRow strong goods bads number place.entry) same is.first

-- the verdict by the first places is that on the trace
verdict_is : (good bad : Trace) (strong : Option Place) (refused : Option ℕ) (weak : Option Place) →
    MatchOption strong (AreAlike true good.rows bad.rows) (IsFirstFrom true 0 good.rows bad.rows) → bad.refused ≡ refused →
    MatchOption weak (AreAlike false good.rows bad.rows) (IsFirstFrom false 0 good.rows bad.rows) → IsVerdict good bad (verdict_by strong refused weak)
verdict_is good bad (Some place) refused weak first stopped other = placed true good.rows bad.rows place first
verdict_is good bad None (Some line) weak alike stopped other = (alike, stopped)
verdict_is good bad None None (Some place) alike stopped first = (alike, stopped, placed false good.rows bad.rows place first)
verdict_is good bad None None None alike stopped other = (alike, stopped, other)

-- what is computed of rows is computed of those that are the same
first_from-same : (strong : Bool) (found : Option Place) (goods bads other_goods other_bads : List (List Tern)) → goods ≡ other_goods →
    bads ≡ other_bads → found ≡ first_from strong 0 other_goods other_bads → MatchOption found (AreAlike strong goods bads) (IsFirstFrom strong 0 goods bads)
first_from-same strong found goods bads other_goods other_bads same_goods same_bads is =
    subst (λ (place : Option Place). MatchOption place (AreAlike strong goods bads) (IsFirstFrom strong 0 goods bads))
    (ap (λ (rows : List (List Tern)). first_from strong 0 rows bads) same_goods ∙ ap (first_from strong 0 other_goods) same_bads ∙ sym is)
    (first_from-is strong 0 goods bads)

-- what a comparison of a run's lines comes to is the verdict on its trace
pub verdicts_compared : VerdictsAreCompared
verdicts_compared good bad rows column lines same_goods same_bads =
    let end = hear_all compared (uncompared rows) (of_column column lines) in
    let comes = comes_to column lines rows 0 None None in
    verdict_is good bad end.strong bad.refused end.weak
    (first_from-same true end.strong good.rows bad.rows (states_of rows) (states_of (rows_of lines)) same_goods same_bads comes.strong_is) refl
    (first_from-same false end.weak good.rows bad.rows (states_of rows) (states_of (rows_of lines)) same_goods same_bads comes.weak_is)
