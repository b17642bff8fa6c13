-- Valuations as they are told: all variables or those that are 1, each by its pair of a name and a truth value.
use Rattle.std.proofs.Common.{◌≡◌, ℕ, zero, suc, ◌<◌, Bool, true, false, not, ◌&&◌, ◌||◌, ◌==◌, List, [], ◌∷◌, ◌++◌, length, get_or, min, filter, nat_le, inl, inr, refl, sym, ap, ◌∙◌, append-nil, append_assoc, arith, if◌then◌else◌}
use Rattle.std.specs.Prelude.{◌⊎◌, Result, Ok, Err, OnOk, codes, zip}
use Rattle.std.specs.List.{flat_map, list_any}
use Rattle.std.proofs.lemmas.Bool.Decides.{nat_tests}
use Rattle.std.proofs.lemmas.List.{same_lists}
use Rattle.std.proofs.lemmas.List.FromFn.{get_or-map-range_with_len, length-map-range_with_len}
use Rattle.std.proofs.lemmas.Slice.Zip.{length-zip}
use Rattle.decision_graph.specs.Meaning.{assigned}
use Rattle.truth_makers.specs.Valuations.{column_of, valuation_of}
use Rattle.truth_makers.proofs.SymbolLemmas.{valuation_of-column}
use Rattle.symbol_meaning.specs.Readings.{truths_in}
use Rattle.symbol_meaning.specs.Told.{most_told, ones_text, valuation_text, variable_text, where_text}
use Rattle.symbol_told.specs.Valuations.{are_some, dash_unless, is_one, one_text}

-- ` where` stands there if there are variables
pub where_by : (all : List (List ℕ × Bool)) → where_text all ≡ (if are_some all then codes " where" ++ valuation_text all else [])
where_by [] = refl
where_by (own ∷ others) = refl

-- there are variables if there are names and truth values
pub some_pairs : (names : List (List ℕ)) (truths : List Bool) → are_some (zip names truths) ≡ (not (length names == 0) && not (length truths == 0))
some_pairs [] truths = refl
some_pairs (name ∷ names) [] = grind (arith, nat_tests)
some_pairs (name ∷ names) (truth ∷ truths) = grind (arith, nat_tests)

-- they are as many as there are of the fewer
pub few_pairs : (names : List (List ℕ)) (truths : List Bool) →
    nat_le (length (zip names truths)) most_told ≡ nat_le (min (length names) (length truths)) most_told
few_pairs names truths = ap (λ count. nat_le count most_told) (length-zip names truths)

-- one of two holds, or a third
pub or_later : (one other third : Bool) → ((one || other) || third) ≡ (one || (other || third))
or_later true other third = refl
or_later false other third = refl

pub or_none : (one : Bool) → (one || false) ≡ one
or_none true = refl
or_none false = refl

-- those that are 1, in order
kept : (all : List (List ℕ × Bool)) → flat_map variable_text (filter is_one all) ≡ flat_map one_text all
kept [] = refl
kept ((name, true) ∷ others) = ap (λ (text : List ℕ). variable_text (name, true) ++ text) (kept others)
kept ((name, false) ∷ others) = kept others

-- they are told one by one, and ` -` if there is none
pub ones_parted : (all : List (List ℕ × Bool)) → ones_text (filter is_one all) ≡ flat_map one_text all ++ dash_unless (list_any is_one all)
ones_parted [] = refl
ones_parted ((name, true) ∷ others) =
    ap (λ (text : List ℕ). variable_text (name, true) ++ text) (kept others)
    ∙ sym (append-nil (variable_text (name, true) ++ flat_map one_text others))
ones_parted ((name, false) ∷ others) = ones_parted others

-- so it is put, piece by piece
pub ones_put : {E : Type 0} (old mid new : List ℕ) (some : Bool) (all : List (List ℕ × Bool)) (result : Result (Unit {0}) E) →
    mid ≡ old ++ flat_map one_text all → some ≡ list_any is_one all → OnOk result (new ≡ mid ++ dash_unless some) →
    OnOk result (new ≡ old ++ ones_text (filter is_one all))
ones_put old mid new some all (Ok _) put found dashed =
    dashed ∙ ap (λ (text : List ℕ). text ++ dash_unless some) put ∙ append_assoc old (flat_map one_text all) (dash_unless some)
    ∙ ap (λ (one : Bool). old ++ (flat_map one_text all ++ dash_unless one)) found
    ∙ ap (λ (text : List ℕ). old ++ text) (sym (ones_parted all))
ones_put old mid new some all (Err fault) put found dashed = tt

-- without names, or without truth values, there are no pairs
no_pairs : (names : List (List ℕ)) (truths : List Bool) → (names ≡ []) ⊎ (truths ≡ []) → zip names truths ≡ []
no_pairs [] truths none = refl
no_pairs (name ∷ names) [] none = refl
no_pairs (name ∷ names) (truth ∷ truths) (inl none) = absurd (cc)
no_pairs (name ∷ names) (truth ∷ truths) (inr none) = absurd (cc)

-- if no pairs are left, the text that is there is all
pub text_done : (text : List ℕ × Bool → List ℕ) (bytes all : List ℕ) (names : List (List ℕ)) (truths : List Bool) →
    bytes ++ flat_map text (zip names truths) ≡ all → (names ≡ []) ⊎ (truths ≡ []) → bytes ≡ all
text_done text bytes all names truths are none =
    sym (append-nil bytes) ∙ ap (λ (left : List (List ℕ × Bool)). bytes ++ flat_map text left) (sym (no_pairs names truths none)) ∙ are

-- and what was found is found
pub some_done : (some all : Bool) (names : List (List ℕ)) (truths : List Bool) → (some || list_any is_one (zip names truths)) ≡ all →
    (names ≡ []) ⊎ (truths ≡ []) → some ≡ all
some_done some all names truths are none =
    sym (or_none some) ∙ ap (λ (left : List (List ℕ × Bool)). some || list_any is_one left) (sym (no_pairs names truths none)) ∙ are

-- the truth values in the column of a valuation are its own
read_at : (vars : List Bool) (k : ℕ) (d : Bool) → k < length vars → get_or vars k false ≡ get_or vars k d
read_at [] k d inside = absurd (omega (arith, inside))
read_at (own ∷ vars) zero d inside = refl
read_at (own ∷ vars) (suc k) d inside = read_at vars k d (omega (arith, inside))

pub truths_of_column : (variables : ℕ) (vars : List Bool) → length vars ≡ variables → truths_in variables (column_of (assigned vars) variables) ≡ vars
truths_of_column variables vars count =
    let column = column_of (assigned vars) variables in
    same_lists (truths_in variables column) vars (length-map-range_with_len (valuation_of variables column) 0 variables ∙ sym count) (λ k d inside.
    let known : k < variables = omega (arith, inside, length-map-range_with_len (valuation_of variables column) 0 variables) in
    get_or-map-range_with_len (valuation_of variables column) 0 variables k k d known (omega arith)
    ∙ valuation_of-column variables (assigned vars) k known ∙ read_at vars k d (omega (arith, known, count)))
