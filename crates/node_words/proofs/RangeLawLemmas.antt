-- A range is what the grammar says, and the range of a word is the first that begins in it.
use Rattle.std.proofs.Common.{◌≡◌, ℕ, zero, suc, ◌+◌, ◌<◌, ◌≤◌, true, false, not, cond, ◌==◌, ◌^◌, ◌&&◌, List, [], ◌∷◌, ◌++◌, length, take, drop, Option, Some, None, option_map, nat_lt, inl, inr, refl, sym, ap, ◌∙◌, subst, arith, if◌then◌else◌}
use Rattle.std.specs.Char.{is_ascii_digit}
use Rattle.std.specs.List.{list_all, position_or_len, prefix_len}
use Rattle.std.specs.Option.{option_and_then}
use Rattle.std.proofs.Math.Seq.{take-append_seam}
use Rattle.std.proofs.lemmas.Bool.{and_parts, cases_Bool, cases_lt, eq-eqb, eqb-true, le-leb, lt-leb}
use Rattle.std.proofs.lemmas.List.{drop_at, take-append-drop}
use Rattle.line_words.specs.Decimals.{decimal_of, value_of}
use Rattle.line_words.specs.Words.{is_word}
use Rattle.node_words.specs.declared.TheConstants.{MOST_NUMBER}
use Rattle.node_words.specs.Ranges.{RangeData, behind, between, closing, digits_of, first_range, here_or_later, is_no_digit, number_before, opening, past_digits, range_at, with_before, within_range}
use Rattle.node_words.specs.Laws.{BeginsRange, IsFirstRange, RangesAreFirst, RangesStandInBraces, WritesNumber}

behind-from : (own : ℕ) (text rest : List ℕ) → behind own text ≡ Some rest → text ≡ own ∷ rest
behind-from own [] rest found = absurd (cc)
behind-from own (byte ∷ text) rest found =
    elim (cases_Bool (byte == own)) [
      | inl same ↦
          let left : Some text ≡ Some rest = sym (ap (λ test. if test then Some text else None) same) ∙ found in
          let tail : text ≡ rest = cc in
          ap (λ b. b ∷ text) (eqb-true byte own same) ∙ ap (λ t. own ∷ t) tail
      | inr differ ↦ absurd (let none : None ≡ Some rest = sym (ap (λ test. if test then Some text else None) differ) ∙ found in cc)
    ]

behind-to : (own : ℕ) (rest : List ℕ) → behind own (own ∷ rest) ≡ Some rest
behind-to own rest = ap (λ test. if test then Some rest else None) (eq-eqb own own refl)

within-from : (number found : ℕ) → within_range number ≡ Some found → (number ≡ found) × (found ≤ MOST_NUMBER)
within-from number found is =
    elim (cases_lt MOST_NUMBER number) [
      | inl past ↦ absurd (let none : None ≡ Some found = sym (ap (λ test. if test then Some number else None) (lt-leb number MOST_NUMBER past)) ∙ is in cc)
      | inr small ↦
          let some : Some number ≡ Some found = sym (ap (λ test. if test then Some number else None) (le-leb number MOST_NUMBER small)) ∙ is in
          let same : number ≡ found = cc in
          (same, omega arith)
    ]

within-to : (number : ℕ) → number ≤ MOST_NUMBER → within_range number ≡ Some number
within-to number small = ap (λ test. if test then Some number else None) (le-leb number MOST_NUMBER small)

-- a number with its stop behind it, as it is read
number-from : (stop : ℕ) (text : List ℕ) (found : ℕ × List ℕ) → number_before stop text ≡ Some found →
    WritesNumber (digits_of text) found.0 × (text ≡ digits_of text ++ stop ∷ found.1)
number-from stop text found is = by (decimal_of (digits_of text)) (behind stop (past_digits text)) refl refl is
  where
    within : (number : ℕ) (small : Option ℕ) (rest : Option (List ℕ)) → decimal_of (digits_of text) ≡ Some number → within_range number ≡ small →
        behind stop (past_digits text) ≡ rest → option_and_then (λ number. option_map (λ after. (number, after)) rest) small ≡ Some found →
        WritesNumber (digits_of text) found.0 × (text ≡ digits_of text ++ stop ∷ found.1)
    within number None rest read small left made = absurd (cc)
    within number (Some own) None read small left made = absurd (cc)
    within number (Some own) (Some after) read small left made =
        let pair : (own, after) ≡ found = cc in
        let own_is : own ≡ found.0 = ap (λ (p : ℕ × List ℕ). p.0) pair in
        let after_is : after ≡ found.1 = ap (λ (p : ℕ × List ℕ). p.1) pair in
        let limit = within-from number own small in (
          record { writes = read ∙ ap Some (limit.0 ∙ own_is); small = omega (arith, limit.1) },
          sym (take-append-drop (position_or_len is_no_digit text) text)
              ∙ ap (λ rest. digits_of text ++ rest) (behind-from stop (past_digits text) after left ∙ ap (λ rest. stop ∷ rest) after_is),
        )

    by : (read : Option ℕ) (rest : Option (List ℕ)) → decimal_of (digits_of text) ≡ read → behind stop (past_digits text) ≡ rest →
        option_and_then (λ number. option_map (λ after. (number, after)) rest) (option_and_then within_range read) ≡ Some found →
        WritesNumber (digits_of text) found.0 × (text ≡ digits_of text ++ stop ∷ found.1)
    by None rest read left made = absurd (cc)
    by (Some number) rest read left made = within number (within_range number) rest read refl left made

-- digits that a stop ends
digits-end : (digits : List ℕ) (stop : ℕ) (rest : List ℕ) → list_all is_ascii_digit digits ≡ true → is_ascii_digit stop ≡ false →
    position_or_len is_no_digit (digits ++ stop ∷ rest) ≡ length digits
digits-end [] stop rest all other = ap (λ test. cond (not (not test)) (1 + prefix_len (λ x. not (is_no_digit x)) rest) 0) other
digits-end (digit ∷ digits) stop rest all other =
    let both = and_parts (is_ascii_digit digit) (list_all is_ascii_digit digits) all in
    let more : 1 + length digits ≡ suc (length digits) = omega arith in
    ap (λ test. cond (not (not test)) (1 + prefix_len (λ x. not (is_no_digit x)) (digits ++ stop ∷ rest)) 0) both.0
    ∙ ap (λ n. 1 + n) (digits-end digits stop rest both.1 other)
    ∙ more

all-digits : (digits : List ℕ) (number : ℕ) → decimal_of digits ≡ Some number → list_all is_ascii_digit digits ≡ true
all-digits digits number writes =
    elim (cases_Bool (is_word digits && list_all is_ascii_digit digits && nat_lt (value_of digits) (2 ^ 64))) [
      | inl passes ↦ (and_parts (is_word digits) (list_all is_ascii_digit digits) (and_parts (is_word digits && list_all is_ascii_digit digits) (nat_lt (value_of digits) (2 ^ 64)) passes).0).1
      | inr fails ↦ absurd (let none : None ≡ Some number = sym (ap (λ test. if test then Some (value_of digits) else None) fails) ∙ writes in cc)
    ]

number-to : (stop : ℕ) (digits rest : List ℕ) (number : ℕ) → is_ascii_digit stop ≡ false → WritesNumber digits number →
    number_before stop (digits ++ stop ∷ rest) ≡ Some (number, rest)
number-to stop digits rest number other is =
    let long = digits-end digits stop rest (all-digits digits number is.writes) other in
    let front : digits_of (digits ++ stop ∷ rest) ≡ digits = ap (λ n. take n (digits ++ stop ∷ rest)) long ∙ take-append_seam digits (stop ∷ rest) in
    let back : past_digits (digits ++ stop ∷ rest) ≡ stop ∷ rest = ap (λ n. drop n (digits ++ stop ∷ rest)) long ∙ drop_at digits (stop ∷ rest) (length digits) refl in
    ap (λ left. option_and_then (λ number. option_map (λ after. (number, after)) (behind stop left)) (option_and_then within_range (decimal_of (digits_of (digits ++ stop ∷ rest))))) back
    ∙ ap (λ text. option_and_then (λ number. option_map (λ after. (number, after)) (behind stop (stop ∷ rest))) (option_and_then within_range (decimal_of text))) front
    ∙ ap (λ read. option_and_then (λ number. option_map (λ after. (number, after)) (behind stop (stop ∷ rest))) (option_and_then within_range read)) is.writes
    ∙ ap (λ small. option_and_then (λ number. option_map (λ after. (number, after)) (behind stop (stop ∷ rest))) small) (within-to number is.small)
    ∙ ap (option_map (λ after. (number, after))) (behind-to stop rest)

range-from : (text : List ℕ) (first last : ℕ) (after : List ℕ) →
    range_at text ≡ Some (record { before = []; first = first; last = last; after = after }) → BeginsRange text first last after
range-from text first last after is = by (behind opening text) refl is
  where
    target : RangeData
    target = record { before = []; first = first; last = last; after = after }

    ends : (inside : List ℕ) (one : ℕ × List ℕ) (found : Option (ℕ × List ℕ)) → behind opening text ≡ Some inside → number_before between inside ≡ Some one →
        number_before closing one.1 ≡ found →
        option_map (λ other. record { before = []; first = one.0; last = other.0; after = other.1 }) found ≡ Some target → BeginsRange text first last after
    ends inside one None begun read found made = absurd (cc)
    ends inside one (Some other) begun read found made =
        let same : record { before = []; first = one.0; last = other.0; after = other.1 } ≡ target = cc in
        let first_is : one.0 ≡ first = ap (λ (r : RangeData). r.first) same in
        let last_is : other.0 ≡ last = ap (λ (r : RangeData). r.last) same in
        let after_is : other.1 ≡ after = ap (λ (r : RangeData). r.after) same in
        let from = number-from between inside one read in
        let to = number-from closing one.1 other found in
        record {
          one = digits_of inside;
          other = digits_of one.1;
          whole =
              behind-from opening text inside begun
              ∙ ap (λ rest. opening ∷ rest) (from.1 ∙ ap (λ rest. digits_of inside ++ between ∷ rest) (to.1 ∙ ap (λ rest. digits_of one.1 ++ closing ∷ rest) after_is));
          writes_first = subst (WritesNumber (digits_of inside)) first_is from.0;
          writes_last = subst (WritesNumber (digits_of one.1)) last_is to.0;
        }

    begins : (inside : List ℕ) (found : Option (ℕ × List ℕ)) → behind opening text ≡ Some inside → number_before between inside ≡ found →
        option_and_then (λ one. option_map (λ other. record { before = []; first = one.0; last = other.0; after = other.1 }) (number_before closing one.1)) found ≡ Some target →
        BeginsRange text first last after
    begins inside None begun read made = absurd (cc)
    begins inside (Some one) begun read made = ends inside one (number_before closing one.1) begun read refl made

    by : (found : Option (List ℕ)) → behind opening text ≡ found →
        option_and_then (λ inside. option_and_then (λ one. option_map
        (λ other. record { before = []; first = one.0; last = other.0; after = other.1 })
        (number_before closing one.1)) (number_before between inside)) found ≡ Some target → BeginsRange text first last after
    by None begun made = absurd (cc)
    by (Some inside) begun made = begins inside (number_before between inside) begun refl made

range-to : (text : List ℕ) (first last : ℕ) (after : List ℕ) → BeginsRange text first last after →
    range_at text ≡ Some (record { before = []; first = first; last = last; after = after })
range-to text first last after is =
    ap range_at is.whole
    ∙ ap (λ found. option_and_then (λ one. option_map (λ other. record { before = []; first = one.0; last = other.0; after = other.1 }) (number_before closing one.1)) found)
    (number-to between is.one (is.other ++ closing ∷ after) first refl is.writes_first)
    ∙ ap (option_map (λ other. record { before = []; first = first; last = other.0; after = other.1 })) (number-to closing is.other after last refl is.writes_last)

pub ranges-braces : RangesStandInBraces
ranges-braces text first last after = (range-from text first last after, range-to text first last after)

-- what begins at the start of a text has nothing before it
nothing-before : (text : List ℕ) (range : RangeData) → range_at text ≡ Some range → range.before ≡ []
nothing-before text range is = by (behind opening text) is
  where
    ends : (one : ℕ × List ℕ) (found : Option (ℕ × List ℕ)) →
        option_map (λ other. record { before = []; first = one.0; last = other.0; after = other.1 }) found ≡ Some range → range.before ≡ []
    ends one None made = absurd (cc)
    ends one (Some other) made =
        let same : record { before = []; first = one.0; last = other.0; after = other.1 } ≡ range = cc in
        sym (ap (λ (r : RangeData). r.before) same)

    begins : (found : Option (ℕ × List ℕ)) →
        option_and_then (λ one. option_map (λ other. record { before = []; first = one.0; last = other.0; after = other.1 }) (number_before closing one.1)) found ≡ Some range →
        range.before ≡ []
    begins None made = absurd (cc)
    begins (Some one) made = ends one (number_before closing one.1) made

    by : (found : Option (List ℕ)) →
        option_and_then (λ inside. option_and_then (λ one. option_map
        (λ other. record { before = []; first = one.0; last = other.0; after = other.1 })
        (number_before closing one.1)) (number_before between inside)) found ≡ Some range → range.before ≡ []
    by None made = absurd (cc)
    by (Some inside) made = begins (number_before between inside) made

pub ranges-first : RangesAreFirst
ranges-first [] range is = absurd (cc)
ranges-first (byte ∷ word) range is = by (range_at (byte ∷ word)) (first_range word) refl is (ranges-first word)
  where
    later_places : (found : RangeData) → IsFirstRange word found → range_at (byte ∷ word) ≡ None →
        (k : ℕ) → k < length (byte ∷ found.before) → range_at (drop k (byte ∷ word)) ≡ None
    later_places found earlier begun zero low = begun
    later_places found earlier begun (suc k) low = earlier.none_earlier k (omega arith)

    by : (here later : Option RangeData) → range_at (byte ∷ word) ≡ here → here_or_later byte here later ≡ Some range →
        ((found : RangeData) → later ≡ Some found → IsFirstRange word found) → IsFirstRange (byte ∷ word) range
    by (Some own) later begun made first =
        let same : own ≡ range = cc in
        let found : range_at (byte ∷ word) ≡ Some range = begun ∙ ap Some same in
        let none = nothing-before (byte ∷ word) range found in
        record {
          rest = byte ∷ word;
          whole = ap (λ before. before ++ byte ∷ word) (sym none);
          begins = found ∙ ap (λ before. Some (record { before = before; first = range.first; last = range.last; after = range.after })) none;
          none_earlier = λ k low. absurd (omega (arith, ap length none));
        }
    by None None begun made first = absurd (cc)
    by None (Some found) begun made first =
        let same : with_before (byte ∷ []) found ≡ range = cc in
        let earlier = first found refl in
        subst (IsFirstRange (byte ∷ word)) same
        (record {
          rest = earlier.rest;
          whole = ap (λ others. byte ∷ others) earlier.whole;
          begins = earlier.begins;
          none_earlier = later_places found earlier begun;
        })
