-- Numbers with a point: the number that one more digit writes, if a word is cut, and that what is read of a word is what the grammar
-- gives it.
use Rattle.std.proofs.Common.{◌≡◌, ◌↔◌, ℕ, suc, ◌+◌, ◌-◌, ◌*◌, ◌^◌, ◌<◌, ◌==◌, ◌&&◌, Bool, true, false, not, All, List, [], ◌∷◌, ◌++◌, length, take, drop, get_or, min, Option, Some, None, inl, inr, refl, sym, ap, ap₂, subst, ◌∙◌, arith, length-append, eqb-true}
use Rattle.std.specs.Prelude.{if◌then◌else◌}
use Rattle.std.specs.Char.{is_ascii_digit}
use Rattle.std.specs.List.{list_all, before_first, after_first, position_or_len}
use Rattle.std.proofs.Math.Nat.{pow-suc, mul_assoc}
use Rattle.std.proofs.lemmas.Bool.{cond-true, and_from}
use Rattle.std.proofs.lemmas.Bool.Decides.{nat_tests}
use Rattle.std.proofs.lemmas.List.{take_all, take_more, take-append-le, drop_all, get_or_append_left}
use Rattle.std.proofs.lemmas.List.Elements.{All-nil, All-cons, All-head, All-tail, All-weaker, All-get_or}
use Rattle.std.proofs.Math.Seq.{get_or-append_seam}
use Rattle.std.proofs.lemmas.List.Sums.{position_or_len_is}
use Rattle.line_words.specs.declared.points.TheConstants.{MOST_THOUSANDTHS}
use Rattle.line_words.specs.Decimals.{value_of}
use Rattle.line_words.specs.Points.{is_point, point, are_number, thousandths_by, thousandths_in, thousandths_of, AreDigits, WritesThousandths, WritesUpTo}
use Rattle.line_words.specs.Points.WritesThousandths.{plain, pointed}
use Rattle.line_words.proofs.CutLemmas.{cut_or_whole}

-- ---- one more digit

-- the number with one more digit behind is ten times the number, and that digit
value_of-push : (digits : List ℕ) (digit : ℕ) → value_of (digits ++ digit ∷ []) ≡ value_of digits * 10 + (digit - 48)
value_of-push [] digit = omega arith
value_of-push (first ∷ digits) digit =
    let p : ℕ = 10 ^ length digits in
    let size : length (digits ++ digit ∷ []) ≡ suc (length digits) = omega (arith, length-append digits (digit ∷ [])) in
    let weight : 10 ^ length (digits ++ digit ∷ []) ≡ p * 10 = ap (λ n. 10 ^ n) size ∙ pow-suc 10 (length digits) in
    let front : (first - 48) * 10 ^ length (digits ++ digit ∷ []) ≡ (first - 48) * p * 10 =
    ap (λ n. (first - 48) * n) weight ∙ sym (mul_assoc (first - 48) p 10) in
    let rest = value_of-push digits digit in
    omega arith

-- if the number is past the most, it stays so
capped_more : (value digit : ℕ) → min (min value MOST_THOUSANDTHS * 10 + digit) MOST_THOUSANDTHS ≡ min (value * 10 + digit) MOST_THOUSANDTHS
capped_more value digit = omega arith

-- so the number of the digits up to a place is known from that of those before it
pub capped_step : (digits : List ℕ) (place value digit next : ℕ) → place < length digits → value ≡ min (value_of (take place digits)) MOST_THOUSANDTHS
    → digit ≡ get_or digits place 0 - 48 → next ≡ min (value * 10 + digit) MOST_THOUSANDTHS
    → next ≡ min (value_of (take (place + 1) digits)) MOST_THOUSANDTHS
capped_step digits place value digit next inside so_far read is =
    let last : ℕ = get_or digits place 0 in
    let more : value_of (take (place + 1) digits) ≡ value_of (take place digits) * 10 + (last - 48) =
    ap value_of (take_more digits place 0 inside) ∙ value_of-push (take place digits) last in
    is ∙ ap₂ (λ v d. min (v * 10 + d) MOST_THOUSANDTHS) so_far read ∙ capped_more (value_of (take place digits)) (last - 48)
    ∙ ap (λ v. min v MOST_THOUSANDTHS) (sym more)

-- ---- if a word is cut

-- the first point stands behind the bytes before it
point_at : (before after : List ℕ) (stop : ℕ) → All (λ byte. is_point byte ≡ false) before → is_point stop ≡ true
    → position_or_len is_point (before ++ stop ∷ after) ≡ length before
point_at before after stop none passes =
    let size = length-append before (stop ∷ after) in
    position_or_len_is is_point (before ++ stop ∷ after) (length before) 0 (omega arith)
    (λ k low. ap is_point (get_or_append_left before (stop ∷ after) 0 k low) ∙ All-get_or (λ byte. is_point byte ≡ false) before k 0 low none)
    (λ _. ap is_point (get_or-append_seam before stop after 0) ∙ passes)

-- bytes without a point have none
no_point : (word : List ℕ) → All (λ byte. is_point byte ≡ false) word → position_or_len is_point word ≡ length word
no_point word none =
    position_or_len_is is_point word (length word) 0 (omega arith)
    (λ k low. All-get_or (λ byte. is_point byte ≡ false) word k 0 low none) (λ past. absurd (omega arith))

-- a word that is cut at its first point is read by the parts
pub thousandths_of-cut : (before after : List ℕ) (stop : ℕ) → All (λ byte. is_point byte ≡ false) before → is_point stop ≡ true
    → thousandths_of (before ++ stop ∷ after) ≡ thousandths_by before after
thousandths_of-cut before after stop none passes =
    let at = point_at before after stop none passes in
    let left : before_first is_point (before ++ stop ∷ after) ≡ before =
    ap (λ n. take n (before ++ stop ∷ after)) at ∙ take_front before (stop ∷ after) in
    let right : after_first is_point (before ++ stop ∷ after) ≡ after =
    ap (λ n. drop (n + 1) (before ++ stop ∷ after)) at ∙ drop_past before stop after in
    ap₂ thousandths_by left right
  where
    take_front : (xs ys : List ℕ) → take (length xs) (xs ++ ys) ≡ xs
    take_front xs ys = take-append-le (length xs) xs ys (omega arith) ∙ take_all (length xs) xs (omega arith)

    drop_past : (xs : List ℕ) (y : ℕ) (ys : List ℕ) → drop (length xs + 1) (xs ++ y ∷ ys) ≡ ys
    drop_past [] y ys = refl
    drop_past (x ∷ xs) y ys = rw (let e : length (x ∷ xs) + 1 ≡ suc (length xs + 1) = omega arith in e) (drop_past xs y ys)

-- and one without a point as a whole part
pub thousandths_of-whole : (word : List ℕ) → All (λ byte. is_point byte ≡ false) word → thousandths_of word ≡ thousandths_by word []
thousandths_of-whole word none =
    let at = no_point word none in
    let left : before_first is_point word ≡ word = ap (λ n. take n word) at ∙ take_all (length word) word (omega arith) in
    let right : after_first is_point word ≡ [] = drop_all (position_or_len is_point word + 1) word (omega arith) in
    ap₂ thousandths_by left right

-- ---- the grammar

-- digits are no points
digit_no_point : (byte : ℕ) → is_ascii_digit byte ≡ true → is_point byte ≡ false
digit_no_point byte digit = grind (arith, nat_tests)

digits_no_point : (digits : List ℕ) → AreDigits digits → All (λ byte. is_point byte ≡ false) digits
digits_no_point digits are =
    All-weaker (λ byte. is_ascii_digit byte ≡ true) (λ byte. is_point byte ≡ false) digit_no_point digits are

-- each byte passes where all do
digits_from : (digits : List ℕ) → list_all is_ascii_digit digits ≡ true → AreDigits digits
digits_from [] all = All-nil (λ byte. is_ascii_digit byte ≡ true)
digits_from (byte ∷ digits) all = by (is_ascii_digit byte) refl all (λ rest. digits_from digits rest)
  where
    by : (here : Bool) → is_ascii_digit byte ≡ here → here && list_all is_ascii_digit digits ≡ true
        → (list_all is_ascii_digit digits ≡ true → AreDigits digits) → AreDigits (byte ∷ digits)
    by true is rest from = All-cons (λ b. is_ascii_digit b ≡ true) byte digits is (from rest)
    by false is rest from = absurd (cc)

digits_all : (digits : List ℕ) → AreDigits digits → list_all is_ascii_digit digits ≡ true
digits_all [] are = refl
digits_all (byte ∷ digits) are =
    and_from (is_ascii_digit byte) (list_all is_ascii_digit digits) (All-head (λ b. is_ascii_digit b ≡ true) byte digits are)
    (digits_all digits (All-tail (λ b. is_ascii_digit b ≡ true) byte digits are))

-- the parts of a number
record AreNumber (whole decimals : List ℕ) : Type 0 where
  some : 0 < length whole + length decimals
  front : AreDigits whole
  back : AreDigits decimals

number_from : (whole decimals : List ℕ) → are_number whole decimals ≡ true → AreNumber whole decimals
number_from whole decimals is =
    by (length whole + length decimals == 0) (list_all is_ascii_digit whole) (list_all is_ascii_digit decimals) refl refl refl is
  where
    by : (none front back : Bool) → (length whole + length decimals == 0) ≡ none → list_all is_ascii_digit whole ≡ front
        → list_all is_ascii_digit decimals ≡ back → not none && (front && back) ≡ true → AreNumber whole decimals
    by false true true some front back is = record {
      some = grind (arith, nat_tests);
      front = digits_from whole front;
      back = digits_from decimals back;
    }
    by true front back some are_front are_back is = absurd (cc)
    by false true false some front back is = absurd (cc)
    by false false back some front are_back is = absurd (cc)

number_is : (whole decimals : List ℕ) → AreNumber whole decimals → are_number whole decimals ≡ true
number_is whole decimals is =
    let some = is.some in
    let count : (length whole + length decimals == 0) ≡ false = grind (arith, nat_tests) in
    and_from (not (length whole + length decimals == 0)) (list_all is_ascii_digit whole && list_all is_ascii_digit decimals) (ap not count)
    (and_from (list_all is_ascii_digit whole) (list_all is_ascii_digit decimals) (digits_all whole is.front) (digits_all decimals is.back))

-- what is read of parts is what they write
read_by : (whole decimals : List ℕ) (n : ℕ) → thousandths_by whole decimals ≡ Some n
    → AreNumber whole decimals × (n ≡ min (thousandths_in whole decimals) MOST_THOUSANDTHS)
read_by whole decimals n read = by (are_number whole decimals) refl read
  where
    by : (is : Bool) → are_number whole decimals ≡ is
        → (if is then Some (min (thousandths_in whole decimals) MOST_THOUSANDTHS) else None) ≡ Some n
        → AreNumber whole decimals × (n ≡ min (thousandths_in whole decimals) MOST_THOUSANDTHS)
    by true is read = (number_from whole decimals is, cc)
    by false is read = absurd (cc)

written_by : (whole decimals : List ℕ) → AreNumber whole decimals
    → thousandths_by whole decimals ≡ Some (min (thousandths_in whole decimals) MOST_THOUSANDTHS)
written_by whole decimals is = cond-true (are_number whole decimals) _ _ (number_is whole decimals is)

-- what is read of a word is written by it
reads : (word : List ℕ) (n : ℕ) → thousandths_of word ≡ Some n → WritesUpTo word n
reads word n read = elim (cut_or_whole is_point word) [
  | inl parts ↦
      let before = parts.0 in
      let after = parts.1 in
      let cut = parts.2 in
      let stop : cut.stop ≡ point = eqb-true cut.stop point cut.passes in
      let whole : word ≡ before ++ point ∷ after = cut.whole ∙ ap (λ byte. before ++ byte ∷ after) stop in
      let by = read_by before after n
      (sym (thousandths_of-cut before after point cut.none_before refl) ∙ ap thousandths_of (sym whole) ∙ read) in
      subst (λ bytes. WritesUpTo bytes n) (sym whole) (record {
        whole = thousandths_in before after;
        writes = pointed before after by.0.some by.0.front by.0.back;
        least = by.1;
      })
  | inr none ↦
      let by = read_by word [] n (sym (thousandths_of-whole word none) ∙ read) in
      record {
        whole = thousandths_in word [];
        writes = plain word (let some = by.0.some in omega arith) by.0.front;
        least = by.1;
      }
]

-- and what a word writes is read of it
writes_read : (word : List ℕ) (whole : ℕ) → WritesThousandths word whole → thousandths_of word ≡ Some (min whole MOST_THOUSANDTHS)
writes_read word whole (plain digits some are) =
    thousandths_of-whole digits (digits_no_point digits are)
    ∙ written_by digits [] (record { some = omega arith; front = are; back = All-nil (λ byte. is_ascii_digit byte ≡ true) })
writes_read word whole (pointed digits decimals some front back) =
    thousandths_of-cut digits decimals point (digits_no_point digits front) refl
    ∙ written_by digits decimals (record { some = some; front = front; back = back })

pub read_as_written : {word : List ℕ} {read : Option ℕ} → read ≡ thousandths_of word → (n : ℕ) → (read ≡ Some n) ↔ WritesUpTo word n
read_as_written {word} {read} is n = (
  λ some. reads word n (sym is ∙ some),
  λ writes. is ∙ writes_read word writes.whole writes.writes ∙ ap Some (sym writes.least),
)
