-- Numbers of texts: as many texts are in use as the parts have distinct ones.
use Rattle.std.proofs.Common.{◌≡◌, ◌≢◌, ℕ, zero, suc, ◌+◌, ◌-◌, ◌<◌, ◌≤◌, Bool, true, false, not, cond, eqb, ◌||◌, inl, inr, List, [], ◌∷◌, ◌++◌, length, map, get_or, All, Option, None, Some, refl, sym, ap, ap₂, subst, ◌∙◌, append_assoc, append-nil, arith, nat_lt, eq-eqb}
use Rattle.std.specs.Prelude.{slice_get, slice_index, slice_index_or, slice_set, count_by, replicate, position}
use Rattle.std.specs.Option.{option_and_then, IfSome}
use Rattle.std.specs.List.{IsDistinct}
use Rattle.std.proofs.lemmas.Bool.{cases_eq, false_from_ne_true, lt-ltb}
use Rattle.std.proofs.lemmas.Bool.Decides.{Decides-eqb}
use Rattle.std.proofs.lemmas.List.{ext_get_or, get_or-set_same, get_or-set_other, length-set, length_push, length-map, map-append, map-set}
use Rattle.std.proofs.lemmas.List.Elements.{All-nil, All-cons, All-head, All-tail}
use Rattle.std.proofs.lemmas.List.Quantifiers.{position-Some}
use Rattle.std.proofs.lemmas.List.Sums.{sum_by_push, sum_by-cons, sum_by-set, count_by-le-length}
use Rattle.std.proofs.lemmas.Option.{slice_get_read}
use Rattle.group_text.specs.Texts.{GroupTextData}
use Rattle.group_text.specs.Compared.{same_text, same_text_decides}
use Rattle.group_text.specs.FirstTexts.{is_among, first_texts, new_texts}
use Rattle.analysis_cache.proofs.NewTextLemmas.{is_among-first, first_texts-append}
use Rattle.kept_parts.specs.Uses.{UsesData, IsNumbered, texts_used, some_texts, count_distinct, CountsUses, used, is_number, first_use, last_use, AreCounted}
use Rattle.kept_parts.proofs.UseLemmas.{CountsUses-more, used-more, CountsUses-none, used-none, same_place, used-again, used-first}
use Rattle.list_facts.proofs.PlaceLemmas.{slice_get-grown}
use Rattle.kept_parts.proofs.PlaceLemmas.{there, among_at}

-- a text that is among others stands at some place
place_among : (texts : List GroupTextData) (text : GroupTextData) → is_among texts text ≡ true → (i : ℕ) × (slice_get texts i ≡ Some text)
place_among [] text is = absurd cc
place_among (first ∷ texts) text is = by (same_text text first) refl is (place_among texts text)
  where
    by : (same : Bool) → same_text text first ≡ same → (same || is_among texts text) ≡ true →
        (is_among texts text ≡ true → (i : ℕ) × (slice_get texts i ≡ Some text)) → (i : ℕ) × (slice_get (first ∷ texts) i ≡ Some text)
    by true same is later = (0, ap Some (sym ((same_text_decides text first).0 same)))
    by false same is later = let (i, here) = later is in (suc i, here)

-- counts of all of some texts, among which as many are in use as there are distinct ones
counts_behind : (known : List GroupTextData) → IsDistinct same_text known → (front texts : List GroupTextData) (counts : List ℕ) →
    CountsUses known front counts → used counts ≡ length (first_texts front) → All (λ text. is_among known text ≡ true) texts →
    (all : List ℕ) × CountsUses known (front ++ texts) all × (used all ≡ length (first_texts (front ++ texts)))
counts_behind known apart front [] counts counted distinct among = (
  counts,
  subst (λ list. CountsUses known list counts) (sym (append-nil front)) counted,
  distinct ∙ ap (λ list. length (first_texts list)) (sym (append-nil front)),
)
counts_behind known apart front (text ∷ texts) counts counted distinct among =
    let P : GroupTextData → Type 0 = λ one. is_among known one ≡ true in
    let (place, stands) = place_among known text (All-head P text texts among) in
    let next = slice_set counts place (slice_index counts place + 1) in
    let (all, all_counted, all_distinct) = counts_behind known apart (front ++ text ∷ []) texts next
    (CountsUses-more known front counts place text apart stands counted) (used-more known front counts place text apart stands counted distinct)
    (All-tail P text texts among) in (
      all,
      subst (λ list. CountsUses known list all) (append_assoc front (text ∷ []) texts) all_counted,
      all_distinct ∙ ap (λ list. length (first_texts list)) (append_assoc front (text ∷ []) texts),
    )

-- as many counts aren't 0 as there are distinct texts
used_is_distinct : (known texts : List GroupTextData) (counts : List ℕ) → IsDistinct same_text known →
    All (λ text. is_among known text ≡ true) texts → CountsUses known texts counts → used counts ≡ length (first_texts texts)
used_is_distinct known texts counts apart among counted =
    let (all, all_counted, all_distinct) =
    counts_behind known apart [] texts (replicate (length known) 0) (CountsUses-none known) (used-none (length known)) among in
    let same : counts ≡ all = ext_get_or 0 counts all (counted.count ∙ sym all_counted.count) (λ i inside.
    let (text, here) = there known i (omega (arith, inside, counted.count)) in
    counted.each i text here ∙ sym (all_counted.each i text here)) in
    ap used same ∙ all_distinct

module _ (known : List GroupTextData) where
  abbrev text_at : Option ℕ → Option GroupTextData
  text_at = option_and_then (slice_get known)

  abbrev Inside : List (Option ℕ) → Type 0
  Inside numbers = (k number : ℕ) → slice_index_or numbers k None ≡ Some number → number < length known

  -- the texts that are used are known
  pub used_known : (numbers : List (Option ℕ)) → Inside numbers → All (λ text. is_among known text ≡ true) (some_texts (map text_at numbers))
  used_known [] inside = All-nil (λ text. is_among known text ≡ true)
  used_known (None ∷ numbers) inside = used_known numbers (λ k number is. inside (suc k) number is)
  used_known (Some number ∷ numbers) inside =
      let (text, here) = there known number (inside 0 number refl) in
      let later = used_known numbers (λ k other is. inside (suc k) other is) in
      rw here (All-cons (λ one. is_among known one ≡ true) text (some_texts (map text_at numbers)) (among_at known number text here) later)

  -- a text is used as often as its number is
  pub count_of_numbers : IsDistinct same_text known → (number : ℕ) (text : GroupTextData) → slice_get known number ≡ Some text →
      (numbers : List (Option ℕ)) → Inside numbers →
      count_by (is_number number) numbers ≡ count_by (same_text text) (some_texts (map text_at numbers))
  count_of_numbers apart number text here [] inside = refl
  count_of_numbers apart number text here (None ∷ numbers) inside =
      let worth : Option ℕ → ℕ = λ one. cond (is_number number one) 1 0 in
      omega (arith, sum_by-cons worth None numbers, count_of_numbers apart number text here numbers (λ k other is. inside (suc k) other is))
  count_of_numbers apart number text here (Some other ∷ numbers) inside =
      let worth : Option ℕ → ℕ = λ one. cond (is_number number one) 1 0 in
      let worth_text : GroupTextData → ℕ = λ one. cond (same_text text one) 1 0 in
      let (found, at_other) = there known other (inside 0 other refl) in
      let later = count_of_numbers apart number text here numbers (λ k one is. inside (suc k) one is) in
      let rest = some_texts (map text_at numbers) in
      let one : worth (Some other) ≡ worth_text found = ap (λ b. cond b 1 0) (alike other found at_other) in
      rw at_other (omega (arith, sum_by-cons worth (Some other) numbers, sum_by-cons worth_text found rest, one, later))
    where
      alike : (other : ℕ) (found : GroupTextData) → slice_get known other ≡ Some found → eqb number other ≡ same_text text found
      alike other found at_other =
          elim (cases_eq number other) [
            | inl same ↦
                let both : Some text ≡ Some found = sym here ∙ (ap (slice_get known) same ∙ at_other) in
                let is : text ≡ found = cc in
                eq-eqb number other same ∙ sym ((same_text_decides text found).1 is)
            | inr differs ↦
                let apart_text : text ≢ found = λ is. differs (same_place known apart number other found (here ∙ ap Some is) at_other) in
                false_from_ne_true (eqb number other) (λ is. differs ((Decides-eqb number other).0 is))
                ∙ sym (false_from_ne_true (same_text text found) (λ is. apart_text ((same_text_decides text found).0 is)))
          ]

-- the counts of numbers are those of texts
pub distinct_is : (known : List GroupTextData) (counts : List ℕ) (numbers : List (Option ℕ)) (distinct : ℕ) →
    AreCounted known counts numbers distinct → distinct ≡ count_distinct (texts_used (record { known = known; numbers = numbers }))
distinct_is known counts numbers distinct are =
    let texts = some_texts (map (text_at known) numbers) in
    let counted : CountsUses known texts counts = record {
      count = are.counted;
      each = λ number text here. are.each number ∙ count_of_numbers known are.apart number text here numbers are.inside;
    } in
    are.some ∙ used_is_distinct known texts counts are.apart (used_known known numbers are.inside) counted

-- a count is at most the number of parts
pub count_few : (known : List GroupTextData) (counts : List ℕ) (numbers : List (Option ℕ)) (distinct number : ℕ) →
    AreCounted known counts numbers distinct → slice_index counts number ≤ length numbers
count_few known counts numbers distinct number are = omega (arith, are.each number, count_by-le-length (is_number number) numbers)

-- one text more is known, which no part has
pub AreCounted-known : (known : List GroupTextData) (counts : List ℕ) (numbers : List (Option ℕ)) (distinct : ℕ) (text : GroupTextData) →
    AreCounted known counts numbers distinct → IsDistinct same_text (known ++ text ∷ []) →
    AreCounted (known ++ text ∷ []) (counts ++ 0 ∷ []) numbers distinct
AreCounted-known known counts numbers distinct text are apart =
    let worth : ℕ → ℕ = λ n. cond (nat_lt 0 n) 1 0 in
    let longer : length (known ++ text ∷ []) ≡ length known + 1 = length_push known text in
    record {
      apart = apart;
      counted = length_push counts 0 ∙ (ap (λ n. n + 1) are.counted ∙ sym longer);
      inside = λ k number is. omega (arith, are.inside k number is, longer);
      each = λ number. zero_behind counts number ∙ are.each number;
      some = omega (arith, are.some, sum_by_push worth counts 0);
    }
  where
    zero_behind : (xs : List ℕ) (i : ℕ) → slice_index (xs ++ 0 ∷ []) i ≡ slice_index xs i
    zero_behind [] zero = refl
    zero_behind [] (suc i) = refl
    zero_behind (x ∷ xs) zero = refl
    zero_behind (x ∷ xs) (suc i) = zero_behind xs i

-- if further texts are known, each part has the text that it had
pub used_known_more : (old new : UsesData) → (inside : (k number : ℕ) → slice_index_or old.numbers k None ≡ Some number → number < length old.known) →
    IsNumbered old new → texts_used new ≡ texts_used old
used_known_more old new inside more =
    ap (λ numbers. map (option_and_then (slice_get new.known)) numbers) more.numbers
    ∙ (ap (λ known. map (option_and_then (slice_get known)) old.numbers) more.known ∙ each old.numbers inside)
  where
    each : (numbers : List (Option ℕ)) → ((k number : ℕ) → slice_index_or numbers k None ≡ Some number → number < length old.known) →
        map (option_and_then (slice_get (old.known ++ more.more))) numbers ≡ map (option_and_then (slice_get old.known)) numbers
    each [] inside = refl
    each (None ∷ numbers) inside = ap (λ rest. None ∷ rest) (each numbers (λ k number is. inside (suc k) number is))
    each (Some number ∷ numbers) inside =
        let (text, here) = there old.known number (inside 0 number refl) in
        let same : slice_get (old.known ++ more.more) number ≡ slice_get old.known number =
        slice_get-grown old.known more.more number text here ∙ sym here in
        ap₂ (λ first rest. first ∷ rest) same (each numbers (λ k other is. inside (suc k) other is))

-- if a text is found, it stands
pub position-text : (texts : List GroupTextData) (text : GroupTextData) (place : ℕ) → Some place ≡ position (same_text text) texts →
    slice_get texts place ≡ Some text
position-text texts text place is =
    let (inside, same, first) = position-Some (same_text text) texts place text (sym is) in
    slice_get_read texts (length texts) place text refl inside ((same_text_decides text (get_or texts place text)).0 same)

-- each number that a part may have is below a bound
pub some_below : (slot : Option ℕ) (bound : ℕ) → ((number : ℕ) → slot ≡ Some number → number < bound) → IfSome slot (λ number. number < bound)
some_below None bound all = tt
some_below (Some number) bound all = all number refl

-- the text with a part's number is the part's text
pub text_of_number : (uses : UsesData) (texts : List GroupTextData) (i number : ℕ) → texts_used uses ≡ map Some texts → i < length uses.numbers →
    slice_index_or uses.numbers i None ≡ Some number → slice_get uses.known number ≡ slice_get texts i
text_of_number uses = each uses.numbers
  where
    each : (numbers : List (Option ℕ)) (texts : List GroupTextData) (i number : ℕ) →
        map (option_and_then (slice_get uses.known)) numbers ≡ map Some texts → i < length numbers →
        slice_index_or numbers i None ≡ Some number → slice_get uses.known number ≡ slice_get texts i
    each [] texts i number same inside is = absurd (omega (arith, inside))
    each (slot ∷ numbers) [] i number same inside is = absurd cc
    each (slot ∷ numbers) (text ∷ texts) zero number same inside is =
        let first : option_and_then (slice_get uses.known) slot ≡ Some text = cc in
        ap (option_and_then (slice_get uses.known)) (sym is) ∙ first
    each (slot ∷ numbers) (text ∷ texts) (suc i) number same inside is =
        let rest : map (option_and_then (slice_get uses.known)) numbers ≡ map Some texts = cc in
        each numbers texts i number rest (omega (arith, inside)) is

-- a text that is known adds none
pub known_again : (known : List GroupTextData) (text : GroupTextData) → is_among known text ≡ true → new_texts known (text ∷ []) ≡ []
known_again known text is = ap (λ b. cond (not b) (text ∷ []) []) is

-- and one that isn't adds itself
pub known_first : (known : List GroupTextData) (text : GroupTextData) → is_among known text ≡ false → new_texts known (text ∷ []) ≡ text ∷ []
known_first known text is = ap (λ b. cond (not b) (text ∷ []) []) is

-- the distinct ones of some texts and of one more
pub first_texts-more : (front : List GroupTextData) (text : GroupTextData) →
    first_texts front ++ new_texts (first_texts front) (text ∷ []) ≡ first_texts (front ++ text ∷ [])
first_texts-more front text =
    ap (λ b. first_texts front ++ cond (not b) (text ∷ []) []) (is_among-first front text) ∙ sym (first_texts-append front (text ∷ []))

-- with one use more of a text as many are in use, or one more if it is the first
used_raised : (counts : List ℕ) (number : ℕ) → number < length counts →
    used counts + first_use (slice_index counts number) ≡ used (slice_set counts number (slice_index counts number + 1))
used_raised counts number inside =
    elim (cases_eq (slice_index counts number) 0) [
      | inl none ↦
          let first : first_use (slice_index counts number) ≡ 1 = ap (λ b. cond b 1 0) (eq-eqb (slice_index counts number) 0 none) in
          omega (arith, first, used-first counts number inside (ap (nat_lt 0) none))
      | inr some ↦
          let again : first_use (slice_index counts number) ≡ 0 =
          ap (λ b. cond b 1 0) (false_from_ne_true (eqb (slice_index counts number) 0) (λ is. some ((Decides-eqb (slice_index counts number) 0).0 is))) in
          omega (arith, again, used-again counts number inside (lt-ltb 0 (slice_index counts number) (omega (arith, some))))
    ]

-- a part that had no number gets one
pub AreCounted-set : (known : List GroupTextData) (counts : List ℕ) (numbers : List (Option ℕ)) (distinct part number : ℕ) → part < length numbers →
    slice_index_or numbers part None ≡ None → number < length known → AreCounted known counts numbers distinct →
    AreCounted known (slice_set counts number (slice_index counts number + 1)) (slice_set numbers part (Some number))
    (distinct + first_use (slice_index counts number))
AreCounted-set known counts numbers distinct part number part_inside none within are =
    let inside : number < length counts = omega (arith, within, are.counted) in
    record {
      apart = are.apart;
      counted = length-set counts number (slice_index counts number + 1) ∙ are.counted;
      inside = λ k other is.
          elim (cases_eq k part) [
            | inl same ↦
                let both : Some number ≡ Some other =
                sym (get_or-set_same numbers part (Some number) None part_inside) ∙ (ap (λ n. slice_index_or (slice_set numbers part (Some number)) n None) (sym same) ∙ is) in
                let one : number ≡ other = cc in
                omega (arith, within, one)
            | inr differs ↦ are.inside k other (sym (get_or-set_other numbers part k (Some number) None differs) ∙ is)
          ];
      each = λ other.
          let worth : Option ℕ → ℕ = λ one. cond (is_number other one) 1 0 in
          let was : worth (slice_index_or numbers part None) ≡ 0 = ap worth none in
          let more = sum_by-set worth numbers part (Some number) None part_inside in
          elim (cases_eq other number) [
            | inl same ↦
                let here : worth (Some number) ≡ 1 = ap (λ b. cond b 1 0) (eq-eqb other number same) in
                let so_far = are.each other in
                ap (slice_index (slice_set counts number (slice_index counts number + 1))) same
                ∙ (get_or-set_same counts number (slice_index counts number + 1) 0 inside
                ∙ omega (arith, ap (slice_index counts) same, so_far, more, was, here))
            | inr differs ↦
                let here : worth (Some number) ≡ 0 =
                ap (λ b. cond b 1 0) (false_from_ne_true (eqb other number) (λ is. differs ((Decides-eqb other number).0 is))) in
                get_or-set_other counts number other (slice_index counts number + 1) 0 differs ∙ omega (arith, are.each other, more, was, here)
          ];
      some = ap (λ n. n + first_use (slice_index counts number)) are.some ∙ used_raised counts number inside;
    }

-- no more texts are distinct than are known
pub distinct_few : (known : List GroupTextData) (counts : List ℕ) (numbers : List (Option ℕ)) (distinct : ℕ) →
    AreCounted known counts numbers distinct → distinct ≤ length counts
distinct_few known counts numbers distinct are = omega (arith, are.some, count_by-le-length (nat_lt 0) counts)

-- how many counts aren't 0
abbrev in_use : ℕ → ℕ
in_use n = cond (nat_lt 0 n) 1 0

module _ (known : List GroupTextData) (counts : List ℕ) (numbers : List (Option ℕ)) (distinct k number : ℕ)
    (here : slice_index_or numbers k None ≡ Some number) (within : k < length numbers) (are : AreCounted known counts numbers distinct) where
  abbrev worth_of : ℕ → Option ℕ → ℕ
  worth_of other one = cond (is_number other one) 1 0

  freed : (other : ℕ) → count_by (is_number other) (slice_set numbers k None) + worth_of other (Some number) ≡ count_by (is_number other) numbers
  freed other =
      let none : worth_of other None ≡ zero = refl in
      let read : worth_of other (slice_index_or numbers k None) ≡ worth_of other (Some number) = ap (worth_of other) here in
      omega (arith, sum_by-set (worth_of other) numbers k None None within, read, none)

  one_use : worth_of number (Some number) ≡ suc zero
  one_use = ap (λ b. cond b 1 0) (eq-eqb number number refl)

  pub free_inside : number < length counts
  free_inside = omega (arith, are.inside k number here, are.counted)

  -- the text was used
  pub free_some : 0 < slice_index counts number
  free_some = omega (arith, are.each number, freed number, one_use)

  at_count : in_use (slice_index counts number) ≡ suc zero
  at_count = ap (λ b. cond b 1 0) (lt-ltb 0 (slice_index counts number) free_some)

  -- so some text was
  pub free_there : 0 < distinct
  free_there =
      let none : in_use 0 ≡ zero = refl in
      omega (arith, sum_by-set in_use counts number 0 0 free_inside, at_count, none, are.some)

  used_lowered : used (slice_set counts number (slice_index counts number - 1)) + last_use (slice_index counts number) ≡ used counts
  used_lowered =
      let set = sum_by-set in_use counts number (slice_index counts number - 1) 0 free_inside in
      elim (cases_eq (slice_index counts number) 1) [
        | inl one ↦
            let last : last_use (slice_index counts number) ≡ suc zero = ap (λ b. cond b 1 0) (eq-eqb (slice_index counts number) 1 one) in
            let now : in_use (slice_index counts number - 1) ≡ zero = ap (λ n. in_use (n - 1)) one in
            omega (arith, set, at_count, last, now)
        | inr more ↦
            let last : last_use (slice_index counts number) ≡ zero =
            ap (λ b. cond b 1 0) (false_from_ne_true (eqb (slice_index counts number) 1) (λ is. more ((Decides-eqb (slice_index counts number) 1).0 is))) in
            let left : 0 < slice_index counts number - 1 = omega (arith, more, free_some) in
            let now : in_use (slice_index counts number - 1) ≡ suc zero = ap (λ b. cond b 1 0) (lt-ltb 0 (slice_index counts number - 1) left) in
            omega (arith, set, at_count, last, now)
      ]

  -- a part that had a text has none
  pub AreCounted-free : (left : ℕ) → left + last_use (slice_index counts number) ≡ distinct →
      AreCounted known (slice_set counts number (slice_index counts number - 1)) (slice_set numbers k None) left
  AreCounted-free left is = record {
    apart = are.apart;
    counted = length-set counts number (slice_index counts number - 1) ∙ are.counted;
    inside = λ j other there.
        elim (cases_eq j k) [
          | inl same ↦
              let none : slice_index_or (slice_set numbers k None) j None ≡ None =
              ap (λ n. slice_index_or (slice_set numbers k None) n None) same ∙ get_or-set_same numbers k None None within in
              let both : None ≡ Some other = sym none ∙ there in
              absurd cc
          | inr differs ↦ are.inside j other (sym (get_or-set_other numbers k j None None differs) ∙ there)
        ];
    each = λ other.
        elim (cases_eq other number) [
          | inl same ↦
              let gone = subst (λ n. count_by (is_number n) (slice_set numbers k None) + worth_of n (Some number) ≡ count_by (is_number n) numbers) same (freed other) in
              let lowered : slice_index (slice_set counts number (slice_index counts number - 1)) number ≡ slice_index counts number - 1 =
              get_or-set_same counts number (slice_index counts number - 1) 0 free_inside in
              subst (λ n. slice_index (slice_set counts number (slice_index counts number - 1)) n ≡ count_by (is_number n) (slice_set numbers k None)) (sym same)
              (omega (arith, lowered, gone, one_use, are.each number))
          | inr differs ↦
              let none : worth_of other (Some number) ≡ zero =
              ap (λ b. cond b 1 0) (false_from_ne_true (eqb other number) (λ equal. differs ((Decides-eqb other number).0 equal))) in
              get_or-set_other counts number other (slice_index counts number - 1) 0 differs ∙ omega (arith, are.each other, freed other, none)
        ];
    some = omega (arith, is, used_lowered, are.some);
  }

-- a part that has no number any more has no text
pub texts_freed : (old new : UsesData) (k : ℕ) → new.known ≡ old.known → new.numbers ≡ slice_set old.numbers k None →
    texts_used new ≡ slice_set (texts_used old) k None
texts_freed old new k known numbers =
    ap₂ (λ texts list. map (option_and_then (slice_get texts)) list) known numbers ∙ map-set (option_and_then (slice_get old.known)) old.numbers k None

-- and a part more without a number changes no text
pub texts_added : (old new : UsesData) → new.known ≡ old.known → new.numbers ≡ old.numbers ++ None ∷ [] → texts_used new ≡ texts_used old ++ None ∷ []
texts_added old new known numbers =
    ap₂ (λ texts list. map (option_and_then (slice_get texts)) list) known numbers
    ∙ map-append (option_and_then (slice_get old.known)) old.numbers (None ∷ [])

-- where each part has a text it has a number
pub some_numbers : (text : ℕ → Option GroupTextData) (numbers : List (Option ℕ)) (texts : List GroupTextData) →
    map (option_and_then text) numbers ≡ map Some texts → All (λ number. number ≢ None) numbers
some_numbers text [] texts are = All-nil (λ (number : Option ℕ). number ≢ None)
some_numbers text (number ∷ numbers) [] are = absurd cc
some_numbers text (None ∷ numbers) (first ∷ texts) are = absurd cc
some_numbers text (Some number ∷ numbers) (first ∷ texts) are =
    All-cons (λ (one : Option ℕ). one ≢ None) (Some number) numbers (λ none. absurd cc) (some_numbers text numbers texts (cc))

-- and there are as many numbers as there are texts
pub numbers_counted : {X : Type 0} (uses : UsesData) (xs : List X) (text : X → GroupTextData) → texts_used uses ≡ map Some (map text xs) →
    length uses.numbers ≡ length xs
numbers_counted uses xs text are =
    sym (length-map uses.numbers (option_and_then (slice_get uses.known)))
    ∙ (ap length are ∙ (length-map (map text xs) Some ∙ length-map xs text))
