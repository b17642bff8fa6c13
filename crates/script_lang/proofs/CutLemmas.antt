-- A word cut at its last `=`.
use Rattle.std.proofs.Common.{◌≡◌, ℕ, ◌+◌, ◌-◌, ◌<◌, Bool, true, false, not, ◌&&◌, List, [], ◌∷◌, length, get_or, take, drop, Option, Some, None, refl, sym, ◌⊎◌, ◌==◌, ◌∙◌, ap, arith, inl, inr, ne_eqb, eq-eqb, eqb-true, if◌then◌else◌}
use Rattle.std.specs.List.{suffix_len, before_last, after_last}
use Rattle.std.proofs.lemmas.List.Sums.{suffix_len_is}
use Rattle.line_words.specs.Words.{is_word}
use Rattle.script_lang.specs.Parts.{equals, is_equals, parts_of, HasNoEquals, IsLastEquals}

-- how many bytes stand after the last `=`
letters_long : (word : List ℕ) (at : ℕ) → IsLastEquals word at → suffix_len (λ x. not (is_equals x)) word ≡ length word - (at + 1)
letters_long word at last =
    let inside : at < length word = last.inside in
    suffix_len_is (λ x. not (is_equals x)) word (at + 1) 0 (omega arith)
    (λ k from within. ap not (ne_eqb (get_or word k 0) equals (last.after k (omega arith) within)))
    (λ some. let same : at + 1 - 1 ≡ at = omega arith in ap not (eq-eqb (get_or word (at + 1 - 1) 0) equals (ap (λ j. get_or word j 0) same ∙ last.here)))

-- the name of a word with an `=`
pub name_at : (word : List ℕ) (at : ℕ) → IsLastEquals word at → before_last is_equals word ≡ take at word
name_at word at last =
    let inside : at < length word = last.inside in
    let long = letters_long word at last in
    let same : length word - suffix_len (λ x. not (is_equals x)) word - 1 ≡ at = omega arith in
    ap (λ n. take n word) same

-- the letters of a word with an `=`
pub letters_at : (word : List ℕ) (at : ℕ) → IsLastEquals word at → after_last is_equals word ≡ drop (at + 1) word
letters_at word at last =
    let inside : at < length word = last.inside in
    let long = letters_long word at last in
    let same : length word - suffix_len (λ x. not (is_equals x)) word ≡ at + 1 = omega arith in
    ap (λ n. drop n word) same

-- a word with an `=` is cut there, if both parts have a byte
pub parts_at : (word : List ℕ) (at : ℕ) → IsLastEquals word at →
    parts_of word ≡ (if is_word (take at word) && is_word (drop (at + 1) word) then Some (take at word, drop (at + 1) word) else None)
parts_at word at last =
    ap (λ name. if is_word name && is_word (after_last is_equals word) then Some (name, after_last is_equals word) else None) (name_at word at last)
    ∙ ap (λ letters. if is_word (take at word) && is_word letters then Some (take at word, letters) else None) (letters_at word at last)

-- a word without an `=` has no parts
pub parts_none : (word : List ℕ) → HasNoEquals word → parts_of word ≡ None
parts_none word absent =
    let long : suffix_len (λ x. not (is_equals x)) word ≡ length word - 0 =
    suffix_len_is (λ x. not (is_equals x)) word 0 0 (omega arith)
    (λ k from within. ap not (ne_eqb (get_or word k 0) equals (absent k within)))
    (λ some. absurd (omega arith)) in
    let same : length word - suffix_len (λ x. not (is_equals x)) word - 1 ≡ 0 = omega arith in
    ap (λ n. if is_word (take n word) && is_word (after_last is_equals word) then Some (take n word, after_last is_equals word) else None) same

-- a list has a byte exactly if it isn't empty
pub has_byte : (part : List ℕ) → (length part ≡ 0 → ⊥) → is_word part ≡ true
has_byte [] some = absurd (some refl)
has_byte (byte ∷ part) some = refl

pub has_none : (part : List ℕ) → length part ≡ 0 → is_word part ≡ false
has_none [] none = refl
has_none (byte ∷ part) none = absurd (omega arith)

-- the test of an empty part
pub is_none : (part : List ℕ) (test : Bool) → test ≡ (length part == 0) → test ≡ true → length part ≡ 0
is_none part test is held = eqb-true _ _ (sym is ∙ held)

pub is_some : (part : List ℕ) (test : Bool) → test ≡ (length part == 0) → test ≡ false → length part ≡ 0 → ⊥
is_some part test is failed none = let both : true ≡ false = sym (eq-eqb _ _ none) ∙ sym is ∙ failed in cc

-- a word cut at its last `=`, if a part is empty
pub cut_none : (word : List ℕ) (at : ℕ) → IsLastEquals word at → (length (take at word) ≡ 0) ⊎ (length (drop (at + 1) word) ≡ 0) → parts_of word ≡ None
cut_none word at last (inl none) =
    parts_at word at last ∙ ap (λ b. if b && is_word (drop (at + 1) word) then Some (take at word, drop (at + 1) word) else None) (has_none (take at word) none)
cut_none word at last (inr none) =
    parts_at word at last ∙ ap (λ b. if is_word (take at word) && b then Some (take at word, drop (at + 1) word) else None) (has_none (drop (at + 1) word) none)
    ∙ neither (is_word (take at word)) (Some (take at word, drop (at + 1) word))
  where
    neither : (b : Bool) (parts : Option (List ℕ × List ℕ)) → (if b && false then parts else None) ≡ None
    neither true parts = refl
    neither false parts = refl

-- a word cut at its last `=`, if both parts have a byte
pub cut_some : (word : List ℕ) (at : ℕ) → IsLastEquals word at → (length (take at word) ≡ 0 → ⊥) → (length (drop (at + 1) word) ≡ 0 → ⊥) →
    parts_of word ≡ Some (take at word, drop (at + 1) word)
cut_some word at last name letters =
    parts_at word at last
    ∙ ap (λ b. if b && is_word (drop (at + 1) word) then Some (take at word, drop (at + 1) word) else None) (has_byte (take at word) name)
    ∙ ap (λ b. if b then Some (take at word, drop (at + 1) word) else None) (has_byte (drop (at + 1) word) letters)
