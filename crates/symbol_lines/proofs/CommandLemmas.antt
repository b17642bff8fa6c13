-- Names of words one after another.
use Rattle.std.proofs.Common.{◌≡◌, ℕ, ◌+◌, ◌<◌, ◌≤◌, List, [], ◌∷◌, ◌++◌, length, Option, Some, None, option_map, refl, sym, ap, ◌∙◌, arith, append_assoc, if◌then◌else◌}
use Rattle.std.specs.List.{range_with_len}
use Rattle.std.specs.Option.{option_and_then}
use Rattle.std.proofs.lemmas.Bool.{le-leb, lt-leb}
use Rattle.std.proofs.lemmas.List.{append-nil, length-map}
use Rattle.std.proofs.lemmas.List.FromFn.{length-range_with_len}
use Rattle.script_lang.specs.Parts.{all_of}
use Rattle.node_words.specs.Ranges.{RangeData, count_between, first_range, word_at, words_in}
use Rattle.node_words.proofs.WordLemmas.{words_from, words_from-all, words_from-step, words_from-done}
use Rattle.symbol_lines.specs.declared.TheConstants.{MOST_ITEMS}
use Rattle.symbol_lines.specs.Items.{few, words_by}
use Rattle.symbol_lines.specs.Commands.{names_of_word, names_of_words, variable_of, with_front}

-- how many words a range stands for
pub length-words : (range : RangeData) → length (words_in range) ≡ count_between range.first range.last
length-words range = length-map (range_with_len 0 (count_between range.first range.last)) (word_at range) ∙ length-range_with_len 0 (count_between range.first range.last)

-- nothing behind names
pub with_front_none : {A : Type 0} (front : List A) → with_front front (Some []) ≡ Some front
with_front_none front = ap Some (append-nil front)

-- names in two runs behind others
pub with_front-twice : {A : Type 0} (front more : List A) (rest : Option (List A)) → with_front (front ++ more) rest ≡ with_front front (with_front more rest)
with_front-twice front more None = refl
with_front-twice front more (Some rest) = ap Some (append_assoc front more rest)

-- the first word, and then the others
pub all_of-first : {A : Type 0} (front : List A) (own : Option A) (rest : Option (List A)) →
    with_front front (option_and_then (λ first. option_map (λ more. first ∷ more) rest) own)
    ≡ option_and_then (λ made. with_front made rest) (option_map (λ first. front ++ first ∷ []) own)
all_of-first front None rest = refl
all_of-first front (Some own) None = refl
all_of-first front (Some own) (Some rest) = ap Some (sym (append_assoc front (own ∷ []) rest))

-- the words that are left of a range: all at first, one fewer after each, and none at last
pub names_begin : (front : List (List ℕ)) (range : RangeData) →
    with_front front (all_of variable_of (words_from range 0)) ≡ with_front front (all_of variable_of (words_in range))
names_begin front range = ap (λ words. with_front front (all_of variable_of words)) (words_from-all range)

pub names_go_on : (front : List (List ℕ)) (range : RangeData) (place : ℕ) → place < count_between range.first range.last →
    with_front front (all_of variable_of (words_from range place))
    ≡ option_and_then (λ made. with_front made (all_of variable_of (words_from range (place + 1)))) (option_map (λ name. front ++ name ∷ []) (variable_of (word_at range place)))
names_go_on front range place inside =
    ap (λ words. with_front front (all_of variable_of words)) (words_from-step range place inside)
    ∙ all_of-first front (variable_of (word_at range place)) (all_of variable_of (words_from range (place + 1)))

pub names_end : (front : List (List ℕ)) (range : RangeData) (place : ℕ) → count_between range.first range.last ≤ place →
    with_front front (all_of variable_of (words_from range place)) ≡ Some front
names_end front range place past =
    ap (λ words. with_front front (all_of variable_of words)) (words_from-done range place past) ∙ with_front_none front

-- one word alone
pub names_single : (front : List (List ℕ)) (word : List ℕ) →
    with_front front (all_of variable_of (word ∷ [])) ≡ option_map (λ name. front ++ name ∷ []) (variable_of word)
names_single front word = by (variable_of word)
  where
    by : (own : Option (List ℕ)) →
        with_front front (option_and_then (λ first. option_map (λ more. first ∷ more) (Some [])) own) ≡ option_map (λ name. front ++ name ∷ []) own
    by None = refl
    by (Some own) = refl

-- a word with a range of too many numbers stands for no names
pub names_many : (word : List ℕ) (range : RangeData) → first_range word ≡ Some range → MOST_ITEMS < count_between range.first range.last →
    names_of_word word ≡ None
names_many word range found many =
    ap (λ words. option_and_then (all_of variable_of) (few words)) (ap (words_by word) found)
    ∙ ap (λ test. option_and_then (all_of variable_of) (if test then Some (words_in range) else None))
    (lt-leb (length (words_in range)) MOST_ITEMS (omega (arith, many, length-words range)))

-- one of few numbers for those of its words, and a word without a range for its own
pub names_few : (word : List ℕ) (range : RangeData) → first_range word ≡ Some range → count_between range.first range.last ≤ MOST_ITEMS →
    names_of_word word ≡ all_of variable_of (words_in range)
names_few word range found few_numbers =
    ap (λ words. option_and_then (all_of variable_of) (few words)) (ap (words_by word) found)
    ∙ ap (λ test. option_and_then (all_of variable_of) (if test then Some (words_in range) else None))
    (le-leb (length (words_in range)) MOST_ITEMS (omega (arith, few_numbers, length-words range)))

pub names_alone : (word : List ℕ) → first_range word ≡ None → names_of_word word ≡ all_of variable_of (word ∷ [])
names_alone word none = ap (λ words. option_and_then (all_of variable_of) (few words)) (ap (words_by word) none)

-- the names of the first word, and then of the others
pub words_first : (front : List (List ℕ)) (word : List ℕ) (words : List (List ℕ)) →
    with_front front (names_of_words (word ∷ words)) ≡ option_and_then (λ made. with_front made (names_of_words words)) (with_front front (names_of_word word))
words_first front word words = by (names_of_word word)
  where
    by : (own : Option (List (List ℕ))) →
        with_front front (option_and_then (λ names. with_front names (names_of_words words)) own)
        ≡ option_and_then (λ made. with_front made (names_of_words words)) (with_front front own)
    by None = refl
    by (Some own) = sym (with_front-twice front own (names_of_words words))
