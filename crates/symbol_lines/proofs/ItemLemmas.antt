-- Lists of items word by word: all words are items and are few, or the first that isn't, or for which there is no room, ends the list.
use Rattle.std.proofs.Common.{◌≡◌, ℕ, ◌+◌, ◌<◌, ◌≤◌, Bool, true, false, List, [], ◌∷◌, ◌++◌, length, take, drop, position, ◌-◌, nat_lt, Option, Some, None, option_map, refl, sym, ap, ◌∙◌, inl, inr, arith, append_assoc, length-append, if◌then◌else◌}
use Rattle.std.specs.List.{flat_map, slice_split}
use Rattle.std.specs.Option.{option_and_then}
use Rattle.std.proofs.lemmas.Bool.{cases_Bool, le-leb, lt-leb, ltb-true, ltb-false}
use Rattle.std.proofs.lemmas.List.{append-nil}
use Rattle.std.proofs.lemmas.List.Splits.{slice_split_none, slice_split_at}
use Rattle.line_words.proofs.CutLemmas.{IsCut-position, none_passes}
use Rattle.script_lang.specs.Parts.{all_of}
use Rattle.symbol_lines.specs.declared.TheConstants.{MOST_ITEMS}
use Rattle.symbol_lines.specs.declared.items.Item.{Item}
use Rattle.node_words.specs.Ranges.{RangeData, count_between, first_range, word_at, words_in}
use Rattle.node_words.proofs.WordLemmas.{words_from, words_from-all, words_from-step, words_from-done}
use Rattle.symbol_lines.specs.Items.{item_of, few, with_word, with_words, words_by, words_of_part, words_of_list, is_comma}

-- a text is cut at its first comma
pub comma_cut : (text : List ℕ) (at : ℕ) → position is_comma text ≡ Some at →
    slice_split is_comma text ≡ take at text ∷ slice_split is_comma (take (length text - (at + 1)) (drop (at + 1) text))
comma_cut text at found =
    let cut = IsCut-position is_comma text at found in
    ap (slice_split is_comma) cut.whole ∙ slice_split_at is_comma (take at text) cut.stop _ cut.none_before cut.passes

pub comma_none : (text : List ℕ) → position is_comma text ≡ None → slice_split is_comma text ≡ text ∷ []
comma_none text absent = slice_split_none is_comma text (none_passes is_comma text absent)

-- one word alone
pub with_words_single : (dashes : Bool) (word : List ℕ) (items : List Item) → with_words dashes (word ∷ []) items ≡ with_word dashes items word
with_words_single dashes word items = by (with_word dashes items word)
  where
    by : (found : Option (List Item)) → option_and_then (with_words dashes []) found ≡ found
    by None = refl
    by (Some more) = refl

-- two steps of a list, one after the other
pub and_then-twice : {A B C : Type 0} (found : Option A) (one : A → Option B) (other : B → Option C) →
    option_and_then other (option_and_then one found) ≡ option_and_then (λ x. option_and_then other (one x)) found
and_then-twice None one other = refl
and_then-twice (Some x) one other = refl

-- words in two runs
pub with_words-append : (dashes : Bool) (one other : List (List ℕ)) (items : List Item) →
    with_words dashes (one ++ other) items ≡ option_and_then (with_words dashes other) (with_words dashes one items)
with_words-append dashes [] other items = refl
with_words-append dashes (word ∷ one) other items = by (with_word dashes items word) (λ more. with_words-append dashes one other more)
  where
    by : (found : Option (List Item)) →
        ((more : List Item) → with_words dashes (one ++ other) more ≡ option_and_then (with_words dashes other) (with_words dashes one more)) →
        option_and_then (with_words dashes (one ++ other)) found
        ≡ option_and_then (with_words dashes other) (option_and_then (with_words dashes one) found)
    by None rest = refl
    by (Some more) rest = rest more

-- items behind others, if there are no more than there may be
abbrev behind_all : List Item → List Item → Option (List Item)
behind_all items more = few (items ++ more)

-- no list is past the most
few-none : (items more : List Item) → MOST_ITEMS < length items → behind_all items more ≡ None
few-none items more past =
    ap (λ test. if test then Some (items ++ more) else None) (lt-leb (length (items ++ more)) MOST_ITEMS (omega (arith, past, length-append items more)))

none-behind : (items : List Item) (found : Option (List Item)) → MOST_ITEMS < length items → option_and_then (behind_all items) found ≡ None
none-behind items None past = refl
none-behind items (Some more) past = few-none items more past

-- words that all are items, and few
pub with_words-all : (dashes : Bool) (words : List (List ℕ)) (items : List Item) → length items ≤ MOST_ITEMS →
    with_words dashes words items ≡ option_and_then (behind_all items) (all_of (item_of dashes) words)
with_words-all dashes [] items room =
    sym (ap few (append-nil items) ∙ ap (λ test. if test then Some items else None) (le-leb (length items) MOST_ITEMS room))
with_words-all dashes (word ∷ words) items room = by (item_of dashes word) (λ more few. with_words-all dashes words more few)
  where
    shift : (own : Item) (found : Option (List Item)) →
        option_and_then (behind_all (items ++ own ∷ [])) found ≡ option_and_then (behind_all items) (option_map (λ rest. own ∷ rest) found)
    shift own None = refl
    shift own (Some rest) = ap few (append_assoc items (own ∷ []) rest)

    long : (own : Item) → length (items ++ own ∷ []) ≡ length items + 1
    long own = length-append items (own ∷ [])

    none : (test : Bool) → option_and_then (with_words dashes words) (if test then None else None) ≡ None
    none true = refl
    none false = refl

    by : (found : Option Item) →
        ((more : List Item) → length more ≤ MOST_ITEMS → with_words dashes words more ≡ option_and_then (behind_all more) (all_of (item_of dashes) words)) →
        option_and_then (with_words dashes words) (if nat_lt (length items) MOST_ITEMS then option_map (λ own. items ++ own ∷ []) found else None)
        ≡ option_and_then (behind_all items) (option_and_then (λ first. option_map (λ rest. first ∷ rest) (all_of (item_of dashes) words)) found)
    by None rest = none (nat_lt (length items) MOST_ITEMS)
    by (Some own) rest =
        elim (cases_Bool (nat_lt (length items) MOST_ITEMS)) [
          | inl less ↦
              ap (λ test. option_and_then (with_words dashes words) (if test then Some (items ++ own ∷ []) else None)) less
              ∙ rest (items ++ own ∷ []) (omega (arith, ltb-true (length items) MOST_ITEMS less, long own))
              ∙ shift own (all_of (item_of dashes) words)
          | inr full ↦
              ap (λ test. option_and_then (with_words dashes words) (if test then Some (items ++ own ∷ []) else None)) full
              ∙ sym (sym (shift own (all_of (item_of dashes) words))
              ∙ none-behind (items ++ own ∷ []) (all_of (item_of dashes) words) (omega (arith, long own, ltb-false (length items) MOST_ITEMS full)))
        ]

-- a whole list
pub with_words_list : (dashes : Bool) (words : List (List ℕ)) → with_words dashes words [] ≡ option_and_then few (all_of (item_of dashes) words)
with_words_list dashes words = with_words-all dashes words [] (omega arith)

-- the words that are left of a range: all at first, one fewer after each, and none at last
pub range_begins : (dashes : Bool) (range : RangeData) (items : List Item) → with_words dashes (words_from range 0) items ≡ with_words dashes (words_in range) items
range_begins dashes range items = ap (λ words. with_words dashes words items) (words_from-all range)

pub range_goes_on : (dashes : Bool) (range : RangeData) (place : ℕ) (items : List Item) → place < count_between range.first range.last →
    with_words dashes (words_from range place) items
    ≡ option_and_then (with_words dashes (words_from range (place + 1))) (with_word dashes items (word_at range place))
range_goes_on dashes range place items inside = ap (λ words. with_words dashes words items) (words_from-step range place inside)

pub range_ends : (dashes : Bool) (range : RangeData) (place : ℕ) (items : List Item) → count_between range.first range.last ≤ place →
    with_words dashes (words_from range place) items ≡ Some items
range_ends dashes range place items past = ap (λ words. with_words dashes words items) (words_from-done range place past)

-- the words of a list that is cut at a comma
pub list_cut : (dashes : Bool) (text part behind : List ℕ) (items : List Item) → slice_split is_comma text ≡ part ∷ slice_split is_comma behind →
    with_words dashes (words_of_list text) items
    ≡ option_and_then (with_words dashes (words_of_list behind)) (with_words dashes (words_of_part part) items)
list_cut dashes text part behind items cut =
    ap (λ parts. with_words dashes (flat_map words_of_part parts) items) cut
    ∙ with_words-append dashes (words_of_part part) (words_of_list behind) items

-- and of one without a comma
pub list_whole : (dashes : Bool) (text : List ℕ) (items : List Item) → slice_split is_comma text ≡ text ∷ [] →
    with_words dashes (words_of_list text) items ≡ with_words dashes (words_of_part text) items
list_whole dashes text items whole =
    ap (λ parts. with_words dashes (flat_map words_of_part parts) items) whole
    ∙ ap (λ words. with_words dashes words items) (append-nil (words_of_part text))

-- a text between commas with a range stands for the range's words, and one without for itself
pub part_with_range : (part : List ℕ) (range : RangeData) → first_range part ≡ Some range → words_of_part part ≡ words_in range
part_with_range part range found = ap (words_by part) found

pub part_alone : (part : List ℕ) → first_range part ≡ None → words_of_part part ≡ part ∷ []
part_alone part none = ap (words_by part) none
