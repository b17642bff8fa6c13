-- What a card is by its first word, and which of its words count.
use Rattle.std.specs.Prelude.{ℕ, Bool, true, false, ◌==◌, ◌||◌, ◌&&◌, not, List, [], ◌∷◌, take, drop, length, filter, codes, bytes_eq, nat_le, Option, Some, None, if◌then◌else◌}
use Rattle.std.specs.List.{before_first, list_any}
use Rattle.switch_paths.specs.declared.switching.SwitchKind.{SwitchKind}
use Rattle.switch_paths.specs.declared.switching.SwitchKind.TheVariants.{NChan, PChan}
use Rattle.line_words.specs.Decimals.{decimal_of}
use Rattle.spice_cards.specs.declared.sorts.CardSort.{CardSort}
use Rattle.spice_cards.specs.declared.sorts.CardSort.TheVariants.{Transistor, Call, Opening, Closing, Model, Globals, Passed, Bad}
use Rattle.spice_cards.specs.declared.sorts.Strength.{Strength}
use Rattle.spice_cards.specs.declared.sorts.Strength.TheVariants as strength

-- a card whose first word begins with `.`
abbrev pub control_sort : List ℕ → CardSort
control_sort word =
    if bytes_eq word (codes ".subckt") then Opening
    else (if bytes_eq word (codes ".ends") then Closing
    else (if bytes_eq word (codes ".model") then Model
    else (if bytes_eq word (codes ".global") then Globals
    else (if bytes_eq word (codes ".include") || bytes_eq word (codes ".inc") || bytes_eq word (codes ".lib") then Bad
    else Passed))))

-- a card whose first word begins with this letter: `m`, `x`, or one of `c`, `r`, `l`, `v`, `i` and `d`, which are passed
abbrev pub element_sort : ℕ → CardSort
element_sort letter =
    if letter == 109 then Transistor
    else (if letter == 120 then Call
    else (if letter == 99 || letter == 114 || letter == 108 || letter == 118 || letter == 105 || letter == 100 then Passed else Bad))

-- what a card is, by its first word, in small letters
abbrev pub card_sort : List ℕ → CardSort
card_sort [] = Bad
card_sort (letter ∷ word) = if letter == 46 then control_sort (letter ∷ word) else element_sort letter

-- the word has `=`: it sets a parameter
abbrev pub is_setting : List ℕ → Bool
is_setting word = list_any (λ byte. byte == 61) word

-- the word has no `=`
abbrev pub is_plain : List ℕ → Bool
is_plain word = not (is_setting word)

-- the word is `params:`, behind which parameters stand
abbrev pub is_params : List ℕ → Bool
is_params word = bytes_eq word (codes "params:")

-- the names on a card end at this word: it is `params:` or, where settings end them too, it sets a parameter
abbrev pub ends_names : Bool → List ℕ → Bool
ends_names settings word = (settings && is_setting word) || is_params word

-- behind its name a call's nodes and subcircuit end at this word
abbrev pub ends_call : List ℕ → Bool
ends_call word = ends_names true word

-- the words of a call that count: its name, its nodes and its subcircuit
abbrev pub call_words : List (List ℕ) → List (List ℕ)
call_words [] = []
call_words (name ∷ words) = name ∷ before_first ends_call words

-- the words of a `.subckt` that count: itself, the subcircuit's name and its ports
abbrev pub opening_words : List (List ℕ) → List (List ℕ)
opening_words words = before_first is_params (filter is_plain words)

-- what stands after these bytes, where the word begins with them
abbrev pub after_prefix : List ℕ → List ℕ → Option (List ℕ)
after_prefix prefix word =
    if bytes_eq (take (length prefix) word) prefix then Some (drop (length prefix) word) else None

-- the strength that this number is
abbrev pub strength_numbered : Option ℕ → Strength
strength_numbered None = strength.Bad
strength_numbered (Some k) = if nat_le 1 k then (if nat_le k 4 then strength.Is k else strength.Bad) else strength.Bad

-- a strength after a word `strength=K` with this K: bad once and for all, else the last one counts
abbrev pub strength_set : Strength → Option (List ℕ) → Strength
strength_set before None = before
strength_set strength.Bad (Some text) = strength.Bad
strength_set strength.Usual (Some text) = strength_numbered (decimal_of text)
strength_set (strength.Is k) (Some text) = strength_numbered (decimal_of text)

-- the strength after these words
abbrev pub strength_after : Strength → List (List ℕ) → Strength
strength_after before [] = before
strength_after before (word ∷ words) = strength_after (strength_set before (after_prefix (codes "strength=") word)) words

-- the strength that a transistor's card sets, by its words after its name
abbrev pub strength_of : List (List ℕ) → Strength
strength_of words = strength_after strength.Usual words

-- the kind that a `.model` card gives, by its type up to `(`: other types give none
abbrev pub kind_of_type : List ℕ → Option SwitchKind
kind_of_type word =
    if bytes_eq (before_first (λ byte. byte == 40) word) (codes "nmos") then Some NChan
    else (if bytes_eq (before_first (λ byte. byte == 40) word) (codes "pmos") then Some PChan else None)
