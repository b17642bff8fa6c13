-- The values that a symbolic script gives: letters or a number, or lists of letters and formulas, with ranges.
use Rattle.std.specs.Prelude.{ℕ, Bool, true, false, ◌==◌, List, [], ◌∷◌, ◌++◌, length, nat_le, nat_lt, Option, Some, None, option_map, if◌then◌else◌}
use Rattle.std.specs.List.{flat_map, slice_split}
use Rattle.std.specs.Option.{option_and_then}
use Rattle.script_lang.specs.Parts.{all_of}
use Rattle.vector_values.specs.Values.{Letter, ValueData, letter_of, value_of}
use Rattle.node_words.specs.Ranges.{RangeData, first_range, words_in}
use Rattle.formulas.specs.declared.formula.Part.{Part}
use Rattle.formulas.specs.Reading.{formula_of}
use Rattle.symbol_lines.specs.declared.TheConstants.{MOST_ITEMS}
use Rattle.symbol_lines.specs.declared.items.Item.{Item}
use Rattle.symbol_lines.specs.declared.items.Item.TheVariants as item
use Rattle.symbol_lines.specs.declared.values.SymbolValue.{SymbolValue}
use Rattle.symbol_lines.specs.declared.values.SymbolValue.TheVariants as value

-- the byte is a comma
abbrev pub is_comma : ℕ → Bool
is_comma byte = byte == 44

-- the letter that a text is, if it is one byte
abbrev pub letter_alone : Bool → List ℕ → Option Letter
letter_alone dashes [] = None
letter_alone dashes (byte ∷ []) = letter_of dashes byte
letter_alone dashes (byte ∷ other ∷ text) = None

-- the letter, or else the formula
abbrev pub letter_or_formula : Option Letter → Option (List Part) → Option Item
letter_or_formula (Some letter) parts = Some (item.Letter letter)
letter_or_formula None parts = option_map item.Formula parts

-- the item that a text writes
abbrev pub item_of : Bool → List ℕ → Option Item
item_of dashes text = letter_or_formula (letter_alone dashes text) (formula_of text)

-- the words of a text with this range, or without one
abbrev pub words_by : List ℕ → Option RangeData → List (List ℕ)
words_by part None = part ∷ []
words_by part (Some range) = words_in range

-- the words that a text between two commas stands for: with each number of its range in the range's place
abbrev pub words_of_part : List ℕ → List (List ℕ)
words_of_part part = words_by part (first_range part)

-- the words of a list
abbrev pub words_of_list : List ℕ → List (List ℕ)
words_of_list text = flat_map words_of_part (slice_split is_comma text)

-- these items, if there are no more than there may be
abbrev pub few : {A : Type 0} → List A → Option (List A)
few items = if nat_le (length items) MOST_ITEMS then Some items else None

-- the list that a text writes
abbrev pub items_of : Bool → List ℕ → Option (List Item)
items_of dashes text = option_and_then few (all_of (item_of dashes) (words_of_list text))

-- the first value, or else the list
abbrev pub plain_or_list : Option ValueData → Option (List Item) → Option SymbolValue
plain_or_list (Some plain) items = Some (value.Plain plain)
plain_or_list None items = option_map value.List items

-- the value that a text writes, in `expect` with dashes
abbrev pub symbol_value_of : Bool → List ℕ → Option SymbolValue
symbol_value_of dashes text = plain_or_list (value_of dashes text) (items_of dashes text)

-- the items, if they were read
abbrev pub if_read : {A : Type 0} → Bool → A → Option A
if_read true items = Some items
if_read false items = None

-- the items and the next one, if it is one and there is room
abbrev pub with_word : Bool → List Item → List ℕ → Option (List Item)
with_word dashes items word =
    if nat_lt (length items) MOST_ITEMS then option_map (λ own. items ++ own ∷ []) (item_of dashes word) else None

-- the same for all words
abbrev pub with_words : Bool → List (List ℕ) → List Item → Option (List Item)
with_words dashes [] items = Some items
with_words dashes (word ∷ words) items = option_and_then (with_words dashes words) (with_word dashes items word)
