-- The parts of a script's words: names, assignments, letters of clocks, numbers.
use Rattle.std.specs.Prelude.{◌≡◌, ◌≢◌, ◌<◌, ℕ, Bool, ◌==◌, ◌&&◌, ◌||◌, List, [], ◌∷◌, length, codes, bytes_eq, slice_index, nat_le, Option, Some, None, option_map, if◌then◌else◌}
use Rattle.std.specs.List.{before_last, after_last}
use Rattle.std.specs.Option.{option_and_then, option_map_or}
use Rattle.ternary.specs.declared.tern.Tern.{Tern}
use Rattle.ternary.specs.Tern.{of_letter}
use Rattle.switch_paths.specs.declared.switching.SwitchKind.{SwitchKind}
use Rattle.switch_paths.specs.declared.switching.SwitchKind.TheVariants.{NChan, PChan, Always}
use Rattle.line_words.specs.Decimals.{decimal_of}
use Rattle.line_words.specs.Words.{is_word}
use Rattle.vector_values.specs.Values as wide
use Rattle.vector_values.specs.Values.{ValueData}
use Rattle.script_lang.specs.declared.TheConstants.{MOST_TIMES}
use Rattle.script_lang.specs.declared.value.Value.{Value}
use Rattle.script_lang.specs.declared.value.Value.TheVariants.{Letter, Wide}

-- what each item gives, in order, or none if some item gives none
abbrev pub all_of : {X Y : Type 0} → (X → Option Y) → List X → Option (List Y)
all_of f [] = Some []
all_of f (item ∷ items) = option_and_then (λ first. option_map (λ rest. first ∷ rest) (all_of f items)) (f item)

-- the byte `=`, at which an assignment is cut
abbrev pub equals : ℕ
equals = 61

-- the byte is `=`
abbrev pub is_equals : ℕ → Bool
is_equals byte = byte == equals

-- the name and the letters of a word `name=letters`, cut at its last `=`, if both have a byte
abbrev pub parts_of : List ℕ → Option (List ℕ × List ℕ)
parts_of word =
    let name = before_last is_equals word in
    let letters = after_last is_equals word in
    if is_word name && is_word letters then Some (name, letters) else None

-- the state that one letter alone stands for: `0`, `1`, `X` or `x`
abbrev pub state_of : List ℕ → Option Tern
state_of [] = None
state_of (letter ∷ []) = of_letter letter
state_of (letter ∷ other ∷ letters) = None

-- a letter of a node is a word `name=v`, with v the letter of a state
abbrev pub letter_of : List ℕ → Option (List ℕ × Tern)
letter_of word = option_and_then (λ parts. option_map (λ state. (parts.0, state)) (state_of parts.1)) (parts_of word)

-- what is given by a value: its state, if it is one letter of a state, else all of it
abbrev pub value_by : ValueData → Value
value_by value = option_map_or Letter (wide.state_of value) (Wide value)

-- the value that a text writes, with `-` if it may stand
abbrev pub value_read : Bool → List ℕ → Option Value
value_read dashes text = option_map value_by (wide.value_of dashes text)

-- an assignment is a word `name=value`
abbrev pub assignment_of : Bool → List ℕ → Option (List ℕ × Value)
assignment_of dashes word =
    option_and_then (λ parts. option_map (λ value. (parts.0, value)) (value_read dashes parts.1)) (parts_of word)

-- the states of letters, or none if a byte is no letter of a state
abbrev pub states_of : List ℕ → Option (List Tern)
states_of letters = all_of of_letter letters

-- the letters of a clock are a word `name=vvv..`, with v a letter of a state each time
abbrev pub beats_of : List ℕ → Option (List ℕ × List Tern)
beats_of word = option_and_then (λ parts. option_map (λ states. (parts.0, states)) (states_of parts.1)) (parts_of word)

-- the number, if it is from the least one to `MOST_TIMES`
abbrev pub within_from : ℕ → ℕ → Option ℕ
within_from least number = if nat_le least number && nat_le number MOST_TIMES then Some number else None

-- a number from the least one to `MOST_TIMES`
abbrev pub ranged_of : ℕ → List ℕ → Option ℕ
ranged_of least word = option_and_then (within_from least) (decimal_of word)

-- the kind of a transistor that a word names: `n` or `e` n-channel, `p` p-channel, `d` depletion
abbrev pub kind_of : List ℕ → Option SwitchKind
kind_of word =
    if bytes_eq word (codes "n") || bytes_eq word (codes "e") then Some NChan
    else (if bytes_eq word (codes "p") then Some PChan
    else (if bytes_eq word (codes "d") then Some Always else None))

-- no byte of the word is `=`
abbrev pub HasNoEquals : List ℕ → Type 0
HasNoEquals word = (k : ℕ) → k < length word → slice_index word k ≢ equals

-- the byte at a place is the last `=` of the word
pub record IsLastEquals (word : List ℕ) (at : ℕ) : Type 0 where
  pub inside : at < length word
  pub here : slice_index word at ≡ equals
  pub after : (k : ℕ) → at < k → k < length word → slice_index word k ≢ equals
