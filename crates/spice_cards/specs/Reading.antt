-- What a deck's lines give, one after the other: its cards, or the refusal of the first line that has one.
use Rattle.std.specs.Prelude.{ℕ, Bool, true, false, ◌||◌, not, List, [], ◌∷◌, ◌++◌, map, drop, take, length, nat_lt, is_some, slice_index_or, Option, Some, None, Result, Ok, Err, if◌then◌else◌}
use Rattle.std.specs.Char.{to_ascii_lowercase}
use Rattle.std.specs.List.{enumerate_from}
use Rattle.line_words.specs.declared.line_check.TheConstants.{LONGEST_LINE}
use Rattle.line_words.specs.Lines.{lines_of}
use Rattle.line_words.specs.Files.{front_of, cut_line, is_cut}
use Rattle.ternary.specs.declared.unmade.Unmade.{Unmade}
use Rattle.ternary.specs.declared.unmade.Unmade.TheVariants.{Refused, NoMemory}
use Rattle.switch_paths.specs.declared.switching.SwitchKind.{SwitchKind}
use Rattle.spice_cards.specs.declared.fault.DeckRefusal.{DeckRefusal}
use Rattle.spice_cards.specs.declared.fault.DeckWhat.{DeckWhat}
use Rattle.spice_cards.specs.declared.fault.DeckWhat.TheVariants.{TooLong, LineTooLong, BadCard, FewWords, BadNesting, Redefined}
use Rattle.spice_cards.specs.declared.cards.TheConstants.{TRANSISTOR_WORDS}
use Rattle.spice_cards.specs.declared.sorts.CardSort.{CardSort}
use Rattle.spice_cards.specs.declared.sorts.CardSort.TheVariants as card
use Rattle.spice_cards.specs.declared.sorts.LineSort.{LineSort}
use Rattle.spice_cards.specs.declared.sorts.LineSort.TheVariants.{Passed, More, Begins}
use Rattle.spice_cards.specs.declared.sorts.PartSort.{PartSort}
use Rattle.spice_cards.specs.declared.sorts.PartSort.TheVariants.{Transistor, Call}
use Rattle.spice_cards.specs.CardLines.{card_words, first_word, head_of, is_end, is_ended, line_fault, line_sort}
use Rattle.spice_cards.specs.CardSorts.{call_words, card_sort, kind_of_type, opening_words, strength_of}
use Rattle.spice_cards.specs.Decks.{DeckCards, PartCard, SubcircuitCards, no_cards}
use Rattle.spice_cards.specs.Tables.{named, with_first}

-- what the lines gave so far: the cards, the subcircuit that has begun and isn't ended, with its name, and whether there was a card
pub record ReadSoFar : Type 0 where
  pub deck : DeckCards
  pub begun : Option (List ℕ × SubcircuitCards)
  pub has_card : Bool

-- what is there before the first line
abbrev pub nothing_read : ReadSoFar
nothing_read = record { deck = no_cards; begun = None; has_card = false }

-- with one more part: of the subcircuit that has begun, else outside subcircuits
abbrev pub with_part_in : ReadSoFar → Option (List ℕ × SubcircuitCards) → PartCard → ReadSoFar
with_part_in r None part = record r { deck = record r.deck { outside = r.deck.outside ++ part ∷ [] } }
with_part_in r (Some begun) part = record r { begun = Some (begun.0, record begun.1 { parts = begun.1.parts ++ part ∷ [] }) }

abbrev pub with_part : ReadSoFar → ℕ → PartSort → List (List ℕ) → ReadSoFar
with_part r line sort words = with_part_in r r.begun (record { line = line; sort = sort; words = words })

-- the word at a place, if there is one
abbrev pub word_at : List (List ℕ) → ℕ → List ℕ
word_at words place = head_of (drop place words)

-- a transistor, by the words of its card
abbrev pub transistor_meaning : ReadSoFar → ℕ → List (List ℕ) → Result ReadSoFar DeckWhat
transistor_meaning r line words =
    if nat_lt (length words) TRANSISTOR_WORDS then Err FewWords
    else Ok (with_part r line (Transistor (strength_of (drop 1 words))) (take TRANSISTOR_WORDS words))

-- a call, by the words of its card that count
abbrev pub call_meaning : ReadSoFar → ℕ → List (List ℕ) → Result ReadSoFar DeckWhat
call_meaning r line words =
    if nat_lt (length words) 2 then Err FewWords else Ok (with_part r line Call words)

-- a subcircuit that begins, by the words of its card that count, itself, its name and its ports, and by whether it is ended later
abbrev pub opening_meaning : ReadSoFar → ℕ → List (List ℕ) → Bool → Result ReadSoFar DeckWhat
opening_meaning r line words ended =
    if nat_lt (length words) 2 then Err FewWords
    else (if is_some r.begun || not ended then Err BadNesting
    else (if is_some (named r.deck.subcircuits (word_at words 1)) then Err Redefined
    else Ok (record r { begun = Some (word_at words 1, record { line = line; ports = drop 2 words; parts = [] }) })))

-- the subcircuit that has begun ends
abbrev pub closing_meaning : ReadSoFar → Option (List ℕ × SubcircuitCards) → Result ReadSoFar DeckWhat
closing_meaning r None = Err BadNesting
closing_meaning r (Some begun) =
    Ok (record r { deck = record r.deck { subcircuits = with_first r.deck.subcircuits begun.0 begun.1 }; begun = None })

-- a model, where its type gives it a kind
abbrev pub with_model : ReadSoFar → List ℕ → Option SwitchKind → ReadSoFar
with_model r name None = r
with_model r name (Some kind) = record r { deck = record r.deck { models = with_first r.deck.models name kind } }

-- a `.model` card, by its words: itself, the model's name and its type
abbrev pub model_meaning : ReadSoFar → List (List ℕ) → Result ReadSoFar DeckWhat
model_meaning r words =
    if nat_lt (length words) 3 then Err FewWords else Ok (with_model r (word_at words 1) (kind_of_type (word_at words 2)))

-- with these names among the global ones
abbrev pub with_globals : List (List ℕ × Unit {0}) → List (List ℕ) → List (List ℕ × Unit {0})
with_globals globals [] = globals
with_globals globals (name ∷ names) = with_globals (with_first globals name tt) names

abbrev pub globals_meaning : ReadSoFar → List (List ℕ) → ReadSoFar
globals_meaning r names = record r { deck = record r.deck { globals = with_globals r.deck.globals names } }

-- a card, by its line, what it is, its words, and whether a subcircuit that begins there is ended later
abbrev pub card_meaning : ReadSoFar → ℕ → CardSort → List (List ℕ) → Bool → Result ReadSoFar DeckWhat
card_meaning r line card.Transistor words ended = transistor_meaning r line words
card_meaning r line card.Call words ended = call_meaning r line (call_words words)
card_meaning r line card.Opening words ended = opening_meaning r line (opening_words words) ended
card_meaning r line card.Closing words ended = closing_meaning r r.begun
card_meaning r line card.Model words ended = model_meaning r words
card_meaning r line card.Globals words ended = Ok (globals_meaning r (drop 1 words))
card_meaning r line card.Passed words ended = Ok r
card_meaning r line card.Bad words ended = Err BadCard

-- a line, by what it is to the cards; it sees the lines after it
abbrev pub sorted_meaning : ReadSoFar → (ℕ × List ℕ) → LineSort → List (ℕ × List ℕ) → Result ReadSoFar DeckWhat
sorted_meaning r line Passed later = Ok r
sorted_meaning r line More later = if r.has_card then Ok r else Err BadCard
sorted_meaning r line Begins later =
    card_meaning (record r { has_card = true }) line.0 (card_sort (first_word line.1)) (card_words line.1 later) (is_ended later)

-- a line, by its fault as a line
abbrev pub checked_meaning : ReadSoFar → (ℕ × List ℕ) → Option DeckWhat → List (ℕ × List ℕ) → Result ReadSoFar DeckWhat
checked_meaning r line (Some what) later = Err what
checked_meaning r line None later = sorted_meaning r line (line_sort line.1) later

-- a line after what was read: what is read with it, or the cause of its refusal. The cases stand in the order in which one cause wins
-- over another
unfoldable pub line_meaning : Option ℕ → ReadSoFar → (ℕ × List ℕ) → List (ℕ × List ℕ) → Result ReadSoFar DeckWhat
line_meaning cut r line later =
    if is_cut cut line.0 then Err TooLong else checked_meaning r line (line_fault line.1) later

-- the refusal of this line for this cause
abbrev pub refusal_at : ℕ → DeckWhat → DeckRefusal
refusal_at line what = record { line = line; what = what }

-- the fault of a card of this line at which the reading stops
abbrev pub fault_at : ℕ → Unmade DeckWhat → Unmade DeckRefusal
fault_at line (Refused what) = Refused (refusal_at line what)
fault_at line NoMemory = NoMemory

-- the fault of a line that isn't read: the title, or one after `.end`
abbrev pub unread_fault : Option ℕ → (ℕ × List ℕ) → Option DeckRefusal
unread_fault cut line =
    if is_cut cut line.0 then Some (refusal_at line.0 TooLong)
    else (if nat_lt LONGEST_LINE (length line.1) then Some (refusal_at line.0 LineTooLong) else None)

-- the first of these faults, if there are two
abbrev pub first_fault : Option DeckRefusal → Option DeckRefusal → Option DeckRefusal
first_fault (Some fault) later = Some fault
first_fault None later = later

-- the fault of the first line after `.end` that has one
abbrev pub tail_fault : Option ℕ → List (ℕ × List ℕ) → Option DeckRefusal
tail_fault cut [] = None
tail_fault cut (line ∷ lines) = first_fault (unread_fault cut line) (tail_fault cut lines)

-- this, unless there is a fault
abbrev pub unless : {T : Type 0} → Option DeckRefusal → Result T DeckRefusal → Result T DeckRefusal
unless (Some fault) meaning = Err fault
unless None meaning = meaning

-- the cards of lines, by what a first one of them gave and what the others then give; a line that is refused ends all
abbrev pub going_on : ℕ → Result ReadSoFar DeckWhat → (ReadSoFar → Result DeckCards DeckRefusal) → Result DeckCards DeckRefusal
going_on line (Err what) others = Err (refusal_at line what)
going_on line (Ok next) others = others next

-- the cards that the lines give after what was read: up to `.end`, behind which lines have no meaning and few faults
unfoldable pub lines_meaning : Option ℕ → ReadSoFar → List (ℕ × List ℕ) → Result DeckCards DeckRefusal
lines_meaning cut r [] = Ok r.deck
lines_meaning cut r (line ∷ lines) = going_on line.0 (line_meaning cut r line lines)
    (λ next. if is_end line.1 then unless (tail_fault cut lines) (Ok next.deck) else lines_meaning cut next lines)

-- the cards of a text whose first line is the title
unfoldable pub titled_meaning : Option ℕ → List (ℕ × List ℕ) → Result DeckCards DeckRefusal
titled_meaning cut [] = Ok no_cards
titled_meaning cut (title ∷ lines) = unless (unread_fault cut title) (lines_meaning cut nothing_read lines)

-- the lines that are read of a text, in small letters
abbrev pub deck_lines : List ℕ → List (ℕ × List ℕ)
deck_lines text = enumerate_from 1 (lines_of (map to_ascii_lowercase (front_of text)))

-- the cards of a deck, or the refusal of its first line that has one
unfoldable pub cards_of : List ℕ → Result DeckCards DeckRefusal
cards_of text = titled_meaning (cut_line text) (deck_lines text)
