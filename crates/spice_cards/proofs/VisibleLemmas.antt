-- The words of a deck's parts are visible names: each line that is looked at was checked, since a line with a fault is refused.
use Rattle.std.proofs.Common.{◌≡◌, ℕ, ◌+◌, ◌≤◌, Bool, true, false, ◌==◌, ◌||◌, not, All, List, [], ◌∷◌, ◌++◌, length, take, drop, codes, bytes_eq, nat_lt, is_some, Option, Some, None, Result, Ok, Err, IfOk, IfSome, if◌then◌else◌, refl, sym, ◌∙◌, ap, subst, arith}
use Rattle.std.specs.List.{AllPass, before_first, list_all, position_or_len}
use Rattle.std.specs.Option.{option_map_or}
use Rattle.std.proofs.lemmas.Bool.Decides.{nat_tests}
use Rattle.std.proofs.lemmas.List.{length-take-le}
use Rattle.std.proofs.lemmas.List.Elements.{All-nil, All-cons, All-append, All-drop, All-head, All-push, All-tail, All-take}
use Rattle.std.proofs.lemmas.List.Sums.{AllPass-from_list_all}
use Rattle.std.proofs.lemmas.Slice.Eq.{bytes_eq-Decides}
use Rattle.switch_paths.specs.declared.switching.SwitchKind.{SwitchKind}
use Rattle.line_words.specs.declared.line_check.TheConstants.{LONGEST_LINE}
use Rattle.line_words.specs.Bytes.{is_blank, is_line_byte}
use Rattle.line_words.specs.Files.{cut_line, is_cut}
use Rattle.line_words.specs.Visible.{IsVisibleName}
use Rattle.line_words.specs.Words.{words_of}
use Rattle.line_words.proofs.VisibleLemmas.{plain_words-visible}
use Rattle.spice_cards.specs.declared.cards.TheConstants.{TRANSISTOR_WORDS}
use Rattle.spice_cards.specs.declared.fault.DeckRefusal.{DeckRefusal}
use Rattle.spice_cards.specs.declared.fault.DeckWhat.{DeckWhat}
use Rattle.spice_cards.specs.declared.fault.DeckWhat.TheVariants.{BadByte, BadCard, BadNesting, FewWords, LineTooLong, Redefined, TooLong}
use Rattle.spice_cards.specs.declared.sorts.CardSort.{CardSort}
use Rattle.spice_cards.specs.declared.sorts.CardSort.TheVariants as card
use Rattle.spice_cards.specs.declared.sorts.LineSort.{LineSort}
use Rattle.spice_cards.specs.declared.sorts.LineSort.TheVariants.{Passed, More, Begins}
use Rattle.spice_cards.specs.declared.sorts.PartSort.{PartSort}
use Rattle.spice_cards.specs.declared.sorts.PartSort.TheVariants.{Transistor, Call, Opening}
use Rattle.spice_cards.specs.CardLines.{after_sign, begins_by, card_words, continued, continued_by, ends_line, first_solid, first_word, is_end, is_ended, kept_words, line_fault, line_sort, plus, sort_by, star, is_ender}
use Rattle.spice_cards.specs.CardSorts.{call_words, card_sort, ends_call, kind_of_type, opening_words, strength_of}
use Rattle.spice_cards.specs.Decks.{DeckCards, PartCard, SubcircuitCards, no_cards}
use Rattle.spice_cards.specs.Reading.{ReadSoFar, call_meaning, card_meaning, cards_of, checked_meaning, closing_meaning, deck_lines, going_on, line_meaning, lines_meaning, model_meaning, nothing_read, opening_meaning, sorted_meaning, tail_fault, titled_meaning, transistor_meaning, unless, unread_fault, with_model, with_part, with_part_in, word_at}
use Rattle.spice_cards.specs.Tables.{named}

-- ---- lines

-- the kept words of bytes that may stand in a line are visible names
kept-visible : (bytes : List ℕ) → AllPass is_line_byte bytes → All IsVisibleName (kept_words bytes)
kept-visible bytes plain =
    All-take IsVisibleName (position_or_len ends_line (words_of bytes)) (words_of bytes) (plain_words-visible bytes plain)

-- a line with no fault that isn't passed has bytes that may stand in a line
line-plain : (line : List ℕ) → line_fault line ≡ None → (line_sort line ≡ Passed → ⊥) → AllPass is_line_byte line
unfolding line_sort
line-plain line sound counts =
    AllPass-from_list_all is_line_byte line (by (first_solid line) (nat_lt LONGEST_LINE (length line)) (list_all is_line_byte line) sound counts)
  where
    starred : (byte : ℕ) (comment long all : Bool) →
        (if long then Some LineTooLong else (if comment || all then None else Some BadByte)) ≡ None →
        ((if comment || is_ender byte then Passed else (if byte == plus then More else Begins)) ≡ Passed → ⊥) → all ≡ true
    starred byte true long all sound counts = absurd (counts refl)
    starred byte false true all sound counts = absurd (cc)
    starred byte false false true sound counts = refl
    starred byte false false false sound counts = absurd (cc)

    by : (first : Option ℕ) (long all : Bool) →
        (if long then Some LineTooLong else (if option_map_or (λ byte. byte == star) first false || all then None else Some BadByte)) ≡ None →
        (sort_by first ≡ Passed → ⊥) → all ≡ true
    by None long all sound counts = absurd (counts refl)
    by (Some byte) long all sound counts = starred byte (byte == star) long all sound counts

-- a line that begins a card has visible words
begins-visible : (line : List ℕ) → line_fault line ≡ None → line_sort line ≡ Begins → All IsVisibleName (kept_words line)
begins-visible line sound is = kept-visible line (line-plain line sound (λ passed. clash passed))
  where
    clash : line_sort line ≡ Passed → ⊥
    clash passed = absurd (cc)

-- and so has one that goes on with a card
more-visible : (line : List ℕ) → line_fault line ≡ None → line_sort line ≡ More → All IsVisibleName (kept_words (after_sign line))
more-visible line sound is =
    kept-visible (after_sign line)
    (All-drop (λ byte. is_line_byte byte ≡ true) (position_or_len (λ byte. not (is_blank byte)) line + 1) line (line-plain line sound clash))
  where
    clash : line_sort line ≡ Passed → ⊥
    clash passed = absurd (cc)

-- no line up to the end of the deck has a fault
abbrev AreSound : List (ℕ × List ℕ) → Type 0
AreSound [] = Unit {0}
AreSound (line ∷ lines) = (line_fault line.1 ≡ None) × (is_end line.1 ≡ false → AreSound lines)

-- a line that begins no card isn't the end
goes_on : (line word : List ℕ) (sort : LineSort) → (sort ≡ Begins → ⊥) → begins_by sort line word ≡ false
goes_on line word Passed other = refl
goes_on line word More other = refl
goes_on line word Begins other = absurd (other refl)

-- the words that lines without a fault go on with are visible names
continued-visible : (lines : List (ℕ × List ℕ)) → AreSound lines → All IsVisibleName (continued lines)
continued-visible [] sound = All-nil IsVisibleName
continued-visible (line ∷ lines) sound = by (line_sort line.1) refl (λ goes. continued-visible lines (sound.1 goes))
  where
    by : (sort : LineSort) → line_sort line.1 ≡ sort → (is_end line.1 ≡ false → All IsVisibleName (continued lines)) →
        All IsVisibleName (continued_by sort line.1 (continued lines))
    by Passed is later = later (goes_on line.1 (codes ".end") (line_sort line.1) (λ begins. absurd (cc)))
    by More is later =
        All-append IsVisibleName (kept_words (after_sign line.1)) (continued lines) (more-visible line.1 sound.0 is)
        (later (goes_on line.1 (codes ".end") (line_sort line.1) (λ begins. absurd (cc))))
    by Begins is later = All-nil IsVisibleName

-- ---- cards

-- how many words a part has at least
abbrev pub least_words : PartSort → ℕ
least_words (Transistor set) = TRANSISTOR_WORDS
least_words Call = 2
least_words Opening = 0

-- the words of a part that count are there, and are visible names
pub record IsVisiblePart (part : PartCard) : Type 0 where
  pub words : All IsVisibleName part.words
  pub counted : least_words part.sort ≤ length part.words

-- so are all parts of a deck
pub record IsVisibleDeck (deck : DeckCards) : Type 0 where
  pub outside : All IsVisiblePart deck.outside
  pub inside : All (λ entry. All IsVisiblePart entry.1.parts) deck.subcircuits

-- and those of the subcircuit that has begun
record IsVisibleRead (r : ReadSoFar) : Type 0 where
  deck : IsVisibleDeck r.deck
  begun : IfSome r.begun (λ entry. All IsVisiblePart entry.1.parts)

-- what a card gives, if it isn't refused
abbrev Gives : Result ReadSoFar DeckWhat → Type 0
Gives given = IfOk given IsVisibleRead

-- with one more part
part-visible : (r : ReadSoFar) (part : PartCard) → IsVisibleRead r → IsVisiblePart part → IsVisibleRead (with_part_in r r.begun part)
part-visible r part is visible = by r.begun is.begun
  where
    by : (begun : Option (List ℕ × SubcircuitCards)) → IfSome begun (λ entry. All IsVisiblePart entry.1.parts) → IsVisibleRead (with_part_in r begun part)
    by None opened = record {
      deck = record { outside = All-push IsVisiblePart r.deck.outside part is.deck.outside visible; inside = is.deck.inside };
      begun = is.begun;
    }
    by (Some begun) opened = record { deck = is.deck; begun = All-push IsVisiblePart begun.1.parts part opened visible }

-- a transistor
transistor-visible : (r : ReadSoFar) (line : ℕ) (words : List (List ℕ)) → IsVisibleRead r → All IsVisibleName words → Gives (transistor_meaning r line words)
transistor-visible r line words is visible = by (nat_lt (length words) TRANSISTOR_WORDS) refl
  where
    by : (few : Bool) → nat_lt (length words) TRANSISTOR_WORDS ≡ few →
        Gives (if few then Err FewWords else Ok (with_part r line (Transistor (strength_of (drop 1 words))) (take TRANSISTOR_WORDS words)))
    by true is_few = tt
    by false is_few =
        let enough : TRANSISTOR_WORDS ≤ length words = grind (arith, nat_tests) in
        part-visible r (record { line = line; sort = Transistor (strength_of (drop 1 words)); words = take TRANSISTOR_WORDS words }) is (record {
          words = All-take IsVisibleName TRANSISTOR_WORDS words visible;
          counted = omega (arith, length-take-le TRANSISTOR_WORDS words enough);
        })

-- a call, by its words that count
call-visible : (r : ReadSoFar) (line : ℕ) (words : List (List ℕ)) → IsVisibleRead r → All IsVisibleName words → Gives (call_meaning r line words)
call-visible r line words is visible = by (nat_lt (length words) 2) refl
  where
    by : (few : Bool) → nat_lt (length words) 2 ≡ few → Gives (if few then Err FewWords else Ok (with_part r line Call words))
    by true is_few = tt
    by false is_few =
        let enough : 2 ≤ length words = grind (arith, nat_tests) in
        part-visible r (record { line = line; sort = Call; words = words }) is (record { words = visible; counted = enough })

call_words-visible : (words : List (List ℕ)) → All IsVisibleName words → All IsVisibleName (call_words words)
call_words-visible [] visible = visible
call_words-visible (name ∷ words) visible =
    All-cons IsVisibleName name (before_first ends_call words) (All-head IsVisibleName name words visible)
    (All-take IsVisibleName (position_or_len ends_call words) words (All-tail IsVisibleName name words visible))

-- a subcircuit that begins
opening-visible : (r : ReadSoFar) (line : ℕ) (words : List (List ℕ)) (ended : Bool) → IsVisibleRead r → Gives (opening_meaning r line words ended)
opening-visible r line words ended is =
    by (nat_lt (length words) 2) (is_some r.begun || not ended) (is_some (named r.deck.subcircuits (word_at words 1)))
  where
    by : (few nested again : Bool) →
        Gives (if few then Err FewWords else (if nested then Err BadNesting else (if again then Err Redefined
        else Ok (record r { begun = Some (word_at words 1, record { line = line; ports = drop 2 words; parts = [] }) }))))
    by true nested again = tt
    by false true again = tt
    by false false true = tt
    by false false false = record { deck = is.deck; begun = All-nil IsVisiblePart }

-- one that ends
closing-visible : (r : ReadSoFar) → IsVisibleRead r → Gives (closing_meaning r r.begun)
closing-visible r is = by r.begun is.begun
  where
    put : (begun : List ℕ × SubcircuitCards) → All IsVisiblePart begun.1.parts → (there : Bool) →
        All (λ entry. All IsVisiblePart entry.1.parts) (if there then r.deck.subcircuits else r.deck.subcircuits ++ begun ∷ [])
    put begun visible true = is.deck.inside
    put begun visible false =
        All-push (λ (entry : List ℕ × SubcircuitCards). All IsVisiblePart entry.1.parts) r.deck.subcircuits begun is.deck.inside visible

    by : (begun : Option (List ℕ × SubcircuitCards)) → IfSome begun (λ entry. All IsVisiblePart entry.1.parts) → Gives (closing_meaning r begun)
    by None opened = tt
    by (Some begun) opened = record {
      deck = record { outside = is.deck.outside; inside = put begun opened (is_some (named r.deck.subcircuits begun.0)) };
      begun = tt;
    }

-- a model
model-visible : (r : ReadSoFar) (words : List (List ℕ)) → IsVisibleRead r → Gives (model_meaning r words)
model-visible r words is = by (nat_lt (length words) 3)
  where
    put : (kind : Option SwitchKind) → IsVisibleRead (with_model r (word_at words 1) kind)
    put None = is
    put (Some kind) = record { deck = record { outside = is.deck.outside; inside = is.deck.inside }; begun = is.begun }

    by : (few : Bool) → Gives (if few then Err FewWords else Ok (with_model r (word_at words 1) (kind_of_type (word_at words 2))))
    by true = tt
    by false = put (kind_of_type (word_at words 2))

-- a card
card-visible : (r : ReadSoFar) (line : ℕ) (sort : CardSort) (words : List (List ℕ)) (ended : Bool) → IsVisibleRead r → All IsVisibleName words →
    Gives (card_meaning r line sort words ended)
card-visible r line card.Transistor words ended is visible = transistor-visible r line words is visible
card-visible r line card.Call words ended is visible = call-visible r line (call_words words) is (call_words-visible words visible)
card-visible r line card.Opening words ended is visible = opening-visible r line (opening_words words) ended is
card-visible r line card.Closing words ended is visible = closing-visible r is
card-visible r line card.Model words ended is visible = model-visible r words is
card-visible r line card.Globals words ended is visible =
    record { deck = record { outside = is.deck.outside; inside = is.deck.inside }; begun = is.begun }
card-visible r line card.Passed words ended is visible = is
card-visible r line card.Bad words ended is visible = tt

-- ---- decks

-- a line that isn't refused has no fault
line-sound : (cut : Option ℕ) (r next : ReadSoFar) (line : ℕ × List ℕ) (later : List (ℕ × List ℕ)) → line_meaning cut r line later ≡ Ok next →
    line_fault line.1 ≡ None
unfolding line_meaning
line-sound cut r next line later same = by (is_cut cut line.0) (line_fault line.1) same
  where
    by : (cut : Bool) (fault : Option DeckWhat) → (if cut then Err TooLong else checked_meaning r line fault later) ≡ Ok next → fault ≡ None
    by true fault same = absurd (cc)
    by false (Some what) same = absurd (cc)
    by false None same = refl

-- what a line gives that isn't refused, if its card has visible words
line-visible : (cut : Option ℕ) (r next : ReadSoFar) (line : ℕ × List ℕ) (later : List (ℕ × List ℕ)) → IsVisibleRead r →
    ((ended : Bool) → line_sort line.1 ≡ Begins →
    Gives (card_meaning (record r { has_card = true }) line.0 (card_sort (first_word line.1)) (card_words line.1 later) ended)) →
    line_meaning cut r line later ≡ Ok next → IsVisibleRead next
unfolding line_meaning
line-visible cut r next line later is of_card same = by (is_cut cut line.0) (line_fault line.1) (line_sort line.1) refl same
  where
    of_sort : (sort : LineSort) → line_sort line.1 ≡ sort → Gives (sorted_meaning r line sort later)
    of_sort Passed sorted = is
    of_sort More sorted = going (r.has_card)
      where
        going : (has : Bool) → Gives (if has then Ok r else Err BadCard)
        going true = is
        going false = tt
    of_sort Begins sorted = of_card (is_ended later) sorted

    by : (cut : Bool) (fault : Option DeckWhat) (sort : LineSort) → line_sort line.1 ≡ sort →
        (if cut then Err TooLong else checked_meaning r line fault later) ≡ Ok next → IsVisibleRead next
    by true fault sort sorted same = absurd (cc)
    by false (Some what) sort sorted same = absurd (cc)
    by false None sort sorted same = subst Gives same (of_sort (line_sort line.1) refl)

-- where the lines give a deck, none up to its end has a fault
lines-sound : (cut : Option ℕ) (lines : List (ℕ × List ℕ)) (r : ReadSoFar) (deck : DeckCards) → lines_meaning cut r lines ≡ Ok deck → AreSound lines
unfolding lines_meaning
lines-sound cut [] r deck same = tt
lines-sound cut (line ∷ lines) r deck same =
    by (line_meaning cut r line lines) refl same (λ next rest. lines-sound cut lines next deck rest)
  where
    onward : (next : ReadSoFar) (ends : Bool) → (if ends then unless (tail_fault cut lines) (Ok next.deck) else lines_meaning cut next lines) ≡ Ok deck →
        ends ≡ false → lines_meaning cut next lines ≡ Ok deck
    onward next true same goes = absurd (cc)
    onward next false same goes = same

    by : (given : Result ReadSoFar DeckWhat) → line_meaning cut r line lines ≡ given →
        going_on line.0 given (λ next. if is_end line.1 then unless (tail_fault cut lines) (Ok next.deck) else lines_meaning cut next lines) ≡ Ok deck →
        ((next : ReadSoFar) → lines_meaning cut next lines ≡ Ok deck → AreSound lines) →
        (line_fault line.1 ≡ None) × (is_end line.1 ≡ false → AreSound lines)
    by (Err what) gives same later = absurd (cc)
    by (Ok next) gives same later =
        (line-sound cut r next line lines gives, λ goes. later next (onward next (is_end line.1) same goes))

-- the line that ends a deck gives nothing, whatever its words
end-gives : (r : ReadSoFar) (line : ℕ) (word : List ℕ) (words : List (List ℕ)) (ended : Bool) → bytes_eq word (codes ".end") ≡ true → IsVisibleRead r →
    Gives (card_meaning r line (card_sort word) words ended)
end-gives r line word words ended same is =
    let is_word : word ≡ codes ".end" = (bytes_eq-Decides word (codes ".end")).0 same in
    subst (λ (w : List ℕ). Gives (card_meaning r line (card_sort w) words ended)) (sym is_word) is

-- the words of the deck that lines give are visible names
lines-visible : (cut : Option ℕ) (lines : List (ℕ × List ℕ)) (r : ReadSoFar) (deck : DeckCards) → IsVisibleRead r → lines_meaning cut r lines ≡ Ok deck →
    IsVisibleDeck deck
unfolding lines_meaning
lines-visible cut [] r deck is same = subst (λ (g : Result DeckCards DeckRefusal). IfOk g IsVisibleDeck) same is.deck
lines-visible cut (line ∷ lines) r deck is same =
    by (line_meaning cut r line lines) refl same (λ next visible rest. lines-visible cut lines next deck visible rest)
  where
    carded : IsVisibleRead (record r { has_card = true })
    carded = record { deck = is.deck; begun = is.begun }

    of_card : (next : ReadSoFar) (ends : Bool) → is_end line.1 ≡ ends →
        (if ends then unless (tail_fault cut lines) (Ok next.deck) else lines_meaning cut next lines) ≡ Ok deck →
        line_fault line.1 ≡ None → (ended : Bool) → line_sort line.1 ≡ Begins →
        Gives (card_meaning (record r { has_card = true }) line.0 (card_sort (first_word line.1)) (card_words line.1 lines) ended)
    of_card next true ends same sound ended begins =
        end-gives (record r { has_card = true }) line.0 (first_word line.1) (card_words line.1 lines) ended
        (ap (λ (sort : LineSort). begins_by sort line.1 (codes ".end")) (sym begins) ∙ ends) carded
    of_card next false ends same sound ended begins =
        card-visible (record r { has_card = true }) line.0 (card_sort (first_word line.1)) (card_words line.1 lines) ended carded
        (All-append IsVisibleName (kept_words line.1) (continued lines) (begins-visible line.1 sound begins)
        (continued-visible lines (lines-sound cut lines next deck same)))

    last : (next : ReadSoFar) (fault : Option DeckRefusal) → IsVisibleDeck next.deck → unless fault (Ok next.deck) ≡ Ok deck → IsVisibleDeck deck
    last next None visible same = subst (λ (g : Result DeckCards DeckRefusal). IfOk g IsVisibleDeck) same visible
    last next (Some fault) visible same = absurd (cc)

    onward : (next : ReadSoFar) (ends : Bool) → IsVisibleRead next →
        (if ends then unless (tail_fault cut lines) (Ok next.deck) else lines_meaning cut next lines) ≡ Ok deck →
        (IsVisibleRead next → lines_meaning cut next lines ≡ Ok deck → IsVisibleDeck deck) → IsVisibleDeck deck
    onward next true visible same later = last next (tail_fault cut lines) visible.deck same
    onward next false visible same later = later visible same

    by : (given : Result ReadSoFar DeckWhat) → line_meaning cut r line lines ≡ given →
        going_on line.0 given (λ next. if is_end line.1 then unless (tail_fault cut lines) (Ok next.deck) else lines_meaning cut next lines) ≡ Ok deck →
        ((next : ReadSoFar) → IsVisibleRead next → lines_meaning cut next lines ≡ Ok deck → IsVisibleDeck deck) → IsVisibleDeck deck
    by (Err what) gives same later = absurd (cc)
    by (Ok next) gives same later =
        let visible : IsVisibleRead next = line-visible cut r next line lines is
        (of_card next (is_end line.1) refl same (line-sound cut r next line lines gives)) gives in
        onward next (is_end line.1) visible same (later next)

-- a deck without cards
none-visible : IsVisibleDeck no_cards
none-visible = record { outside = All-nil IsVisiblePart; inside = All-nil (λ (entry : List ℕ × SubcircuitCards). All IsVisiblePart entry.1.parts) }

-- the words of the deck of a text are visible names
titled-visible : (cut : Option ℕ) (lines : List (ℕ × List ℕ)) (deck : DeckCards) → titled_meaning cut lines ≡ Ok deck → IsVisibleDeck deck
unfolding titled_meaning
titled-visible cut [] deck same = subst (λ (g : Result DeckCards DeckRefusal). IfOk g IsVisibleDeck) same none-visible
titled-visible cut (title ∷ lines) deck same = by (unread_fault cut title) same
  where
    by : (fault : Option DeckRefusal) → unless fault (lines_meaning cut nothing_read lines) ≡ Ok deck → IsVisibleDeck deck
    by (Some fault) same = absurd (cc)
    by None same = lines-visible cut lines nothing_read deck (record { deck = none-visible; begun = tt }) same

pub cards_of-visible : (text : List ℕ) (deck : DeckCards) → cards_of text ≡ Ok deck → IsVisibleDeck deck
unfolding cards_of
cards_of-visible text deck same = titled-visible (cut_line text) (deck_lines text) deck same
