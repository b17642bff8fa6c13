-- The meaning of a deck's lines, by that of the first one.
use Rattle.std.proofs.Common.{◌≡◌, ℕ, Bool, true, false, List, [], ◌∷◌, Option, Result, Ok, Err, IfOk, IfErr, refl, sym, ◌∙◌, ap, if◌then◌else◌}
use Rattle.std.proofs.lemmas.Bool.{cond-true, cond-false}
use Rattle.ternary.specs.declared.unmade.Unmade.{Unmade}
use Rattle.ternary.specs.declared.unmade.Unmade.TheVariants.{Refused, NoMemory}
use Rattle.ternary.specs.Unmade.{IsFault}
use Rattle.spice_cards.specs.declared.fault.DeckRefusal.{DeckRefusal}
use Rattle.spice_cards.specs.declared.fault.DeckWhat.{DeckWhat}
use Rattle.spice_cards.specs.CardLines.{is_end}
use Rattle.spice_cards.specs.Decks.{DeckCards}
use Rattle.spice_cards.specs.Reading.{ReadSoFar, fault_at, going_on, line_meaning, lines_meaning, tail_fault, unless}

-- by what its first line gives
first_line : (cut : Option ℕ) (r : ReadSoFar) (line : ℕ × List ℕ) (later : List (ℕ × List ℕ)) (given : Result ReadSoFar DeckWhat) →
    line_meaning cut r line later ≡ given →
    lines_meaning cut r (line ∷ later) ≡ going_on line.0 given
    (λ next. if is_end line.1 then unless (tail_fault cut later) (Ok next.deck) else lines_meaning cut next later)
unfolding lines_meaning
first_line cut r line later given gives =
    ap (λ (m : Result ReadSoFar DeckWhat). going_on line.0 m
    (λ next. if is_end line.1 then unless (tail_fault cut later) (Ok next.deck) else lines_meaning cut next later)) gives

-- a refused line
pub lines-refused : (cut : Option ℕ) (r : ReadSoFar) (all : List (ℕ × List ℕ)) (line : ℕ × List ℕ) (later : List (ℕ × List ℕ)) (why : Unmade DeckWhat)
    (whole : Result DeckCards DeckRefusal) (told : Unmade DeckRefusal) →
    all ≡ line ∷ later → IsFault (line_meaning cut r line later) why → lines_meaning cut r all ≡ whole → told ≡ fault_at line.0 why → IsFault whole told
lines-refused cut r all line later why whole told first refused seen tells =
    rw tells (by why refused)
  where
    by : (why : Unmade DeckWhat) → IsFault (line_meaning cut r line later) why → IsFault whole (fault_at line.0 why)
    by NoMemory lacks = tt
    by (Refused what) refuses =
        sym seen ∙ ap (lines_meaning cut r) first ∙ first_line cut r line later (Err what) refuses

-- a line with others after it
pub lines-next : (cut : Option ℕ) (r next : ReadSoFar) (all : List (ℕ × List ℕ)) (line : ℕ × List ℕ) (later : List (ℕ × List ℕ))
    (whole : Result DeckCards DeckRefusal) →
    all ≡ line ∷ later → line_meaning cut r line later ≡ Ok next → is_end line.1 ≡ false → lines_meaning cut r all ≡ whole →
    lines_meaning cut next later ≡ whole
lines-next cut r next all line later whole first gives goes_on seen =
    sym (cond-false (is_end line.1) (unless (tail_fault cut later) (Ok next.deck)) (lines_meaning cut next later) goes_on)
    ∙ sym (first_line cut r line later (Ok next) gives) ∙ ap (lines_meaning cut r) (sym first) ∙ seen

-- the line that ends the deck
pub lines-ended : (cut : Option ℕ) (r next : ReadSoFar) (all : List (ℕ × List ℕ)) (line : ℕ × List ℕ) (later : List (ℕ × List ℕ))
    (whole : Result DeckCards DeckRefusal) →
    all ≡ line ∷ later → line_meaning cut r line later ≡ Ok next → is_end line.1 ≡ true → lines_meaning cut r all ≡ whole →
    unless (tail_fault cut later) (Ok next.deck) ≡ whole
lines-ended cut r next all line later whole first gives ends seen =
    sym (cond-true (is_end line.1) (unless (tail_fault cut later) (Ok next.deck)) (lines_meaning cut next later) ends)
    ∙ sym (first_line cut r line later (Ok next) gives) ∙ ap (lines_meaning cut r) (sym first) ∙ seen

-- no line is left
pub lines-none : (cut : Option ℕ) (r : ReadSoFar) (all : List (ℕ × List ℕ)) (whole : Result DeckCards DeckRefusal) → all ≡ [] →
    lines_meaning cut r all ≡ whole → whole ≡ Ok r.deck
unfolding lines_meaning
lines-none cut r all whole none seen = sym seen ∙ ap (lines_meaning cut r) none
