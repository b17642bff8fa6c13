-- What was looked up for the cards of calls.
use Rattle.std.specs.Prelude.{◌≡◌, ℕ, Some}
use Rattle.spice_cards.specs.Decks.{DeckCards}
use Rattle.spice_cards.specs.Tables.{named}
use Rattle.spice_read.specs.declared.found.Found.{Found}

-- the name stands in the deck for the subcircuit that was found
abbrev pub IsFound : DeckCards → (ℕ × Found) → Type 0
IsFound deck entry =
    named deck.subcircuits entry.1.name.now
    ≡ Some (record { line = entry.1.subcircuit.line; ports = entry.1.subcircuit.ports; parts = entry.1.subcircuit.parts })
