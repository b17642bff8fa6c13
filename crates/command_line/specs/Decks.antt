-- Which files are read as decks, by their names, in requests that take a netlist or a deck.
use Rattle.std.specs.Prelude.{ℕ, Bool, ◌==◌, List, [], ◌∷◌, codes}
use Rattle.std.specs.List.{list_any, ends_with}

-- what the names of decks end in
abbrev pub deck_endings : List (List ℕ)
deck_endings = codes ".sp" ∷ codes ".spi" ∷ codes ".spice" ∷ codes ".cir" ∷ codes ".ckt" ∷ []

-- a name ends in one of these, in these letters
abbrev pub is_deck_name : List ℕ → Bool
is_deck_name name = list_any (ends_with ◌==◌ name) deck_endings
