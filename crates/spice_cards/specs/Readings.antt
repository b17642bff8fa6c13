-- What was read of a deck, as it is kept: subcircuits by the places of their cards.
use Rattle.std.specs.Prelude.{◌≡◌, ⊤, ℕ, ◌-◌, ◌<◌, ◌≤◌, Bool, List, [], ◌∷◌, All, length, map, take, drop, Option, Some, None}
use Rattle.switch_paths.specs.declared.switching.SwitchKind.{SwitchKind}
use Rattle.spice_cards.specs.declared.places.SubcircuitPlace.{SubcircuitPlace}
use Rattle.spice_cards.specs.CardLines.{head_of}
use Rattle.spice_cards.specs.Decks.{DeckCards, PartCard, SubcircuitCards}
use Rattle.spice_cards.specs.Pools.{PoolData}
use Rattle.spice_cards.specs.Reading.{ReadSoFar}

-- what was read, and the words of the card that is being read
pub record ReadingData : Type 0 where
  pub so_far : ReadSoFar
  pub pending : List (List ℕ)

-- the subcircuit that begins with its `.subckt` card and goes on with these parts
abbrev pub subcircuit_of : List PartCard → SubcircuitCards
subcircuit_of [] = record { line = 0; ports = []; parts = [] }
subcircuit_of (opening ∷ parts) = record { line = opening.line; ports = drop 2 opening.words; parts = parts }

-- the name of a subcircuit, by its `.subckt` card and its parts
abbrev pub name_of : List PartCard → List ℕ
name_of [] = []
name_of (opening ∷ parts) = head_of (drop 1 opening.words)

-- the parts of a subcircuit with its `.subckt` card
abbrev pub between : List PartCard → SubcircuitPlace → List PartCard
between inside place = take (place.end - place.opening) (drop place.opening inside)

-- the subcircuits at these places
abbrev pub subcircuits_at : List PartCard → List (List ℕ × SubcircuitPlace) → List (List ℕ × SubcircuitCards)
subcircuits_at inside places = map (λ entry. (entry.0, subcircuit_of (between inside entry.1))) places

-- the subcircuit that has begun at a place, where one has
abbrev pub begun_at : List PartCard → Option ℕ → Option (List ℕ × SubcircuitCards)
begun_at inside None = None
begun_at inside (Some opening) = Some (name_of (drop opening inside), subcircuit_of (drop opening inside))

-- what was read, by what is kept of it
abbrev pub reading_of : PoolData → List (List ℕ × SubcircuitPlace) → List (List ℕ × SwitchKind) → List (List ℕ × Unit {0}) → Option ℕ → Bool → ReadingData
reading_of pool places models globals begun has_card = record {
  so_far = record {
    deck = record {
      outside = pool.outside;
      subcircuits = subcircuits_at pool.inside places;
      models = models;
      globals = globals;
    };
    begun = begun_at pool.inside begun;
    has_card = has_card;
  };
  pending = pool.pending;
}

-- the place of a subcircuit is within so many parts
pub record IsWithin (count : ℕ) (place : SubcircuitPlace) : Type 0 where
  pub ordered : place.opening < place.end
  pub within : place.end ≤ count

-- a subcircuit has begun at one of so many parts, or none has
abbrev pub IsBegun : ℕ → Option ℕ → Type 0
IsBegun count None = ⊤
IsBegun count (Some opening) = opening < count

-- the places of all subcircuits are within so many parts
pub record IsReading (count : ℕ) (places : List (List ℕ × SubcircuitPlace)) (start : Option ℕ) : Type 0 where
  pub subcircuits : All (λ entry. IsWithin count entry.1) places
  pub begun : IsBegun count start

-- what was read with other words pending
abbrev pub with_words_of : ReadingData → List (List ℕ) → ReadingData
with_words_of r words = record { so_far = r.so_far; pending = words }

-- what was read with another deck, the rest staying as it is
abbrev pub with_deck : ReadSoFar → DeckCards → ReadSoFar
with_deck r deck = record r { deck = deck }
