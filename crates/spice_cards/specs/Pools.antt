-- The words and parts of a deck, as they are kept: the bytes of all words one behind the other, the places of the words among these
-- bytes in one list, and for each part the place of its own words in that list.
use Rattle.std.specs.Prelude.{ℕ, ◌-◌, ◌≤◌, Bool, true, false, not, ◌&&◌, List, [], ◌∷◌, ◌++◌, All, filter, length, map, take, drop}
use Rattle.spice_cards.specs.declared.places.PartPlace.{PartPlace}
use Rattle.spice_cards.specs.declared.places.Span.{Span}
use Rattle.spice_cards.specs.CardSorts.{is_setting}
use Rattle.spice_cards.specs.Decks.{PartCard}

-- the parts outside subcircuits, the parts inside them with the `.subckt` cards, and the words of the card that is being read
pub record PoolData : Type 0 where
  pub outside : List PartCard
  pub inside : List PartCard
  pub pending : List (List ℕ)

-- the bytes of a word
abbrev pub word_of : List ℕ → Span → List ℕ
word_of text span = take (span.end - span.at) (drop span.at text)

-- the words at these places of a text
abbrev pub words_at : List ℕ → List Span → List (List ℕ)
words_at text spans = map (word_of text) spans

-- the part at a place
abbrev pub part_at : List (List ℕ) → PartPlace → PartCard
part_at words place = record { line = place.line; sort = place.sort; words = take (place.end - place.first) (drop place.first words) }

-- the parts at these places
abbrev pub parts_at : List (List ℕ) → List PartPlace → List PartCard
parts_at words places = map (part_at words) places

-- a pool, by all words, how many of them are those of parts, and the places of the parts
abbrev pub pool_of : List (List ℕ) → ℕ → List PartPlace → List PartPlace → PoolData
pool_of words kept outside inside =
    record { outside = parts_at words outside; inside = parts_at words inside; pending = drop kept words }

-- the place is within so many words
pub record IsPlace (count : ℕ) (place : PartPlace) : Type 0 where
  pub ordered : place.first ≤ place.end
  pub within : place.end ≤ count

-- the pool with the first so many of the pending words as those of one more part, outside subcircuits
abbrev pub with_outside : PoolData → PartCard → PoolData
with_outside pool part = record { outside = pool.outside ++ part ∷ []; inside = pool.inside; pending = [] }

-- the same inside a subcircuit
abbrev pub with_inside : PoolData → PartCard → PoolData
with_inside pool part = record { outside = pool.outside; inside = pool.inside ++ part ∷ []; pending = [] }

-- inside a subcircuit or outside
abbrev pub with_kept : Bool → PoolData → PartCard → PoolData
with_kept true pool part = with_inside pool part
with_kept false pool part = with_outside pool part

-- the word is within so many bytes
pub record IsSpan (count : ℕ) (span : Span) : Type 0 where
  pub ordered : span.at ≤ span.end
  pub within : span.end ≤ count

-- the pool is well formed: each word is within so many bytes, as many words as are kept are there, and each part has its words among them
pub record IsPool (bytes : ℕ) (spans : List Span) (kept : ℕ) (outside_places inside_places : List PartPlace) : Type 0 where
  pub words : All (IsSpan bytes) spans
  pub counted : kept ≤ length spans
  pub outside : All (IsPlace kept) outside_places
  pub inside : All (IsPlace kept) inside_places

-- the pool with these words behind the pending ones
abbrev pub with_words : PoolData → List (List ℕ) → PoolData
with_words pool words = record { outside = pool.outside; inside = pool.inside; pending = pool.pending ++ words }

-- the pool with these words pending
abbrev pub with_pending : PoolData → List (List ℕ) → PoolData
with_pending pool words = record { outside = pool.outside; inside = pool.inside; pending = words }

-- the word is taken from a card: all are, or those that are plain
abbrev pub is_taken : Bool → List ℕ → Bool
is_taken plain word = not (plain && is_setting word)

-- the words that are taken
abbrev pub taken : Bool → List (List ℕ) → List (List ℕ)
taken plain words = filter (is_taken plain) words
