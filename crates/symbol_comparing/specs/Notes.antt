-- What the notes of a run show in each column, by the functions of a maker.
use Rattle.std.specs.Prelude.{◌≡◌, ℕ, List, [], ◌∷◌, map, take, drop}
use Rattle.ternary.specs.declared.tern.Tern.{Tern}
use Rattle.truth_makers.specs.declared.symbols.Symbols.{Symbols}
use Rattle.symbol_meaning.specs.Comparing.{Shown, Watched, by_words}
use Rattle.symbol_told.specs.declared.notes.WaveNote.{WaveNote}
use Rattle.symbol_told.specs.Noting.{NotesData}
use Rattle.symbol_comparing.specs.Rails.{RailLists, letters_in, rails_of, AreRailsOf}

-- what waveform lines show, where these are the states of their nodes, line by line
abbrev pub shown_from : List Watched → List WaveNote → List Tern → List Shown
shown_from words [] states = []
shown_from words (wave ∷ waves) states =
    (wave.n, by_words (take wave.words words) (take wave.nodes states)) ∷ shown_from words waves (drop wave.nodes states)

-- the rails of the nodes of all lines
abbrev pub rails_in : NotesData → RailLists
rails_in notes = rails_of notes.highs notes.lows

-- what notes show in a column
abbrev pub shown_in : Symbols → NotesData → ℕ → List Shown
shown_in symbols notes column = shown_from notes.words notes.waves (letters_in symbols (rails_in notes) column)

-- of a word its name, and of a waveform line its number and how many words were watched by then
abbrev pub names_of : List Watched → List (List ℕ)
names_of words = map (λ own. own.0) words

abbrev pub heads_of : List WaveNote → List (ℕ × ℕ)
heads_of waves = map (λ wave. (wave.n, wave.words)) waves

-- two runs have the same words and the same waveform lines, as those of one script have, but perhaps other numbers of nodes
pub record AreAlike (one other : NotesData) : Type 0 where
  pub words : names_of one.words ≡ names_of other.words
  pub waves : heads_of one.waves ≡ heads_of other.waves

-- both runs were noted over one maker
pub record AreNoted (symbols : Symbols) (one other : NotesData) : Type 0 where
  pub alike : AreAlike one other
  pub first : AreRailsOf symbols (rails_in one)
  pub second : AreRailsOf symbols (rails_in other)
