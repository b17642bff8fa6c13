-- Notes of a run over a maker of functions.
use Rattle.std.specs.Prelude.{◌≡◌, ℕ, ◌+◌, ◌<◌, ◌≤◌, List, [], ◌∷◌, length, take, drop, All}
use Rattle.decision_graph.specs.declared.vertex.Function.{Function}
use Rattle.truth_makers.specs.declared.symbols.Symbols.{Symbols}
use Rattle.truth_makers.specs.Makers.{columns_in}
use Rattle.symbol_told.specs.declared.notes.WaveNote.{WaveNote}
use Rattle.symbol_told.specs.Noting.{NotesData}
use Rattle.symbol_comparing.specs.Notes.{rails_in}
use Rattle.symbol_comparing.specs.Rails.{letters_in, AreRailsOf}

-- how many nodes waveform lines show
abbrev pub nodes_shown : List WaveNote → ℕ
nodes_shown [] = 0
nodes_shown (wave ∷ waves) = wave.nodes + nodes_shown waves

-- the rails are the maker's, and as many as the lines show nodes; the words that a line shows are watched
pub record AreNotes (symbols : Symbols) (notes : NotesData) : Type 0 where
  pub rails : AreRailsOf symbols (rails_in notes)
  pub counted : nodes_shown notes.waves ≡ length notes.highs
  pub few : All (λ wave. wave.words ≤ length notes.words) notes.waves

-- over a later maker notes have the same words and lines, and in each column the same states
pub record ShowAlike (old new : Symbols) (before after : NotesData) : Type 0 where
  pub words : after.words ≡ before.words
  pub waves : after.waves ≡ before.waves
  pub states : (column : ℕ) → column < columns_in old → letters_in new (rails_in after) column ≡ letters_in old (rails_in before) column

-- notes of an earlier run show over a later maker what they showed
pub record StillShow (old new : Symbols) (before after : NotesData) : Type 0 where
  pub whole : AreNotes new after
  pub alike : ShowAlike old new before after

-- notes with the first of these functions in the place of their rails, and those that are left
abbrev pub with_rails : NotesData → List Function → NotesData
with_rails notes all = record notes { highs = take (length notes.highs) all; lows = take (length notes.lows) (drop (length notes.highs) all) }

abbrev pub rails_left : NotesData → List Function → List Function
rails_left notes all = drop (length notes.lows) (drop (length notes.highs) all)
