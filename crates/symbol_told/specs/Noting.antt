-- What is noted of waveform lines for who compares them: the rails of the nodes that they show, by the words that were watched by then.
use Rattle.std.specs.Prelude.{ℕ, List, [], ◌∷◌, ◌++◌, length}
use Rattle.decision_graph.specs.declared.vertex.Function.{Function}
use Rattle.symbol_meaning.specs.Told.{SymbolTold, Wave}
use Rattle.symbol_meaning.specs.Comparing.{Watched}
use Rattle.symbol_told.specs.declared.notes.WaveNote.{WaveNote}
use Rattle.symbol_told.specs.Lines.{Telling}

-- the words that are watched, each with the number of its nodes; the waveform lines; and the rails of the nodes of all of them, line by line, where
-- each may be 1 and where it may be 0
pub record NotesData : Type 0 where
  pub words : List Watched
  pub waves : List WaveNote
  pub highs : List Function
  pub lows : List Function

-- nothing yet
abbrev pub no_notes : NotesData
no_notes = record { words = []; waves = []; highs = []; lows = [] }

-- with a waveform line more
abbrev pub with_wave : NotesData → ℕ → List Function → List Function → NotesData
with_wave notes n highs lows = record notes {
  waves = notes.waves ++ record { n = n; words = length notes.words; nodes = length highs } ∷ [];
  highs = notes.highs ++ highs;
  lows = notes.lows ++ lows;
}

-- with any line more: those of other kinds are passed over
abbrev pub with_line : NotesData → SymbolTold → List Function → List Function → NotesData
with_line notes (Wave n k mark letters) highs lows = with_wave notes n highs lows
with_line notes line highs lows = notes

-- one line more is noted
abbrev pub note : NotesData → Telling → NotesData
note notes told = with_line notes told.line told.highs told.lows

-- one word more is watched, which stands for so many nodes
abbrev pub with_word : NotesData → List ℕ → ℕ → NotesData
with_word notes word nodes = record notes { words = notes.words ++ (word, nodes) ∷ [] }
