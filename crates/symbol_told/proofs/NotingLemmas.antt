-- What notes keep of lines: the words stay as they are.
use Rattle.std.proofs.Common.{◌≡◌, List, [], ◌∷◌, refl, ◌∙◌}
use Rattle.told_lines.specs.Hearing.{hear_all}
use Rattle.symbol_meaning.specs.Told.{SymbolTold, Wave, Unmet, Shown, Looked, AtEnd, AtGate}
use Rattle.decision_graph.specs.declared.vertex.Function.{Function}
use Rattle.symbol_told.specs.Lines.{Telling}
use Rattle.symbol_told.specs.Noting.{NotesData, note, with_line}

-- a line leaves the words
words-line : (notes : NotesData) (line : SymbolTold) (highs lows : List Function) → (with_line notes line highs lows).words ≡ notes.words
words-line notes (Wave n k mark letters) highs lows = refl
words-line notes (Unmet name wanted got n truths) highs lows = refl
words-line notes (Shown name letters) highs lows = refl
words-line notes (Looked name letter sort) highs lows = refl
words-line notes (AtEnd switch gate gate_letter end end_letter) highs lows = refl
words-line notes (AtGate switch source source_letter drain drain_letter) highs lows = refl

-- so lines do
pub words-still : (notes : NotesData) (lines : List Telling) → (hear_all note notes lines).words ≡ notes.words
words-still notes [] = refl
words-still notes (told ∷ lines) = words-still (note notes told) lines ∙ words-line notes told.line told.highs told.lows
