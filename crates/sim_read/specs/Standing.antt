-- What a reader of a netlist stands for: the text so far, wherever its pieces fell.
use Rattle.std.specs.Prelude.{◌≡◌, ◌≤◌, ◌+◌, ℕ, List, ◌++◌, length, take, min, Option, None, Some, Result, Ok, Err}
use Rattle.std.specs.List.{enumerate_from}
use Rattle.line_words.specs.declared.files.TheConstants.{MOST_FILE_BYTES}
use Rattle.line_words.specs.Lines.{HasNoFeed}
use Rattle.line_words.specs.Pieces.{AreEnded}
use Rattle.ternary.specs.declared.unmade.Unmade.{Unmade}
use Rattle.ternary.specs.declared.unmade.Unmade.TheVariants.{Refused, NoMemory}
use Rattle.sim_read.specs.declared.fault.NetRefusal.{NetRefusal}
use Rattle.sim_read.specs.declared.fault.NetWhat.{NetWhat}
use Rattle.sim_read.specs.declared.fault.NetWhat.TheVariants.{TooLong}
use Rattle.sim_read.specs.declared.pieces.TheConstants.{MOST_HELD}
use Rattle.sim_read.specs.Drafts.{DraftData, rails_draft}
use Rattle.sim_read.specs.Meaning.{lines_meaning, netlist_of}

-- what was read: what the lines before gave, how many an LF ended, how many bytes came, those of the line that hasn't ended, and why it stopped
pub record ReaderData : Type 0 where
  pub draft : DraftData
  pub ended : ℕ
  pub bytes : ℕ
  pub held : List ℕ
  pub fault : Option (Unmade NetRefusal)

-- so many bytes and some more, counted up to the first byte too many
abbrev pub counted : ℕ → ℕ → ℕ
counted bytes more = min (bytes + more) (MOST_FILE_BYTES + 1)

-- no line that an LF ends has a refusal: the draft and the number are what these lines give, and the rest of the text is held, as far as
-- a reader holds it. The text isn't too long, so none of these lines holds the first byte too many
pub record IsOpen (r : ReaderData) (text : List ℕ) : Type 0 where
  pub front : List ℕ
  pub rest : List ℕ
  pub lines : List (List ℕ)
  pub parts : text ≡ front ++ rest
  pub are : AreEnded front lines
  pub unended : HasNoFeed rest
  pub short : length text ≤ MOST_FILE_BYTES
  pub number : r.ended ≡ length lines
  pub holds : r.held ≡ take MOST_HELD rest
  pub drafts : lines_meaning None rails_draft (enumerate_from 1 lines) ≡ Ok r.draft

-- the text, and every longer text that begins with it, has this refusal
abbrev pub IsRefused : NetRefusal → List ℕ → Type 0
IsRefused refusal text = (more : List ℕ) → netlist_of (text ++ more) ≡ Err refusal

-- what the reader holds is so of the text: it met no refusal, or it holds one; after memory ran out it stands for no text
abbrev pub StandsBy : ReaderData → List ℕ → Option (Unmade NetRefusal) → Type 0
StandsBy r text None = IsOpen r text
StandsBy r text (Some (Refused refusal)) = IsRefused refusal text
StandsBy r text (Some NoMemory) = ⊥

-- the reader stands for the text: it counted its bytes, up to the first byte too many, and holds what is so of it
pub record StandsFor (r : ReaderData) (text : List ℕ) : Type 0 where
  pub count : r.bytes ≡ min (length text) (MOST_FILE_BYTES + 1)
  pub stands : StandsBy r text r.fault

-- what stood for a text stands for the text followed by the piece
abbrev pub GoesOn : ReaderData → ReaderData → List ℕ → Type 0
GoesOn old new piece = (text : List ℕ) → StandsFor old text → StandsFor new (text ++ piece)

-- memory was lacking
abbrev pub LacksMemory : ReaderData → Type 0
LacksMemory r = r.fault ≡ Some NoMemory

-- the refusal of a text whose first byte too many lies in the line after so many
abbrev pub too_far : ℕ → NetRefusal
too_far ended = record { line = ended + 1; what = TooLong }

-- the line with this number has its effect and makes this draft, or has this refusal
abbrev pub IsRead : Result DraftData NetWhat → ℕ → DraftData → Option (Unmade NetRefusal) → Type 0
IsRead meaning number draft None = meaning ≡ Ok draft
IsRead meaning number draft (Some (Refused refusal)) = (meaning ≡ Err refusal.what) × (refusal.line ≡ number)
IsRead meaning number draft (Some NoMemory) = ⊥
