-- The meaning of a netlist once more, line by line: which line is refused, for what, and after which draft.
use Rattle.std.specs.Prelude.{◌≡◌, ℕ, List, [], ◌∷◌, ◌++◌, Option, Ok, Err, unwrap_or, if◌then◌else◌}
use Rattle.line_words.specs.Files.{lines_in, cut_line}
use Rattle.netlist.specs.Circuits.{CircuitData}
use Rattle.line_words.specs.LineFaults.{is_comment}
use Rattle.strength_order.specs.declared.Profile.TheVariants.{Two}
use Rattle.sim_read.specs.Drafts.{DraftData, rails_draft, rails_draft_in, sized}
use Rattle.sim_read.specs.Header.{comment_words, is_second, thresholds_of}
use Rattle.sim_read.specs.declared.fault.NetRefusal.{NetRefusal}
use Rattle.sim_read.specs.Meaning.{line_meaning}

-- lines make one draft of another: none leave it as it is, and a line before others has its effect on it, and they on what it makes
pub data Make (cut : Option ℕ) : DraftData → List (ℕ × List ℕ) → DraftData → Type 0 where
  no_line : (d : DraftData) → Make cut d [] d
  one_more : (old mid new : DraftData) (line : ℕ × List ℕ) (lines : List (ℕ × List ℕ)) →
      line_meaning cut old line ≡ Ok mid → Make cut mid lines new → Make cut old (line ∷ lines) new

-- the words of the header, where the first line is one
abbrev pub header_words : List (ℕ × List ℕ) → List (List ℕ)
header_words [] = []
header_words (line ∷ lines) = if is_comment line.1 then comment_words line.1 else []

-- the rails alone in the profile that these words of a header say, with the thresholds that they say
abbrev pub rails_by : List (List ℕ) → DraftData
rails_by words = if is_second words then rails_draft_in Two (unwrap_or (thresholds_of words) []) else rails_draft

-- the rails alone in the text's profile
abbrev pub rails_of : List ℕ → DraftData
rails_of text = rails_by (header_words (lines_in text))

-- all lines of the text have their effect, and make of the rails alone in the text's profile a draft that has this circuit after the sizing
pub record MakesAll (text : List ℕ) (c : CircuitData) : Type 0 where
  pub draft : DraftData
  pub made : Make (cut_line text) (rails_of text) (lines_in text) draft
  pub circuit : sized draft ≡ c

-- the first refused one of some lines, read from a draft: those before it have their effect, and it is refused in what they make
pub record IsFirstOf (cut : Option ℕ) (start : DraftData) (lines : List (ℕ × List ℕ)) (refusal : NetRefusal) : Type 0 where
  pub before : List (ℕ × List ℕ)
  pub line : List ℕ
  pub after : List (ℕ × List ℕ)
  pub parts : lines ≡ before ++ (refusal.line, line) ∷ after
  pub draft : DraftData
  pub made : Make cut start before draft
  pub refused : line_meaning cut draft (refusal.line, line) ≡ Err refusal.what

-- the first refused line of the text, read from the rails alone in the text's profile
abbrev pub IsFirstRefused : List ℕ → NetRefusal → Type 0
IsFirstRefused text refusal = IsFirstOf (cut_line text) (rails_of text) (lines_in text) refusal
