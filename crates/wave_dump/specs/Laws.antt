-- Laws of codes, of comments and of dumps, each proved as the contract of a function in `src/laws.rt`.
use Rattle.std.specs.Prelude.{◌≡◌, ◌≢◌, ℕ, ◌≤◌, Bool, true, false, ◌==◌, List, [], ◌∷◌, ◌++◌}
use Rattle.wave_dump.specs.Codes.{code_of, number_of}
use Rattle.wave_dump.specs.Comments.{mark_byte, space, escaped}
use Rattle.wave_dump.specs.Dumps.{dump_from}
use Rattle.wave_dump.specs.Scenes.{Scene}
use Rattle.wave_dump.specs.Writing.{Telling, tell_all, finished}

-- a code stands for its entry's number, so no two entries have one code
pub record CodesAreUnique : Type 0 where
  pub number : (number : ℕ) → number_of (code_of number) ≡ number
  pub once : (one two : ℕ) → code_of one ≡ code_of two → one ≡ two

-- all of the bytes are visible, from `!` to `~`
abbrev pub AreVisible : List ℕ → Type 0
AreVisible [] = Unit {0}
AreVisible (byte ∷ bytes) = (33 ≤ byte) × (byte ≤ 126) × AreVisible bytes

-- a code has some bytes, all of them visible
abbrev pub CodesAreVisible : Type 0
CodesAreVisible = (number : ℕ) → (code_of number ≢ []) × AreVisible (code_of number)

-- no word of the line begins with `$`; whether a word may begin here
abbrev pub HasNoMark : Bool → List ℕ → Type 0
HasNoMark begins [] = Unit {0}
HasNoMark true (byte ∷ line) = (byte ≢ mark_byte) × HasNoMark (byte == space) line
HasNoMark false (byte ∷ line) = HasNoMark (byte == space) line

-- in a comment no word of the line begins with `$`, so none ends it, and a line in which none does stands as it is
pub record CommentsEnd : Type 0 where
  pub none : (line : List ℕ) → HasNoMark true (escaped line)
  pub same : (line : List ℕ) → HasNoMark true line → escaped line ≡ line

-- scenes that were told one after the other, and the end, come to the dump of the run
abbrev pub DumpsAreTold : Type 0
DumpsAreTold =
    (telling : Telling) (scenes : List Scene) →
    finished (tell_all telling scenes).sheet (tell_all telling scenes).state
    ≡ telling.sheet.due ++ dump_from telling.sheet.page telling.state scenes telling.sheet.refused
