-- A talk: the lines that were heard, and what was said behind each of them.
use Rattle.std.specs.Prelude.{◌≡◌, ℕ, true, false, Bool, List, [], ◌∷◌, ◌++◌, take, Option, option_map}

-- how many bytes of a line are kept, its LF not counted: as many as tell what is wrong with it
abbrev pub kept_bytes : ℕ
kept_bytes = 65538

-- a line that was heard, without its LF, and what was said behind it
pub record Turn : Type 0 where
  pub heard : List ℕ
  pub said : List ℕ

-- what was said before any line was heard; the turns, the last one first; and whether the end was heard
pub record TalkData : Type 0 where
  pub opening : List ℕ
  pub turns : List Turn
  pub ended : Bool

-- the talk after these bytes were said: behind the last line of these turns
abbrev pub said_in : List ℕ → List Turn → TalkData → TalkData
said_in bytes [] talk = record talk { opening = talk.opening ++ bytes }
said_in bytes (turn ∷ turns) talk = record talk { turns = record turn { said = turn.said ++ bytes } ∷ turns }

-- the talk after these bytes were said
abbrev pub said_next : List ℕ → TalkData → TalkData
said_next bytes talk = said_in bytes talk.turns talk

-- the talk after this line was heard
abbrev pub heard_next : List ℕ → TalkData → TalkData
heard_next line talk = record talk { turns = record { heard = line; said = [] } ∷ talk.turns }

-- the talk after the end was heard
abbrev pub heard_end : TalkData → TalkData
heard_end talk = record talk { ended = true }

-- a line was heard, and these bytes are the prefix of it that is kept; or the end was heard
abbrev pub Hears : Option TalkData → Option TalkData → Bool → List ℕ → Type 0
Hears old new true bytes = (line : List ℕ) × (bytes ≡ take kept_bytes line) × (new ≡ option_map (heard_next line) old)
Hears old new false bytes = new ≡ option_map heard_end old

-- a prefix of the piece was said
pub record SaysPart (old new : Option TalkData) (piece : List ℕ) : Type 0 where
  pub said : List ℕ
  pub left : List ℕ
  pub whole : piece ≡ said ++ left
  pub grew : new ≡ option_map (said_next said) old
