-- A talk in memory: the lines that are to be heard, and the turns that were held.
use Rattle.std.specs.Prelude.{◌≡◌, ℕ, Bool, true, false, List, [], ◌∷◌, take, Vec}
use Rattle.std.specs.declared.alloc.Global.{Global}
use Rattle.ternary.specs.Counts.{raised}
use Rattle.talk_port.specs.Talks.{kept_bytes, Turn, TalkData, heard_next, heard_end}

-- the lines that are to be heard, the talk so far, and how often memory was refused
pub record MemTalkData : Type 0 where
  pub left : List (List ℕ)
  pub talk : TalkData
  pub refusals : ℕ

-- a turn as it is kept: the line, and what was said behind it
abbrev pub turn_of : (Vec ℕ Global × Vec ℕ Global) → Turn
turn_of kept = record { heard = kept.0.items; said = kept.1.items }

-- a talk in which nothing was heard or said
abbrev pub unheard : List (List ℕ) → MemTalkData
unheard lines = record { left = lines; talk = record { opening = []; turns = []; ended = false }; refusals = 0 }

-- once more memory was refused
abbrev pub mem_refused : MemTalkData → MemTalkData
mem_refused talk = record talk { refusals = raised talk.refusals 1 }

-- the next of the lines was heard, and these bytes are the prefix of it that is kept; or none was left, and the end was heard
abbrev pub HearsNext : MemTalkData → MemTalkData → Bool → List ℕ → Type 0
HearsNext old new true bytes =
    (line : List ℕ) × (old.left ≡ line ∷ new.left) × (bytes ≡ take kept_bytes line) × (new.talk ≡ heard_next line old.talk)
HearsNext old new false bytes = (old.left ≡ []) × (new.left ≡ []) × (new.talk ≡ heard_end old.talk)
