-- A talk over a reader and an outlet: what is heard comes from the reader, and what is said goes to the outlet.
use Rattle.std.specs.Prelude.{◌≡◌, ◌≢◌, ℕ, ◌<◌, Bool, true, false, List, [], ◌∷◌, ◌++◌, length, take, Option, None, Some, nat_lt, if◌then◌else◌}
use Rattle.std.specs.Io.KnownBytes.{Appends, Consumes, IsAtEnd}
use Rattle.ports.specs.Ports.{faults_at, refusals_at}
use Rattle.ports.specs.declared.ports.PortFault.{PortFault}
use Rattle.talk_port.specs.Talks.{kept_bytes}

-- what is left to be heard, what the outlet took, and what of it was handed on, each if that is told; how many bytes were said and not handed on; how
-- often the reader failed; and how often the outlet failed, and memory was refused for it
pub record LineTalkData : Type 0 where
  pub left : Option (List ℕ)
  pub contents : Option (List ℕ)
  pub handed : Option (List ℕ)
  pub behind : ℕ
  pub unheard : ℕ
  pub faults : ℕ
  pub refusals : ℕ

-- the counts after a fault of the reader
abbrev pub unheard_counted : LineTalkData → PortFault → LineTalkData
unheard_counted talk fault = record talk { unheard = faults_at talk.unheard fault }

-- and after one of the outlet
abbrev pub talk_counted : LineTalkData → PortFault → LineTalkData
talk_counted talk fault = record talk { faults = faults_at talk.faults fault; refusals = refusals_at talk.refusals fault }

-- no byte is LF
abbrev pub HasNoFeed : List ℕ → Type 0
HasNoFeed [] = Unit {0}
HasNoFeed (byte ∷ bytes) = (byte ≢ 10) × HasNoFeed bytes

-- a whole line was heard: it ended with LF, or with the end of what is left if it isn't empty
pub data HearsLine (old new : Option (List ℕ)) (line : List ℕ) : Type 0 where
  fed : Consumes old new (line ++ 10 ∷ []) → HearsLine old new line
  last : 0 < length line → Consumes old new line → IsAtEnd new → HearsLine old new line

-- a line was heard, and the prefix of it that is kept is this; or nothing was left
abbrev pub HearsKept : Option (List ℕ) → Option (List ℕ) → Bool → List ℕ → Type 0
HearsKept old new true kept = (line : List ℕ) × HasNoFeed line × HearsLine old new line × (kept ≡ take kept_bytes line)
HearsKept old new false kept = Consumes old new [] × IsAtEnd new

-- a byte was taken of what is left; or nothing is left
abbrev pub TakesByte : Option (List ℕ) → Option (List ℕ) → Option ℕ → Type 0
TakesByte old new (Some byte) = Consumes old new (byte ∷ [])
TakesByte old new None = Consumes old new [] × IsAtEnd new

-- what was read and not heard yet, and what the reader has left behind it, if that is told
pub record AheadData : Type 0 where
  pub ready : List ℕ
  pub rest : Option (List ℕ)

-- what is kept of a line, and a byte more if there is room
abbrev pub kept_more : List ℕ → ℕ → List ℕ
kept_more kept byte = if nat_lt (length kept) kept_bytes then kept ++ byte ∷ [] else kept

-- the outlet grew by a prefix of the piece
pub record SaysPrefix (old new : Option (List ℕ)) (piece : List ℕ) : Type 0 where
  pub said : List ℕ
  pub rest : List ℕ
  pub whole : piece ≡ said ++ rest
  pub grew : Appends old new said
