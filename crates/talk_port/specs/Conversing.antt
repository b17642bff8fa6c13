-- A conversation: each line is answered before the next one is asked for.
use Rattle.std.specs.Prelude.{◌≡◌, ℕ, ◌-◌, ◌^◌, true, false, Bool, List, [], ◌∷◌, ◌++◌, length, take, Option, option_map, Result, Ok, Err}
use Rattle.ports.specs.Ports.{faults_at}
use Rattle.talk_port.specs.declared.conversing.Broken.{Broken}
use Rattle.talk_port.specs.declared.conversing.Broken.TheVariants.{Unheard, Unsaid}
use Rattle.talk_port.specs.Talks.{kept_bytes, Turn, TalkData, said_next, heard_next, heard_end}

-- what answers a line: from one mind to another, by a text
abbrev pub Answering : Type 0 → Type 1
Answering M = M → List ℕ → List ℕ → M → Type 0

-- none of the lines quits
abbrev pub GoOn : (List ℕ → Bool) → List Turn → Type 0
GoOn quits [] = Unit {0}
GoOn quits (turn ∷ turns) = (quits (take kept_bytes turn.heard) ≡ false) × GoOn quits turns

-- the turns, the last one first, are a conversation: behind each line its answer was said, by the mind that the lines before it left; a line
-- is heard only if none before it quit
pub data Talks {M : Type 0} (answers : M → List ℕ → List ℕ → M → Type 0) (quits : List ℕ → Bool) (start : M) : List Turn → M → Type 0 where
  asks : Talks answers quits start [] start
  turn : (turns : List Turn) (mid new : M) (line text : List ℕ) → Talks answers quits start turns mid → GoOn quits turns →
      answers mid (take kept_bytes line) text new → Talks answers quits start (record { heard = line; said = text } ∷ turns) new

-- the talk with these turns behind those before
abbrev pub with_turns : List Turn → TalkData → TalkData
with_turns turns talk = record talk { turns = turns ++ talk.turns }

-- why a conversation ends: the end was heard, or a line quit, or no more lines are counted
pub data Ends (quits : List ℕ → Bool) (turns : List Turn) (told : TalkData → TalkData) : Type 0 where
  over : told ≡ (λ talk. heard_end (with_turns turns talk)) → Ends quits turns told
  quit : (last : Turn) (front : List Turn) → turns ≡ last ∷ front → quits (take kept_bytes last.heard) ≡ true → told ≡ with_turns turns → Ends quits turns told
  full : length turns ≡ 2 ^ 64 - 1 → told ≡ with_turns turns → Ends quits turns told

-- a conversation was held to its end
pub record Converses {M : Type 0} (answers : M → List ℕ → List ℕ → M → Type 0) (quits : List ℕ → Bool) (start new : M)
    (before after : Option TalkData) : Type 0 where
  pub turns : List Turn
  pub talks : Talks answers quits start turns new
  pub told : TalkData → TalkData
  pub ends : Ends quits turns told
  pub tells : after ≡ option_map told before

-- a line was answered: the text was said behind it
pub record Answers {M : Type 0} (answers : M → List ℕ → List ℕ → M → Type 0) (start : M) (line : List ℕ) (new : M)
    (before after : Option TalkData) : Type 0 where
  pub text : List ℕ
  pub answered : answers start line text new
  pub tells : after ≡ option_map (said_next text) before

-- a conversation broke off: all lines that were heard are answered, and no other one could be heard, or what was said not be handed on; or the
-- last line has no whole answer
pub data BreaksOff {M : Type 0} (answers : M → List ℕ → List ℕ → M → Type 0) (quits : List ℕ → Bool) (Part : M → List ℕ → M → Option TalkData → Option TalkData → Type 0)
    (start new : M) (before after : Option TalkData) : Type 0 where
  between : (turns : List Turn) → Talks answers quits start turns new → after ≡ option_map (with_turns turns) before →
      BreaksOff answers quits Part start new before after
  within : (turns : List Turn) (mid : M) (line : List ℕ) → Talks answers quits start turns mid → GoOn quits turns →
      Part mid (take kept_bytes line) new (option_map (heard_next line) (option_map (with_turns turns) before)) after →
      BreaksOff answers quits Part start new before after

-- how often no line could be heard, after a talk that broke off or didn't
abbrev pub unheard_after : {X : Type 0} → ℕ → Result X Broken → ℕ
unheard_after faults (Ok _) = faults
unheard_after faults (Err (Unheard fault)) = faults_at faults fault
unheard_after faults (Err (Unsaid fault)) = faults

-- and how often nothing could be said or handed on
abbrev pub unsaid_after : {X : Type 0} → ℕ → Result X Broken → ℕ
unsaid_after faults (Ok _) = faults
unsaid_after faults (Err (Unheard fault)) = faults
unsaid_after faults (Err (Unsaid fault)) = faults_at faults fault
