-- Lines that are said at the port of a talk.
use Rattle.std.specs.Prelude.{◌≡◌, ℕ, List, Option, option_map, ◌⊎◌, Result, Ok, Err}
use Rattle.ports.specs.declared.ports.PortFault.{PortFault}
use Rattle.ports.specs.declared.ports.PortFault.TheVariants.{Failed, NoMemory}
use Rattle.run_ends.specs.declared.stop.Stop.{Stop}
use Rattle.run_ends.specs.declared.stop.Stop.TheVariants.{Read, Write, Memory}
use Rattle.talk_port.specs.Talks.{TalkData, SaysPart, said_next}
use Rattle.told_lines.specs.Lines.{Told, line_text}

-- the talk at the port, if it tells it, and how often no line could be heard there
pub record Spoken : Type 0 where
  pub talk : Option TalkData
  pub unheard : ℕ

-- one line more is said
abbrev pub speak : Spoken → Told → Spoken
speak spoken told = record spoken { talk = option_map (said_next (line_text told.line)) spoken.talk }

-- a part of it is said
pub record SpeaksPart (old : Spoken) (told : Told) (new : Spoken) : Type 0 where
  pub said : SaysPart old.talk new.talk (line_text told.line)
  pub unheard : new.unheard ≡ old.unheard

-- a teller: what is said at its port, how much of it isn't handed on, how much room it has for a line, and the port's counts
pub record TellerData : Type 0 where
  pub spoken : Spoken
  pub behind : ℕ
  pub room : ℕ
  pub faults : ℕ
  pub refusals : ℕ

-- a right text was said
pub record Says (IsRight : List ℕ → Type 0) (before after : Option TalkData) : Type 0 where
  pub text : List ℕ
  pub right : IsRight text
  pub said : after ≡ option_map (said_next text) before

-- a right text was said in part
pub record Begins (IsRight : List ℕ → Type 0) (before after : Option TalkData) : Type 0 where
  pub text : List ℕ
  pub right : IsRight text
  pub part : SaysPart before after text

-- a right text was said; at a fault a part of one that is right for some end, or nothing
abbrev pub Speaks : {E : Type 0} → (List ℕ → Type 0) → (List ℕ → Type 0) → Option TalkData → Option TalkData → Result (Unit {0}) E → Type 0
Speaks IsRight MayBe before after (Ok _) = Says IsRight before after
Speaks IsRight MayBe before after (Err fault) = (after ≡ before) ⊎ Begins MayBe before after

-- the text was said; at a fault a part of it
abbrev pub Tries : {E : Type 0} → List ℕ → Option TalkData → Option TalkData → Result (Unit {0}) E → Type 0
Tries text before after (Ok _) = after ≡ option_map (said_next text) before
Tries text before after (Err fault) = (after ≡ before) ⊎ SaysPart before after text

-- the fault of a port by which a line was stopped
abbrev pub said_fault : Stop → PortFault
said_fault Memory = NoMemory
said_fault Read = Failed
said_fault Write = Failed
