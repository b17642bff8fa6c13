-- What a call of a command comes to: to the data, to what was heard, and to the count of the hearer's refused memory.
use Rattle.std.specs.Prelude.{◌≡◌, ℕ, ◌⊎◌, true, List, [], ◌++◌, None, Some, Result, Ok, Err}
use Rattle.ternary.specs.Counts.{raised}
use Rattle.told_lines.specs.Lines.{Line, Told}
use Rattle.told_lines.specs.Hearing.{hear_all, HearsPart, Hears, of_column}
use Rattle.script_lang.specs.declared.command.Command.{Command}
use Rattle.script_lang.specs.declared.command.Command.TheVariants as family
use Rattle.script_lang.specs.declared.command.Run.TheVariants.{Cycle}
use Rattle.session_meaning.specs.declared.fault.Refusal.{Refusal}
use Rattle.session_meaning.specs.declared.fault.ApplyFault.{ApplyFault}
use Rattle.session_meaning.specs.declared.fault.ApplyFault.TheVariants.{Refused, GroupNodes, GroupSwitches, WriteFault, NoMemory}
use Rattle.group_text.specs.Texts.{GroupTextData}
use Rattle.circuit_texts.specs.declared.texts.BuildFault.{BuildFault}
use Rattle.circuit_texts.specs.declared.texts.BuildFault.TheVariants as build
use Rattle.circuit_texts.specs.Sizes.{TellsRefused}
use Rattle.circuit_texts.specs.Building.{IsCutOff}
use Rattle.session_meaning.specs.Preparing.{Prepares, builds}
use Rattle.session_meaning.specs.Sessions.{SessionData, places_of}
use Rattle.session_meaning.specs.Refusals.{refusal_of}
use Rattle.session_meaning.specs.Effects.{Effect, AreBeats, places_in}

-- the command isn't refused, and has this effect
pub record Does (old : SessionData) (command : Command) (new : SessionData) (lines : List Line) : Type 0 where
  pub allowed : refusal_of old command ≡ None
  pub effect : Effect old command new lines

-- the circuit is built where the command builds, for which these texts are analysed; and then the command does this
pub record Performs (old : SessionData) (command : Command) (new : SessionData) (lines : List Line) (texts : List GroupTextData) : Type 0 where
  pub mid : SessionData
  pub prepares : Prepares old command mid texts
  pub does : Does mid command new lines

-- the command has its effect, its lines were heard, and the analyst's list grew by the texts that it analysed for it
pub record Accepts {H : Type 0} (hear : H → Told → H) (old : SessionData) (command : Command) (new : SessionData) (before after : H)
    (asked told : List GroupTextData) : Type 0 where
  pub lines : List Line
  pub texts : List GroupTextData
  pub performs : Performs old command new lines texts
  pub heard : after ≡ hear_all hear before (of_column 0 lines)
  pub analysed : told ≡ asked ++ texts

-- all is as before, nothing was heard, and nothing was analysed
pub record Keeps {H : Type 0} (old new : SessionData) (before after : H) (asked told : List GroupTextData) : Type 0 where
  pub same : new ≡ old
  pub unheard : after ≡ before
  pub unasked : told ≡ asked

-- the command is refused so, and all is as before
pub record Refuses {H : Type 0} (old : SessionData) (command : Command) (new : SessionData) (before after : H) (asked told : List GroupTextData)
    (refusal : Refusal) : Type 0 where
  pub cause : refusal_of old command ≡ Some refusal
  pub keeps : Keeps old new before after asked told

-- the command has no refusal by the data, but the circuit can't be built for it: the first group that is too large is told, and all is as
-- before
pub record RefusesSize {H : Type 0} (old : SessionData) (command : Command) (new : SessionData) (before after : H) (asked told : List GroupTextData)
    (fault : BuildFault) : Type 0 where
  pub allowed : refusal_of old command ≡ None
  pub building : builds command ≡ true
  pub first : TellsRefused old.large old.circuit.graph fault
  pub keeps : Keeps old new before after asked told

-- all is as before, but that a prefix of the texts that a build analyses may be kept
pub record Stays {H : Type 0} (old new : SessionData) (before after : H) (asked told : List GroupTextData) : Type 0 where
  pub core : new ≡ record old { kept = new.kept }
  pub cut_off : IsCutOff old.large old.circuit.graph old.kept new.kept asked told
  pub unheard : after ≡ before

-- the phases at a prefix of these places were done, and none of those after it
pub record FrontDone (places : List ℕ) (old new : SessionData) : Type 0 where
  pub done : List ℕ
  pub left : List ℕ
  pub split : places ≡ done ++ left
  pub lines : List Line
  pub beats : AreBeats old done new lines

-- the data are as after a whole part of the command: of a cycle the phases at a prefix of its places, of any other command its effect
abbrev pub DoesPart : SessionData → Command → SessionData → Type 0
DoesPart old (family.Run (Cycle times)) new = FrontDone (places_in (places_of old.clocks) times) old new
DoesPart old command new = (lines : List Line) × Effect old command new lines

-- the command isn't refused; of the lines of its effect a part was heard, from the start, and a whole part of it was done
pub record Begins {H : Type 0} (hear : H → Told → H) (part : H → Told → H → Type 0) (old : SessionData) (command : Command) (new : SessionData)
    (before after : H) (asked told : List GroupTextData) : Type 0 where
  pub end : SessionData
  pub lines : List Line
  pub texts : List GroupTextData
  pub performs : Performs old command end lines texts
  pub heard : HearsPart hear part before after (of_column 0 lines)
  pub done : DoesPart performs.mid command new
  pub analysed : told ≡ asked ++ texts

-- inside the session: what a command that tells nothing comes to
abbrev pub Quietly : SessionData → Command → SessionData → Result (Unit {0}) ApplyFault → Type 0
Quietly old command new (Ok _) = Does old command new []
Quietly old command new (Err (Refused refusal)) = (refusal_of old command ≡ Some refusal) × (new ≡ old)
Quietly old command new (Err (GroupNodes node count)) = ⊥
Quietly old command new (Err (GroupSwitches node count)) = ⊥
Quietly old command new (Err NoMemory) = new ≡ old
Quietly old command new (Err WriteFault) = ⊥

-- what any command comes to, by what it is where the command is accepted, refused, refused since a group is too large, stopped before it began, and
-- begun; and how often the hearer lacked memory by then
abbrev pub Outcome : Type 0 → (Refusal → Type 0) → (BuildFault → Type 0) → Type 0 → Type 0 → ℕ → ℕ → Result (Unit {0}) ApplyFault → Type 0
Outcome Accepted RefusedFor OutgrownBy Stopped Begun refusals now (Ok _) = Accepted × (now ≡ refusals)
Outcome Accepted RefusedFor OutgrownBy Stopped Begun refusals now (Err (Refused refusal)) = RefusedFor refusal × (now ≡ refusals)
Outcome Accepted RefusedFor OutgrownBy Stopped Begun refusals now (Err (GroupNodes node count)) =
    OutgrownBy (build.GroupNodes node count) × (now ≡ refusals)
Outcome Accepted RefusedFor OutgrownBy Stopped Begun refusals now (Err (GroupSwitches node count)) =
    OutgrownBy (build.GroupSwitches node count) × (now ≡ refusals)
Outcome Accepted RefusedFor OutgrownBy Stopped Begun refusals now (Err WriteFault) = Begun × (now ≡ refusals)
Outcome Accepted RefusedFor OutgrownBy Stopped Begun refusals now (Err NoMemory) =
    (Stopped × (now ≡ refusals)) ⊎ (Begun × (now ≡ raised refusals 1))

-- what a command comes to: where the command itself wants memory, all is as before but for what is kept
abbrev pub Obeys : {H : Type 0} → (H → Told → H) → (H → Told → H → Type 0) → SessionData → Command → SessionData → H → H → List GroupTextData →
    List GroupTextData → ℕ → ℕ → Result (Unit {0}) ApplyFault → Type 0
Obeys hear part old command new before after asked told refusals now result =
    Outcome (Accepts hear old command new before after asked told) (Refuses old command new before after asked told)
    (RefusesSize old command new before after asked told) (Stays old new before after asked told)
    (Begins hear part old command new before after asked told) refusals now result

-- these lines were heard, or at a fault a part of them, from the start
abbrev pub Sent : {H : Type 0} → (H → Told → H) → (H → Told → H → Type 0) → H → H → List Line → Result (Unit {0}) ApplyFault → Type 0
Sent hear part before after lines result = Hears hear part before after (of_column 0 lines) result

-- what leads from data to other data with these lines was done, as a unit step, a phase or a report, and the lines were heard, or a part
-- of them
pub record IsDoneAndSent (Does : SessionData → SessionData → List Line → Type 0) {H : Type 0} (hear : H → Told → H) (part : H → Told → H → Type 0)
    (old new : SessionData) (before after : H) (result : Result (Unit {0}) ApplyFault) : Type 0 where
  pub lines : List Line
  pub done : Does old new lines
  pub sent : Sent hear part before after lines result
