-- Where a run under a fault can end before the script does: at a strong difference, once no later line changes what is built or kept.
use Rattle.std.specs.Prelude.{◌≡◌, ℕ, ◌<◌, ◌≤◌, ◌++◌, Bool, true, false, List, All, Option, Some, None, Ok, is_some, nat_le}
use Rattle.ternary.specs.declared.tern.Tern.{Tern}
use Rattle.line_words.specs.Files.{cut_line, lines_in}
use Rattle.group_text.specs.Texts.{GroupTextData}
use Rattle.script_lang.specs.declared.command.Command.{Command}
use Rattle.script_lang.specs.declared.command.Command.TheVariants as family
use Rattle.script_lang.specs.declared.command.Setup.{Setup}
use Rattle.script_lang.specs.declared.command.Setup.TheVariants.{Keep, Widen}
use Rattle.script_lang.specs.Commands.{reading_of}
use Rattle.session_meaning.specs.Sessions.{SessionData}
use Rattle.session_meaning.specs.Preparing.{builds, edits}
use Rattle.script_meaning.specs.declared.turn.Turn.{Turn}
use Rattle.script_meaning.specs.declared.turn.Turn.TheVariants.{Accepted, Refused, TooLarge}
use Rattle.script_meaning.specs.Runs.{Outcome, Runs}
use Rattle.fault_sim.specs.declared.verdicts.Verdict.{Verdict}
use Rattle.fault_sim.specs.Masks.{masked_reading}
use Rattle.fault_sim.specs.Traces.{Trace, IsVerdict}
use Rattle.told_verdicts.specs.Comparing.{CompareData, verdict_by}
use Rattle.fault_meaning.specs.declared.bearing.Bearing.{Bearing}
use Rattle.fault_meaning.specs.declared.bearing.Bearing.TheVariants.{Unsettles, Builds, Stays}
use Rattle.fault_meaning.specs.Traces.{Shows}

-- it is `keep` or `wide`
abbrev pub sets_bound : Setup → Bool
sets_bound (Keep number) = true
sets_bound (Widen number) = true
sets_bound other = false

-- after the command a build may have other texts analysed, or keep others: it edits the circuit, or is `keep` or `wide`
abbrev pub unsettles : Command → Bool
unsettles (family.Setup setup) = sets_bound setup
unsettles command = edits command

-- the line is no such command
abbrev pub IsCalm : List ℕ → Type 0
IsCalm line = (command : Command) → reading_of line ≡ Ok (Some command) → unsettles command ≡ false

-- the line is a command that builds
pub record IsBuilding (line : List ℕ) : Type 0 where
  pub command : Command
  pub asked : reading_of line ≡ Ok (Some command)
  pub building : builds command ≡ true

-- what a command means for what is built
abbrev pub CommandBears : Command → Bearing → Type 0
CommandBears command Unsettles = Unit {0}
CommandBears command Builds = builds command ≡ true
CommandBears command Stays = unsettles command ≡ false

-- what a line means for it
abbrev pub HasBearing : List ℕ → Bearing → Type 0
HasBearing line Unsettles = Unit {0}
HasBearing line Builds = IsBuilding line
HasBearing line Stays = IsCalm line

-- the line with this number builds, and neither it nor a later one unsettles what is built
pub record Lasts (number : ℕ) (line : ℕ × List ℕ) : Type 0 where
  pub building : line.0 ≡ number → IsBuilding line.1
  pub calm : number ≤ line.0 → IsCalm line.1

-- so it is in a script, whose lines are numbered from 1
pub record IsCalmFrom (script : List ℕ) (number : ℕ) : Type 0 where
  pub numbered : 0 < number
  pub lasts : All (Lasts number) (lines_in script)

-- the number from which on lines are calm, after one more line
abbrev pub from_after : Option ℕ → ℕ → Bearing → Option ℕ
from_after from number Unsettles = None
from_after None number Builds = Some number
from_after (Some from) number Builds = Some from
from_after from number Stays = from

-- the number is one from this on
abbrev pub is_from : Option ℕ → ℕ → Bool
is_from None number = false
is_from (Some from) number = nat_le from number

-- the verdict by what a comparison has come to, where this line of the script was refused, if one was
abbrev pub verdict_of : CompareData → Option ℕ → Verdict
verdict_of now refused = verdict_by now.strong refused now.weak

-- the verdict by what was compared so far is that on the whole: there is a strong difference, and what follows is calm
pub record IsEarly (now : CompareData) (calm : Bool) (verdict : Verdict) : Type 0 where
  pub still : calm ≡ true
  pub apart : is_some now.strong ≡ true
  pub judged : verdict ≡ verdict_of now None

-- after a line that came to this turn, where this was compared by then, the run ends with a verdict or goes on
abbrev pub TellsAfter : CompareData → Turn → ℕ → Bool → Option Verdict → Type 0
TellsAfter now Accepted number calm None = Unit {0}
TellsAfter now Accepted number calm (Some verdict) = IsEarly now calm verdict
TellsAfter now (Refused code) number calm found = found ≡ Some (verdict_of now (Some number))
TellsAfter now (TooLarge size) number calm found = found ≡ Some (verdict_of now (Some number))

-- the lines of a script were judged beside a good trace, from these data on: this is the verdict on what an outcome of theirs shows, whose
-- texts were analysed, and at whose end the same is kept
pub record JudgesLines (stuck : Option (ℕ × Tern)) (script : List ℕ) (old : SessionData) (good : Trace) (new : SessionData)
    (asked told : List GroupTextData) (verdict : Verdict) : Type 0 where
  pub outcome : Outcome
  pub runs : Runs (masked_reading stuck) (cut_line script) old (lines_in script) outcome
  pub bad : Trace
  pub shows : Shows outcome bad
  pub judged : IsVerdict good bad verdict
  pub analysed : told ≡ asked ++ outcome.texts
  pub left : new.kept ≡ outcome.end.kept
