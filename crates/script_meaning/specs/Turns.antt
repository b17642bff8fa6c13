-- What running one line of a script comes to, by how lines are read, with what was heard and which texts of groups were analysed.
use Rattle.std.specs.Prelude.{◌≡◌, ℕ, ◌⊎◌, List, Option, Result, Ok, Err}
use Rattle.group_text.specs.Texts.{GroupTextData}
use Rattle.circuit_texts.specs.declared.texts.BuildFault.{BuildFault}
use Rattle.circuit_texts.specs.declared.texts.BuildFault.TheVariants as build
use Rattle.told_lines.specs.Lines.{Told}
use Rattle.script_lang.specs.declared.command.Command.{Command}
use Rattle.session_meaning.specs.Sessions.{SessionData}
use Rattle.session_meaning.specs.Outcomes.{Accepts, Begins, Keeps, RefusesSize}
use Rattle.run_ends.specs.declared.stop.Stop.{Stop}
use Rattle.run_ends.specs.declared.stop.Stop.TheVariants as stop
use Rattle.script_meaning.specs.declared.turn.Turn.{Turn}
use Rattle.script_meaning.specs.declared.turn.Turn.TheVariants.{Accepted, Refused, TooLarge}
use Rattle.session_meaning.specs.declared.fault.ApplyFault.{ApplyFault}
use Rattle.session_meaning.specs.declared.fault.ApplyFault.TheVariants as apply
use Rattle.run_ends.specs.Causes.{plain_cause}
use Rattle.script_meaning.specs.Codes.{refusal_code}
use Rattle.script_meaning.specs.Runs.{Reading, IsIdle, Asks, IsRefused}

-- the line asks for nothing, and nothing changes
pub record Passes {H : Type 0} (reading : Reading) (cut : Option ℕ) (line : ℕ × List ℕ) (old new : SessionData) (before after : H)
    (asked told : List GroupTextData) : Type 0 where
  pub idle : IsIdle reading cut old line
  pub keeps : Keeps old new before after asked told

-- the line's command was accepted
pub record Follows {H : Type 0} (hear : H → Told → H) (reading : Reading) (cut : Option ℕ) (line : ℕ × List ℕ) (old new : SessionData) (before after : H)
    (asked told : List GroupTextData) : Type 0 where
  pub command : Command
  pub asks : Asks reading cut old line command
  pub accepts : Accepts hear old command new before after asked told

-- the circuit can't be built for the line's command: this group is too large
pub record Outgrows {H : Type 0} (reading : Reading) (cut : Option ℕ) (line : ℕ × List ℕ) (old new : SessionData) (before after : H)
    (asked told : List GroupTextData) (fault : BuildFault) : Type 0 where
  pub command : Command
  pub asks : Asks reading cut old line command
  pub refuses : RefusesSize old command new before after asked told fault

-- the line's command had begun, and a part of its lines was heard
pub record Starts {H : Type 0} (hear : H → Told → H) (part : H → Told → H → Type 0) (reading : Reading) (cut : Option ℕ) (line : ℕ × List ℕ)
    (old new : SessionData) (before after : H) (asked told : List GroupTextData) : Type 0 where
  pub command : Command
  pub asks : Asks reading cut old line command
  pub begins : Begins hear part old command new before after asked told

-- what one line comes to
abbrev pub TakesTurn : {H : Type 0} → (H → Told → H) → (H → Told → H → Type 0) → Reading → Option ℕ → (ℕ × List ℕ) → SessionData → SessionData → H → H →
    List GroupTextData → List GroupTextData → Result Turn Stop → Type 0
TakesTurn hear part reading cut line old new before after asked told (Ok Accepted) =
    Passes reading cut line old new before after asked told ⊎ Follows hear reading cut line old new before after asked told
TakesTurn hear part reading cut line old new before after asked told (Ok (Refused code)) =
    IsRefused reading cut old line (plain_cause code) × Keeps old new before after asked told
TakesTurn hear part reading cut line old new before after asked told (Ok (TooLarge fault)) = Outgrows reading cut line old new before after asked told fault
TakesTurn hear part reading cut line old new before after asked told (Err fault) =
    (after ≡ before) ⊎ Starts hear part reading cut line old new before after asked told

-- what becomes of a line whose command ended so
abbrev pub turn_after : Result (Unit {0}) ApplyFault → Result Turn Stop
turn_after (Ok _) = Ok Accepted
turn_after (Err (apply.Refused refusal)) = Ok (Refused (refusal_code refusal))
turn_after (Err (apply.GroupNodes node count)) = Ok (TooLarge (build.GroupNodes node count))
turn_after (Err (apply.GroupSwitches node count)) = Ok (TooLarge (build.GroupSwitches node count))
turn_after (Err apply.WriteFault) = Err stop.Write
turn_after (Err apply.NoMemory) = Err stop.Memory
