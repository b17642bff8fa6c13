-- What a line comes to, by what its command comes to or by how it is refused.
use Rattle.std.proofs.Common.{◌≡◌, ℕ, ◌⊎◌, inl, inr, Bool, false, nat_eq, List, Option, None, Some, Result, Ok, Err, OnOk, refl, sym, ap, ◌∙◌}
use Rattle.std.specs.Option.{option_eq}
use Rattle.line_words.specs.Files.{is_cut}
use Rattle.script_lang.specs.declared.command.Command.{Command}
use Rattle.script_lang.specs.declared.command.ScriptFault.{ScriptFault}
use Rattle.script_lang.specs.declared.command.ScriptFault.TheVariants as script
use Rattle.group_text.specs.Texts.{GroupTextData}
use Rattle.told_lines.specs.Lines.{Told}
use Rattle.session_meaning.specs.declared.fault.ApplyFault.{ApplyFault}
use Rattle.session_meaning.specs.declared.fault.ApplyFault.TheVariants.{Refused, GroupNodes, GroupSwitches, WriteFault, NoMemory}
use Rattle.session_meaning.specs.Sessions.{SessionData}
use Rattle.session_meaning.specs.Outcomes.{Obeys}
use Rattle.printed_lines.specs.declared.faults.FaultCode.{FaultCode}
use Rattle.run_ends.specs.Causes.{plain_cause}
use Rattle.script_meaning.specs.Codes.{script_code}
use Rattle.script_meaning.specs.Runs.{Reading, Asks, IsRefused, unread, refused}
use Rattle.run_ends.specs.Stops.{IsRefusedOnce}
use Rattle.script_meaning.specs.declared.turn.Turn.TheVariants.{Accepted}
use Rattle.script_meaning.specs.Turns.{TakesTurn, turn_after}

-- a line that asks for a command comes to what the command comes to, and the hearer lacked memory once at the most
module _ {H : Type 0} (hear : H → Told → H) (part : H → Told → H → Type 0) where
  pub takes_turn : (reading : Reading) (cut : Option ℕ) (line : ℕ × List ℕ) (command : Command) (old new : SessionData) (before after : H)
      (asked told : List GroupTextData) (refusals now : ℕ) (ended : Result (Unit {0}) ApplyFault) → Asks reading cut old line command →
      Obeys hear part old command new before after asked told refusals now ended →
      TakesTurn hear part reading cut line old new before after asked told (turn_after ended) × IsRefusedOnce refusals now (turn_after ended)
  takes_turn reading cut line command old new before after asked told refusals now (Ok _) asks (accepts, same) =
      (inr (record { command = command; asks = asks; accepts = accepts }), same)
  takes_turn reading cut line command old new before after asked told refusals now (Err (Refused refusal)) asks (refuses, same) =
      ((refused command refusal asks refuses.cause refl, refuses.keeps), same)
  takes_turn reading cut line command old new before after asked told refusals now (Err (GroupNodes node count)) asks (refuses, same) =
      (record { command = command; asks = asks; refuses = refuses }, same)
  takes_turn reading cut line command old new before after asked told refusals now (Err (GroupSwitches node count)) asks (refuses, same) =
      (record { command = command; asks = asks; refuses = refuses }, same)
  takes_turn reading cut line command old new before after asked told refusals now (Err WriteFault) asks (begins, same) =
      (inr (record { command = command; asks = asks; begins = begins }), same)
  takes_turn reading cut line command old new before after asked told refusals now (Err NoMemory) asks (inl (stays, same)) =
      (inl stays.unheard, inl same)
  takes_turn reading cut line command old new before after asked told refusals now (Err NoMemory) asks (inr (begins, more)) =
      (inr (record { command = command; asks = asks; begins = begins }), inr more)

-- a line that can't be read is refused, if its fault has a code
pub is_unread : (reading : Reading) (cut : Option ℕ) (session : SessionData) (line : ℕ × List ℕ) (fault : ScriptFault) (code : FaultCode) → is_cut cut line.0 ≡ false →
    (fault ≡ script.NoMemory) ⊎ (reading session.circuit session.vectors line.1 ≡ Err fault) → script_code fault ≡ Some code →
    IsRefused reading cut session line (plain_cause code)
is_unread reading cut session line fault code inside (inl want) coded =
    let none : None ≡ Some code = sym (ap script_code want) ∙ coded in absurd (cc)
is_unread reading cut session line fault code inside (inr is) coded = unread fault code inside is coded refl

-- a line with another number than the one that is too far isn't too far
pub is_inside : (cut : Option ℕ) (number : ℕ) (same : Bool) → same ≡ option_eq nat_eq cut (Some number) → same ≡ false → is_cut cut number ≡ false
is_inside None number same tested is = refl
is_inside (Some line) number same tested is = sym tested ∙ is

-- what holds behind a command that was accepted
pub accepted_ok : {P : Type 0} (ended : Result (Unit {0}) ApplyFault) → turn_after ended ≡ Ok Accepted → OnOk ended P → P
accepted_ok (Ok _) is holds = holds
accepted_ok (Err (Refused refusal)) is holds = absurd (cc)
accepted_ok (Err (GroupNodes node count)) is holds = absurd (cc)
accepted_ok (Err (GroupSwitches node count)) is holds = absurd (cc)
accepted_ok (Err WriteFault) is holds = absurd (cc)
accepted_ok (Err NoMemory) is holds = absurd (cc)
