-- What one line of a script comes to, and all of them, with what was told of the dump.
use Rattle.std.specs.Prelude.{◌≡◌, ℕ, ◌⊎◌, Bool, true, false, ◌&&◌, ◌||◌, List, ◌++◌, length, map, All, Option, None, Some, option_map, is_some, Result, Ok, Err}
use Rattle.settling.specs.Passes.{Pass}
use Rattle.ternary.specs.declared.tern.Tern.{Tern}
use Rattle.group_text.specs.Texts.{GroupTextData}
use Rattle.script_lang.specs.declared.command.Command.{Command}
use Rattle.told_lines.specs.Lines.{Line}
use Rattle.wave_dump.specs.Entries.{IsInside}
use Rattle.wave_dump.specs.Pens.{IsSent, SinkSeen}
use Rattle.wave_dump.specs.Scenes.{Watched}
use Rattle.wave_dump.specs.Writing.{Sheet, Telling, finished, tell_all}
use Rattle.ports.specs.declared.ports.PortFault.{PortFault}
use Rattle.run_ends.specs.Stops.{write_stop_of}
use Rattle.session_meaning.specs.Sessions.{SessionData}
use Rattle.session_meaning.specs.Outcomes.{Keeps, Performs, RefusesSize}
use Rattle.session_meaning.specs.Refusals.{refusal_of}
use Rattle.session_meaning.specs.declared.fault.Refusal.{Refusal}
use Rattle.printed_lines.specs.declared.faults.FaultCode.{FaultCode}
use Rattle.printed_lines.specs.declared.faults.FaultCode.TheVariants.{S17LateWatch}
use Rattle.script_meaning.specs.Codes.{refusal_code}
use Rattle.session_meaning.specs.Passing.{PassesThrough}
use Rattle.run_ends.specs.declared.stop.End as end
use Rattle.run_ends.specs.declared.stop.Stop.{Stop}
use Rattle.run_ends.specs.declared.stop.Stop.TheVariants.{Memory}
use Rattle.run_ends.specs.Causes.{Cause, plain_cause, size_cause}
use Rattle.run_ends.specs.Ends.{status_of}
use Rattle.circuit_texts.specs.Sizes.{TellsRefused}
use Rattle.script_meaning.specs.declared.halt.Halt.{Halt}
use Rattle.script_meaning.specs.declared.halt.Halt.TheVariants as halt
use Rattle.script_meaning.specs.declared.turn.Turn.{Turn}
use Rattle.script_meaning.specs.declared.turn.Turn.TheVariants.{Accepted, Refused, TooLarge}
use Rattle.script_meaning.specs.Runs.{RefusedLine, Asks, plain_reading, status_told}
use Rattle.script_meaning.specs.Turns.{Outgrows, Passes}
use Rattle.dump_run.specs.Dumped.{Dumped, Dumps, IsDumpRefused, IsTimely, entry_of, is_move, is_watch, refusal_told, scenes_of}

-- a step or a phase was told
abbrev pub has_begun : Sheet → Bool
has_begun sheet = is_some sheet.page.shown

-- between steps, and each node of an entry is one of the state
pub record Rests (sheet : Sheet) (state : List Tern) : Type 0 where
  pub closed : sheet.is_open ≡ false
  pub inside : All (IsInside (length state)) sheet.page.entries

-- what was told of a run, in a state
abbrev pub told_in : List Tern → Sheet → Telling
told_in state sheet = record { state = state; sheet = sheet }

-- a command was obeyed in time, and what it tells was told
pub record TellsCommand (command : Command) (old new : SessionData) (before after : Sheet) (asked told : List GroupTextData) : Type 0 where
  pub timely : IsTimely (has_begun before) command
  pub begun : has_begun after ≡ (has_begun before || is_move command)
  pub through : List Pass
  pub wrote : List Line
  pub texts : List GroupTextData
  pub performs : Performs old command new wrote texts
  pub passes : PassesThrough old command through
  pub tells : tell_all (told_in old.state before) (scenes_of old command through wrote new) ≡ told_in new.state after
  pub analysed : told ≡ asked ++ texts

-- a command had begun in time, and of the text that is due for it a prefix was told to the same sink
pub record TellsPart (command : Command) (old : SessionData) (before after : Sheet) : Type 0 where
  pub timely : IsTimely (has_begun before) command
  pub new : SessionData
  pub through : List Pass
  pub wrote : List Line
  pub texts : List GroupTextData
  pub performs : Performs old command new wrote texts
  pub passes : PassesThrough old command through
  pub sink : after.before ≡ before.before
  pub left : List ℕ
  pub due : (tell_all (told_in old.state before) (scenes_of old command through wrote new)).sheet.due ≡ after.due ++ left

-- the command has this refusal in time, or comes too late, under this code
abbrev pub RefusesUnder : Bool → SessionData → Command → FaultCode → Type 0
RefusesUnder begun session command code =
    (IsTimely begun command × ((refusal : Refusal) × (refusal_of session command ≡ Some refusal) × (code ≡ refusal_code refusal)))
    ⊎ (((begun && is_watch command) ≡ true) × (code ≡ S17LateWatch))

-- what a command comes to
abbrev pub DumpsCommand : Command → SessionData → SessionData → Sheet → Sheet → List GroupTextData → List GroupTextData → Result Turn Stop → Type 0
DumpsCommand command old new before after asked told (Ok Accepted) = TellsCommand command old new before after asked told
DumpsCommand command old new before after asked told (Ok (Refused code)) =
    RefusesUnder (has_begun before) old command code × Keeps old new before after asked told
DumpsCommand command old new before after asked told (Ok (TooLarge fault)) = RefusesSize old command new before after asked told fault
DumpsCommand command old new before after asked told (Err stop) = (after ≡ before) ⊎ TellsPart command old before after

-- what one line comes to: it asks for nothing, or for a command that comes to this, or is refused
abbrev pub DumpsTurn : Option ℕ → (ℕ × List ℕ) → SessionData → SessionData → Sheet → Sheet → List GroupTextData → List GroupTextData →
    Result Turn Stop → Type 0
DumpsTurn cut line old new before after asked told (Ok Accepted) =
    Passes plain_reading cut line old new before after asked told
    ⊎ ((command : Command) × Asks plain_reading cut old line command × TellsCommand command old new before after asked told)
DumpsTurn cut line old new before after asked told (Ok (Refused code)) =
    IsDumpRefused cut (has_begun before) old line (plain_cause code) × Keeps old new before after asked told
DumpsTurn cut line old new before after asked told (Ok (TooLarge fault)) = Outgrows plain_reading cut line old new before after asked told fault
DumpsTurn cut line old new before after asked told (Err stop) =
    (after ≡ before) ⊎ ((command : Command) × Asks plain_reading cut old line command × TellsPart command old before after)

-- the lines of a script were obeyed, to these data and to this refused line, if one ended them: what they tell was told
pub record HasDumped (cut : Option ℕ) (start : SessionData) (lines : List (ℕ × List ℕ)) (new : SessionData) (before after : Sheet)
    (asked told : List GroupTextData) (last : Option RefusedLine) : Type 0 where
  pub dumped : Dumped
  pub dumps : Dumps cut (has_begun before) start lines dumped
  pub reached : dumped.end ≡ new
  pub stopped : dumped.refused ≡ last
  pub tells : tell_all (told_in start.state before) dumped.scenes ≡ told_in new.state after
  pub analysed : told ≡ asked ++ dumped.texts

-- how the lines of a script end
abbrev pub DumpsHalt : Option ℕ → SessionData → List (ℕ × List ℕ) → SessionData → Sheet → Sheet → List GroupTextData → List GroupTextData → Halt → Type 0
DumpsHalt cut start lines new before after asked told halt.End = HasDumped cut start lines new before after asked told None
DumpsHalt cut start lines new before after asked told (halt.Refused number code) =
    HasDumped cut start lines new before after asked told (Some (record { line = number; cause = plain_cause code }))
DumpsHalt cut start lines new before after asked told (halt.TooLarge number fault) =
    TellsRefused new.large new.circuit.graph fault
    × ((cause : Cause) → size_cause new.circuit fault ≡ Some cause →
    HasDumped cut start lines new before after asked told (Some (record { line = number; cause = cause })))

-- the run of a script was stopped: of the dump of some outcome a prefix was told to the same sink
pub record DumpsPart (cut : Option ℕ) (start : SessionData) (lines : List (ℕ × List ℕ)) (before after : Sheet) : Type 0 where
  pub dumped : Dumped
  pub dumps : Dumps cut (has_begun before) start lines dumped
  pub sink : after.before ≡ before.before
  pub left : List ℕ
  pub due : (tell_all (told_in start.state before) dumped.scenes).sheet.due ≡ after.due ++ left

-- what obeying the lines of a script comes to
abbrev pub DumpsAll : Option ℕ → SessionData → List (ℕ × List ℕ) → SessionData → Sheet → Sheet → List GroupTextData → List GroupTextData →
    Result Halt Stop → Type 0
DumpsAll cut start lines new before after asked told (Ok halt) = DumpsHalt cut start lines new before after asked told halt
DumpsAll cut start lines new before after asked told (Err stop) = DumpsPart cut start lines before after

-- the run of a script ended: all that is due was told but for the end, and the line of the refusal is kept for that
pub record HasRun (cut : Option ℕ) (start : SessionData) (lines : List (ℕ × List ℕ)) (new : SessionData) (before after : Sheet)
    (asked told : List GroupTextData) (ending : end.End) : Type 0 where
  pub dumped : Dumped
  pub dumps : Dumps cut (has_begun before) start lines dumped
  pub reached : dumped.end ≡ new
  pub ended : status_told dumped.end dumped.refused ≡ status_of ending
  pub last : Sheet
  pub tells : tell_all (told_in start.state before) dumped.scenes ≡ told_in new.state last
  pub refused : after ≡ record last { refused = option_map refusal_told dumped.refused }
  pub analysed : told ≡ asked ++ dumped.texts

-- what the run of a script comes to
abbrev pub DumpsRun : Option ℕ → SessionData → List (ℕ × List ℕ) → SessionData → Sheet → Sheet → List GroupTextData → List GroupTextData →
    Result end.End Stop → Type 0
DumpsRun cut start lines new before after asked told (Ok ending) = HasRun cut start lines new before after asked told ending
DumpsRun cut start lines new before after asked told (Err stop) = DumpsPart cut start lines before after

-- the words were watched, in order
abbrev pub watched_in : SessionData → List (List ℕ) → Sheet → Sheet
watched_in session names sheet = (tell_all (told_in session.state sheet) (map Watched (map (entry_of session.circuit session.vectors) names))).sheet

-- the dump was ended in a state, after a run that ended so; at a fault of the sink a prefix of it was written
abbrev pub EndsDump : List Tern → Sheet → end.End → SinkSeen → Result end.End Stop → Type 0
EndsDump state sheet ending now (Ok ended) = (ended ≡ ending) × IsSent sheet.before (finished sheet state) now (Ok tt)
EndsDump state sheet ending now (Err stop) =
    (fault : PortFault) × (stop ≡ write_stop_of fault) × IsSent sheet.before (finished sheet state) now (Err fault)

-- the dump was left off after a run that was stopped: for lack of memory, unless a fault of the sink came
abbrev pub ClosesDump : Sheet → SinkSeen → Result end.End Stop → Type 0
ClosesDump sheet now (Ok ended) = ⊥
ClosesDump sheet now (Err stop) =
    ((stop ≡ Memory) × IsSent sheet.before sheet.due now (Ok tt))
    ⊎ ((fault : PortFault) × (stop ≡ write_stop_of fault) × IsSent sheet.before sheet.due now (Err fault))
