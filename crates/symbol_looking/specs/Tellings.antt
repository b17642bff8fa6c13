-- What is heard of lines that are told of all columns together, and what becomes of a command that tells.
use Rattle.std.specs.Prelude.{◌≡◌, ℕ, ◌⊎◌, List, [], map, Option, None, Some, Result, Ok, Err}
use Rattle.ternary.specs.Counts.{raised}
use Rattle.ports.specs.declared.ports.PortFault.{PortFault}
use Rattle.told_lines.specs.Hearing.{hear_all, HearsFront}
use Rattle.session_meaning.specs.declared.fault.Refusal.{Refusal}
use Rattle.session_meaning.specs.declared.fault.ApplyFault.{ApplyFault}
use Rattle.session_meaning.specs.declared.fault.ApplyFault.TheVariants.{Refused, GroupNodes, GroupSwitches, WriteFault, NoMemory}
use Rattle.session_meaning.specs.Sinks.{fault_of_sink}
use Rattle.symbol_meaning.specs.Told.{SymbolTold}
use Rattle.symbol_told.specs.Lines.{Telling}

-- a line of another kind than a waveform line, with which no rails are told
abbrev pub telling : SymbolTold → Telling
telling line = record { line = line; highs = []; lows = [] }

abbrev pub tellings : List SymbolTold → List Telling
tellings lines = map telling lines

-- these lines were heard, or at a fault a front of them
abbrev pub HearsSome : {H A E : Type 0} → (H → A → H) → (H → A → H → Type 0) → H → H → List A → Result (Unit {0}) E → Type 0
HearsSome hear part before after lines (Ok _) = after ≡ hear_all hear before lines
HearsSome hear part before after lines (Err fault) = HearsFront hear part before after lines

-- what a command comes to that tells these lines: it is refused exactly if there is a refusal, and then nothing was heard; or the lines were heard,
-- or at a fault a front of them
abbrev pub TellsInAll : {H : Type 0} → (H → Telling → H) → (H → Telling → H → Type 0) → Option Refusal → List Telling → H → H → Result (Unit {0}) ApplyFault →
    Type 0
TellsInAll hear part found lines before after (Ok _) = (found ≡ None) × (after ≡ hear_all hear before lines)
TellsInAll hear part found lines before after (Err (Refused refusal)) = (found ≡ Some refusal) × (after ≡ before)
TellsInAll hear part found lines before after (Err (GroupNodes node count)) = ⊥
TellsInAll hear part found lines before after (Err (GroupSwitches node count)) = ⊥
TellsInAll hear part found lines before after (Err WriteFault) = (found ≡ None) × HearsFront hear part before after lines
TellsInAll hear part found lines before after (Err NoMemory) = (found ≡ None) × HearsFront hear part before after lines

-- the count of the hearer's refused memory after such a command, which takes memory of its own too
abbrev pub RefusedTelling : ℕ → ℕ → Result (Unit {0}) ApplyFault → Type 0
RefusedTelling before now (Ok _) = now ≡ before
RefusedTelling before now (Err (Refused refusal)) = now ≡ before
RefusedTelling before now (Err (GroupNodes node count)) = now ≡ before
RefusedTelling before now (Err (GroupSwitches node count)) = now ≡ before
RefusedTelling before now (Err WriteFault) = now ≡ before
RefusedTelling before now (Err NoMemory) = (now ≡ before) ⊎ (now ≡ raised before 1)

-- what a command ends with where its telling ended so
abbrev pub applied : Result (Unit {0}) PortFault → Result (Unit {0}) ApplyFault
applied (Ok done) = Ok done
applied (Err fault) = Err (fault_of_sink fault)
