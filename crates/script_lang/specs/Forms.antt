-- Well-formed commands.
use Rattle.std.specs.Prelude.{ℕ, ◌<◌, ◌≤◌, List, length, All}
use Rattle.ternary.specs.declared.tern.Tern.{Tern}
use Rattle.script_lang.specs.declared.TheConstants.{LEAST_WIDE, MOST_TIMES}
use Rattle.script_lang.specs.declared.value.Value.{Value}
use Rattle.script_lang.specs.declared.command.Command.{Command}
use Rattle.script_lang.specs.declared.command.Command.TheVariants as family
use Rattle.script_lang.specs.declared.command.Edit.{Edit}
use Rattle.script_lang.specs.declared.command.Edit.TheVariants.{Input, Store, Add, Del, Strength, Kind, Wire}
use Rattle.script_lang.specs.declared.command.Give.{Give}
use Rattle.script_lang.specs.declared.command.Give.TheVariants.{Set, Charge, Back}
use Rattle.script_lang.specs.declared.command.Setup.{Setup}
use Rattle.script_lang.specs.declared.command.Setup.TheVariants.{Watch, Limit, Clock, Keep, Widen, Save, Vector}
use Rattle.script_lang.specs.declared.command.Run.{Run}
use Rattle.script_lang.specs.declared.command.Run.TheVariants.{Step, Phase, Cycle, Report}
use Rattle.script_lang.specs.declared.command.Tell.{Tell}
use Rattle.script_lang.specs.declared.command.Tell.TheVariants.{Expect, Show, Look}
use Rattle.line_words.specs.Visible.{IsVisibleName}

-- one name or more
abbrev pub AreNames : List (List ℕ) → Type 0
AreNames names = (0 < length names) × All IsVisibleName names

-- one assignment or more
abbrev pub AreAssignments : List (List ℕ × Value) → Type 0
AreAssignments list = (0 < length list) × All (λ item. IsVisibleName item.0) list

-- one clock or more, each with one state or more
abbrev pub AreBeats : List (List ℕ × List Tern) → Type 0
AreBeats list = (0 < length list) × All (λ item. IsVisibleName item.0 × (0 < length item.1)) list

-- the names of a transistor's gate, source and drain
abbrev pub AreTerminalNames : List ℕ → List ℕ → List ℕ → Type 0
AreTerminalNames gate source drain = IsVisibleName gate × IsVisibleName source × IsVisibleName drain

-- a number from 1 to `MOST_TIMES`
abbrev pub IsTimes : ℕ → Type 0
IsTimes number = (1 ≤ number) × (number ≤ MOST_TIMES)

-- a number of `wide`: from `LEAST_WIDE` to `MOST_TIMES`
abbrev pub IsWidth : ℕ → Type 0
IsWidth number = (LEAST_WIDE ≤ number) × (number ≤ MOST_TIMES)

-- an edit is well formed: its names are names
abbrev pub IsFormedEdit : Edit → Type 0
IsFormedEdit (Input names) = AreNames names
IsFormedEdit (Store name size) = IsVisibleName name
IsFormedEdit (Add kind gate source drain strength) = AreTerminalNames gate source drain
IsFormedEdit (Del number) = Unit {0}
IsFormedEdit (Strength number strength) = Unit {0}
IsFormedEdit (Kind number kind) = Unit {0}
IsFormedEdit (Wire number gate source drain) = AreTerminalNames gate source drain

-- so is what gives states
abbrev pub IsFormedGive : Give → Type 0
IsFormedGive (Set list) = AreAssignments list
IsFormedGive (Charge list) = AreAssignments list
IsFormedGive (Back name) = IsVisibleName name

-- and what sets: its number is in range
abbrev pub IsFormedSetup : Setup → Type 0
IsFormedSetup (Watch names) = AreNames names
IsFormedSetup (Limit number) = IsTimes number
IsFormedSetup (Clock list) = AreBeats list
IsFormedSetup (Keep number) = IsTimes number
IsFormedSetup (Widen number) = IsWidth number
IsFormedSetup (Save name) = IsVisibleName name
IsFormedSetup (Vector name words) = IsVisibleName name × AreNames words

-- and what has the circuit built
abbrev pub IsFormedRun : Run → Type 0
IsFormedRun Step = Unit {0}
IsFormedRun Phase = Unit {0}
IsFormedRun (Cycle number) = IsTimes number
IsFormedRun Report = Unit {0}

-- and what tells
abbrev pub IsFormedTell : Tell → Type 0
IsFormedTell (Expect list) = AreAssignments list
IsFormedTell (Show names) = AreNames names
IsFormedTell (Look names) = AreNames names

-- a command is well formed: its lists have an item, its names are names, and its number of times is in range
abbrev pub IsFormed : Command → Type 0
IsFormed (family.Edit edit) = IsFormedEdit edit
IsFormed (family.Give give) = IsFormedGive give
IsFormed (family.Setup setup) = IsFormedSetup setup
IsFormed (family.Run run) = IsFormedRun run
IsFormed (family.Tell tell) = IsFormedTell tell
