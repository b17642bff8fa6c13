-- The words that a line of a symbolic script watches.
use Rattle.std.specs.Prelude.{ℕ, Bool, List, [], ◌∷◌, ◌++◌, length, map, Option, Some, None, Result, Ok, Err}
use Rattle.netlist.specs.Circuits.{CircuitData}
use Rattle.script_lang.specs.declared.command.Command.{Command}
use Rattle.script_lang.specs.declared.command.Command.TheVariants as family
use Rattle.script_lang.specs.declared.command.Setup.{Setup}
use Rattle.script_lang.specs.declared.command.Setup.TheVariants.{Watch, Limit, Clock, Keep, Widen, Save, Vector}
use Rattle.script_lang.specs.declared.command.ScriptFault.{ScriptFault}
use Rattle.session_meaning.specs.Refusals.{nodes_named}
use Rattle.symbol_script.specs.declared.line.SymbolLine.{SymbolLine}
use Rattle.symbol_script.specs.declared.line.SymbolLine.TheVariants as asks
use Rattle.symbol_script.specs.Lines.{symbol_reading_of}
use Rattle.symbol_meaning.specs.Comparing.{Watched}

-- a `watch` watches its names, and nothing else does
abbrev pub names_in_setup : Setup → List (List ℕ)
names_in_setup (Watch names) = names
names_in_setup (Limit number) = []
names_in_setup (Clock list) = []
names_in_setup (Keep number) = []
names_in_setup (Widen number) = []
names_in_setup (Save name) = []
names_in_setup (Vector name words) = []

abbrev pub names_in_command : Command → List (List ℕ)
names_in_command (family.Edit edit) = []
names_in_command (family.Give give) = []
names_in_command (family.Setup setup) = names_in_setup setup
names_in_command (family.Run run) = []
names_in_command (family.Tell tell) = []

-- what a line watches that asks for this
abbrev pub names_asked : Option SymbolLine → List (List ℕ)
names_asked None = []
names_asked (Some (asks.Values command list)) = []
names_asked (Some (asks.Names command)) = []
names_asked (Some (asks.Plain command)) = names_in_command command

abbrev pub names_read : Result (Option SymbolLine) ScriptFault → List (List ℕ)
names_read (Ok asked) = names_asked asked
names_read (Err fault) = []

-- the words that a line watches, and those that lines watch, in order
abbrev pub names_watched : Bool → ℕ × List ℕ → List (List ℕ)
names_watched quiet line = names_read (symbol_reading_of quiet line.1)

abbrev pub all_watched : Bool → List (ℕ × List ℕ) → List (List ℕ)
all_watched quiet [] = []
all_watched quiet (line ∷ lines) = names_watched quiet line ++ all_watched quiet lines

-- words, each with how many nodes it stands for
abbrev pub counted_words : CircuitData → List (List ℕ × List ℕ) → List (List ℕ) → List Watched
counted_words c vectors names = map (λ name. (name, length (nodes_named c vectors name))) names
