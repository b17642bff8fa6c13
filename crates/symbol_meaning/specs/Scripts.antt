-- What is read of a symbolic script before its first line is obeyed: its variables, the names that it defines, and how many vertices there may be.
-- The text is read from the top up to the first line that is refused by its words or its names. That line and those behind it are never obeyed, and
-- count for nothing.
use Rattle.std.specs.Prelude.{ℕ, Bool, List, [], ◌∷◌, map, filter, filter_map, nat_lt, Option, Some, None, option_map, Result, Ok, Err, if◌then◌else◌}
use Rattle.line_words.specs.Files.{is_cut}
use Rattle.script_lang.specs.declared.command.ScriptFault.{ScriptFault}
use Rattle.formulas.specs.declared.formula.Part.{Part}
use Rattle.symbol_lines.specs.declared.commands.SymbolCommand.{SymbolCommand}
use Rattle.symbol_lines.specs.declared.commands.SymbolCommand.TheVariants.{Variables, Let, Vertices}
use Rattle.symbol_lines.specs.declared.names.NameFault.{NameFault}
use Rattle.symbol_lines.specs.Names.{NamesData, names_fault, no_names, with_line, with_lines}
use Rattle.symbol_script.specs.declared.line.SymbolLine.{SymbolLine}
use Rattle.symbol_script.specs.declared.line.SymbolLine.TheVariants as line
use Rattle.symbol_script.specs.Lines.{names_of_line, symbol_reading_of}

-- a line that asks for this and the ones behind it, unless it is no command
abbrev pub and_others : ℕ → Result (Option SymbolLine) ScriptFault → List (ℕ × Option SymbolLine) → List (ℕ × Option SymbolLine)
and_others number (Ok asked) others = (number, asked) ∷ others
and_others number (Err fault) others = []

-- what the lines ask for that stand before the first that is no command or holds the first byte too many, each with its number
abbrev pub asked_lines : Bool → Option ℕ → List (ℕ × List ℕ) → List (ℕ × Option SymbolLine)
asked_lines quiet cut [] = []
asked_lines quiet cut (own ∷ lines) =
    if is_cut cut own.0 then [] else and_others own.0 (symbol_reading_of quiet own.1) (asked_lines quiet cut lines)

-- a line that is refused by its names, and why
abbrev pub NamedStop : Type 0
NamedStop = ℕ × NameFault

-- this one if there is one, else that one
abbrev pub this_or : Option NamedStop → Option NamedStop → Option NamedStop
this_or (Some stop) other = Some stop
this_or None other = other

-- the first of these lines that is refused by its names, where such names are there before them
abbrev pub first_by_names : NamesData → List (ℕ × Option SymbolLine) → Option NamedStop
first_by_names d [] = None
first_by_names d (own ∷ lines) =
    this_or (option_map (λ fault. (own.0, fault)) (names_fault d (names_of_line own.1))) (first_by_names (with_line d (names_of_line own.1)) lines)

-- the first line of a script that is refused by its names, if none before it is refused otherwise by its words
abbrev pub stop_of : Bool → Option ℕ → List (ℕ × List ℕ) → Option NamedStop
stop_of quiet cut lines = first_by_names no_names (asked_lines quiet cut lines)

-- the lines before that one, or all
abbrev pub before_stop : {A : Type 0} → Option NamedStop → List (ℕ × A) → List (ℕ × A)
before_stop None lines = lines
before_stop (Some stop) lines = filter (λ own. nat_lt own.0 stop.0) lines

-- what is read of a script: what each line asks for that stands before the first that is refused by its words or its names
abbrev pub read_of : Bool → Option ℕ → List (ℕ × List ℕ) → List (Option SymbolLine)
read_of quiet cut lines = map (λ own. own.1) (before_stop (stop_of quiet cut lines) (asked_lines quiet cut lines))

-- the variables of what was read, in the order of their first appearance: each name of which no earlier line was the definition
abbrev pub variables_of : List (Option SymbolLine) → List (List ℕ)
variables_of read = (with_lines (map names_of_line read) no_names).variables

-- the name and the formula of a `let`
abbrev pub definition_of_command : SymbolCommand → Option (List ℕ × List Part)
definition_of_command (Variables names) = None
definition_of_command (Let name parts) = Some (name, parts)
definition_of_command (Vertices number) = None

abbrev pub definition_in : Option SymbolLine → Option (List ℕ × List Part)
definition_in None = None
definition_in (Some (line.Values command list)) = None
definition_in (Some (line.Names command)) = definition_of_command command
definition_in (Some (line.Plain command)) = None

-- the names that are defined, in order, with their formulas
abbrev pub definitions_of : List (Option SymbolLine) → List (List ℕ × List Part)
definitions_of read = filter_map definition_in read

-- the number of a `vertices`
abbrev pub bound_of_command : SymbolCommand → Option ℕ
bound_of_command (Variables names) = None
bound_of_command (Let name parts) = None
bound_of_command (Vertices number) = Some number

abbrev pub bound_in : Option SymbolLine → Option ℕ
bound_in None = None
bound_in (Some (line.Values command list)) = None
bound_in (Some (line.Names command)) = bound_of_command command
bound_in (Some (line.Plain command)) = None

-- how many vertices there may be if no line says so
abbrev pub usual_bound : ℕ
usual_bound = 16777216

-- the last of these numbers, or else this one
abbrev pub last_or : ℕ → List ℕ → ℕ
last_or number [] = number
last_or number (other ∷ others) = last_or other others

-- how many vertices there may be: as many as the last `vertices` says
abbrev pub bound_of_script : List (Option SymbolLine) → ℕ
bound_of_script read = last_or usual_bound (filter_map bound_in read)
