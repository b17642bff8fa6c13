-- What is read of a script before its first line is obeyed, in one record, and what one line more does to it.
use Rattle.std.specs.Prelude.{◌≡◌, ℕ, Bool, true, false, ◌⊎◌, List, [], ◌∷◌, Option, Some, None, Ok, Err}
use Rattle.line_words.specs.Files.{is_cut}
use Rattle.script_lang.specs.declared.command.ScriptFault.{ScriptFault}
use Rattle.symbol_lines.specs.declared.names.NameFault.{NameFault}
use Rattle.symbol_lines.specs.Names.{NamesData, names_fault, names_in_value, with_line}
use Rattle.symbol_script.specs.declared.line.Assignment.{Assignment}
use Rattle.symbol_script.specs.declared.line.SymbolLine.{SymbolLine}
use Rattle.symbol_script.specs.Lines.{names_of_line, symbol_reading_of}
use Rattle.symbol_meaning.specs.Scripts.{NamedStop, bound_in, bound_of_script, read_of, stop_of, variables_of}
use Rattle.symbol_reading.specs.declared.reading.ScriptRead.{ScriptRead}
use Rattle.symbol_reading.specs.declared.reading.Next.{Next}
use Rattle.symbol_reading.specs.declared.reading.Next.TheVariants as next

-- what is read of a script's lines
abbrev pub read_data : Bool → Option ℕ → List (ℕ × List ℕ) → ScriptRead
read_data quiet cut lines = record {
  variables = variables_of (read_of quiet cut lines);
  bound = bound_of_script (read_of quiet cut lines);
  stop = stop_of quiet cut lines;
}

-- the names that an assignment's value uses
abbrev pub names_in_assignment : Assignment → List (List ℕ)
names_in_assignment own = names_in_value own.value

-- this number if there is one, else that one
abbrev pub number_or : Option ℕ → ℕ → ℕ
number_or (Some number) other = number
number_or None other = other

-- what was read where these names and this bound are there at the end
abbrev pub ended : NamesData → ℕ → Option NamedStop → ScriptRead
ended d bound stop = record { variables = d.variables; bound = bound; stop = stop }

-- if the names of the line with this number aren't refused, what is read with it
abbrev pub by_names : Option NameFault → ℕ → NamesData → ℕ → ScriptRead → ScriptRead
by_names None number d bound later = later
by_names (Some fault) number d bound later = ended d bound (Some (number, fault))

-- what is read if these lines come behind those of which these names and this bound are
abbrev pub rest_read : NamesData → ℕ → List (ℕ × Option SymbolLine) → ScriptRead
rest_read d bound [] = ended d bound None
rest_read d bound (own ∷ asked) =
    by_names (names_fault d (names_of_line own.1)) own.0 d bound
    (rest_read (with_line d (names_of_line own.1)) (number_or (bound_in own.1) bound) asked)

-- the names and the bound after a line that asks for this: with its names, unless it is refused by them
abbrev pub Takes : NamesData → ℕ → Option SymbolLine → NamesData → ℕ → Next → Type 0
Takes d bound asked new_d new_bound next.Line =
    (names_fault d (names_of_line asked) ≡ None) × (new_d ≡ with_line d (names_of_line asked)) × (new_bound ≡ number_or (bound_in asked) bound)
Takes d bound asked new_d new_bound (next.Stop fault) = (names_fault d (names_of_line asked) ≡ Some fault) × (new_d ≡ d) × (new_bound ≡ bound)
Takes d bound asked new_d new_bound next.End = ⊥

-- reading ends before a line that holds the first byte too many or is no command
abbrev pub EndsAt : Bool → Option ℕ → ℕ × List ℕ → Type 0
EndsAt quiet cut line = (is_cut cut line.0 ≡ true) ⊎ ((fault : ScriptFault) × (symbol_reading_of quiet line.1 ≡ Err fault))

-- and goes on with one that is none of both, and asks for this
pub record GoesOn (quiet : Bool) (cut : Option ℕ) (d : NamesData) (bound : ℕ) (line : ℕ × List ℕ) (new_d : NamesData) (new_bound : ℕ) (what : Next) : Type 0 where
  pub asked : Option SymbolLine
  pub inside : is_cut cut line.0 ≡ false
  pub asks : symbol_reading_of quiet line.1 ≡ Ok asked
  pub takes : Takes d bound asked new_d new_bound what

-- what comes of reading a line
abbrev pub Reads : Bool → Option ℕ → NamesData → ℕ → ℕ × List ℕ → NamesData → ℕ → Next → Type 0
Reads quiet cut d bound line new_d new_bound next.Line = GoesOn quiet cut d bound line new_d new_bound next.Line
Reads quiet cut d bound line new_d new_bound (next.Stop fault) = GoesOn quiet cut d bound line new_d new_bound (next.Stop fault)
Reads quiet cut d bound line new_d new_bound next.End = EndsAt quiet cut line × (new_d ≡ d) × (new_bound ≡ bound)
