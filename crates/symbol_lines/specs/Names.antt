-- The names of a symbolic script: its variables, in the order of their first appearance, and the names that are defined.
use Rattle.std.specs.Prelude.{◌≡◌, ℕ, ◌≤◌, Bool, ◌||◌, true, false, List, [], ◌∷◌, ◌++◌, length, map, nat_lt, bytes_eq, Vec, Option, Some, None, if◌then◌else◌}
use Rattle.std.specs.List.{flat_map, list_any}
use Rattle.std.specs.declared.alloc.Global.{Global}
use Rattle.formulas.specs.declared.formula.Part.{Part}
use Rattle.formulas.specs.declared.formula.Part.TheVariants.{Name, Not, Join}
use Rattle.symbol_lines.specs.declared.TheConstants.{MOST_VARIABLES}
use Rattle.symbol_lines.specs.declared.items.Item.{Item}
use Rattle.symbol_lines.specs.declared.items.Item.TheVariants as item
use Rattle.symbol_lines.specs.declared.values.SymbolValue.{SymbolValue}
use Rattle.symbol_lines.specs.declared.values.SymbolValue.TheVariants as value
use Rattle.symbol_lines.specs.declared.commands.SymbolCommand.{SymbolCommand}
use Rattle.symbol_lines.specs.declared.commands.SymbolCommand.TheVariants.{Variables, Let, Vertices}
use Rattle.symbol_lines.specs.declared.names.NameFault.{NameFault}
use Rattle.symbol_lines.specs.declared.names.NameFault.TheVariants.{TooManyVariables, NameDefined}

-- the variables, and the names that are defined
pub record NamesData : Type 0 where
  pub variables : List (List ℕ)
  pub defined : List (List ℕ)

-- no name yet
abbrev pub no_names : NamesData
no_names = record { variables = []; defined = [] }

-- what a line says of names: those that it uses, from left to right, and the one that it defines
pub record LineData : Type 0 where
  pub used : List (List ℕ)
  pub defines : Option (List ℕ)

abbrev pub line_of : List (List ℕ) → Option (List ℕ) → LineData
line_of used defines = record { used = used; defines = defines }

-- the names in the parts of a formula
abbrev pub names_in_part : Part → List (List ℕ)
names_in_part (Name name) = name ∷ []
names_in_part Not = []
names_in_part (Join sign) = []

abbrev pub names_in_parts : List Part → List (List ℕ)
names_in_parts parts = flat_map names_in_part parts

-- in an item, and in a value
abbrev pub names_in_item : Item → List (List ℕ)
names_in_item (item.Letter letter) = []
names_in_item (item.Formula parts) = names_in_parts parts

abbrev pub names_in_value : SymbolValue → List (List ℕ)
names_in_value (value.Plain plain) = []
names_in_value (value.List items) = flat_map names_in_item items

-- a line with assignments of these values, and a line with one of the commands that name variables
abbrev pub line_of_values : List SymbolValue → LineData
line_of_values values = record { used = flat_map names_in_value values; defines = None }

abbrev pub line_of_command : SymbolCommand → LineData
line_of_command (Variables names) = record { used = names; defines = None }
line_of_command (Let name parts) = record { used = names_in_parts parts; defines = Some name }
line_of_command (Vertices number) = record { used = []; defines = None }

-- the name is one of these, compared byte by byte
abbrev pub has_name : List (List ℕ) → List ℕ → Bool
has_name names name = list_any (bytes_eq name) names

-- the names with one that appears: it is a variable, unless it is defined
abbrev pub with_name : NamesData → List ℕ → NamesData
with_name d name =
    if has_name d.defined name || has_name d.variables name then d else record d { variables = d.variables ++ name ∷ [] }

-- with all that a line uses
abbrev pub with_names : List (List ℕ) → NamesData → NamesData
with_names [] d = d
with_names (name ∷ names) d = with_names names (with_name d name)

-- a name that may not be defined: it is defined, or is a variable
abbrev pub definition_fault : NamesData → Option (List ℕ) → Option NameFault
definition_fault d None = None
definition_fault d (Some name) = if has_name d.defined name || has_name d.variables name then Some NameDefined else None

-- why a line is refused by its names: it brings the variables past the most, else it defines what may not be defined
abbrev pub names_fault : NamesData → LineData → Option NameFault
names_fault d line =
    if nat_lt MOST_VARIABLES (length (with_names line.used d).variables)
    then Some TooManyVariables
    else definition_fault (with_names line.used d) line.defines

-- with the name that a line defines
abbrev pub with_definition : NamesData → Option (List ℕ) → NamesData
with_definition d None = d
with_definition d (Some name) = record d { defined = d.defined ++ name ∷ [] }

-- the names after a line
abbrev pub with_line : NamesData → LineData → NamesData
with_line d line = with_definition (with_names line.used d) line.defines

-- these names if there is no fault, else those
abbrev pub unless_fault : Option NameFault → NamesData → NamesData → NamesData
unless_fault None later now = later
unless_fault (Some fault) later now = now

-- the names of the lines that stand before the first one that is refused by its names
abbrev pub with_lines : List LineData → NamesData → NamesData
with_lines [] d = d
with_lines (line ∷ lines) d = unless_fault (names_fault d line) (with_lines lines (with_line d line)) d

-- the bytes of the keys of a table
abbrev pub keys_of : List (Vec ℕ Global) → List (List ℕ)
keys_of keys = map (λ key. key.items) keys

-- no variable is defined, and there are no more variables than there may be
pub record AreNames (d : NamesData) : Type 0 where
  pub few : length d.variables ≤ MOST_VARIABLES
  pub apart : (name : List ℕ) → has_name d.variables name ≡ true → has_name d.defined name ≡ false

-- after a line that isn't refused no variable is defined and there are no more than there may be, if that was so before
abbrev pub NamesStayApart : Type 0
NamesStayApart = (d : NamesData) (line : LineData) → AreNames d → names_fault d line ≡ None → AreNames (with_line d line)
