-- A symbolic script under a valuation of its variables: each formula gives way to the letter of its truth value, a list gives its letters to the
-- nodes one by one, the commands that say of names are blank lines, and what is left is a plain script.
use Rattle.std.specs.Prelude.{ℕ, ◌^◌, Bool, ◌==◌, List, [], ◌∷◌, ◌++◌, length, map, Option, Some, None, Result, Ok, Err, if◌then◌else◌}
use Rattle.std.specs.List.{range_with_len}
use Rattle.netlist.specs.Circuits.{CircuitData}
use Rattle.vector_values.specs.Values.{Letter, plain_value}
use Rattle.script_lang.specs.declared.value.Value.{Value}
use Rattle.script_lang.specs.declared.value.Value.TheVariants as given
use Rattle.script_lang.specs.declared.command.Command.{Command}
use Rattle.script_lang.specs.declared.command.Command.TheVariants as family
use Rattle.script_lang.specs.declared.command.Give.TheVariants as give
use Rattle.script_lang.specs.declared.command.Tell.TheVariants as tell
use Rattle.script_lang.specs.declared.command.ScriptFault.{ScriptFault}
use Rattle.script_lang.specs.Parts.{value_by}
use Rattle.node_values.specs.Givings.{vector_named}
use Rattle.formulas.specs.declared.formula.Part.{Part}
use Rattle.formula_functions.specs.Truths.{truth_of}
use Rattle.formula_functions.specs.Tables.{value_named}
use Rattle.truth_makers.specs.Valuations.{valuation_of}
use Rattle.truth_makers.specs.Expecting.{state_of_truth}
use Rattle.symbol_lines.specs.declared.items.Item.{Item}
use Rattle.symbol_lines.specs.declared.items.Item.TheVariants as item
use Rattle.symbol_lines.specs.declared.values.SymbolValue.{SymbolValue}
use Rattle.symbol_lines.specs.declared.values.SymbolValue.TheVariants as value
use Rattle.symbol_script.specs.declared.line.Assignment.{Assignment}
use Rattle.symbol_script.specs.declared.line.SymbolLine.{SymbolLine}
use Rattle.symbol_script.specs.declared.line.SymbolLine.TheVariants as line
use Rattle.symbol_script.specs.declared.line.ValueVerb.{ValueVerb}
use Rattle.symbol_script.specs.declared.line.ValueVerb.TheVariants.{Set, Charge, Expect}
use Rattle.symbol_script.specs.Lines.{symbol_reading_of}
use Rattle.script_meaning.specs.Runs.{Reading}
use Rattle.symbol_meaning.specs.Scripts.{definitions_of, variables_of}

-- ---- valuations

-- the valuations of a script: how many there are, in order, false before true and the first variable counting most; by its number, the truth
-- values of the variables, in order; and that of each name
pub record Valuations : Type 0 where
  pub columns : ℕ
  pub variables : List (List ℕ)
  pub truths : ℕ → List Bool
  pub values : ℕ → List ℕ → Bool

-- the truth values of so many variables under the valuation with this number
abbrev pub truths_in : ℕ → ℕ → List Bool
truths_in variables column = map (valuation_of variables column) (range_with_len 0 variables)

-- the truth value of a name, where these names have these truth values, and a defined name that of its formula by the names before it
abbrev pub values_with : List (List ℕ) → List Bool → List (List ℕ × List Part) → List ℕ → Bool
values_with names truths [] = value_named names truths
values_with names truths (own ∷ others) =
    values_with (names ++ own.0 ∷ []) (truths ++ truth_of (value_named names truths) own.1 ∷ []) others

-- the valuations of what was read of a script
abbrev pub valuations_of : List (Option SymbolLine) → Valuations
valuations_of read = record {
  columns = 2 ^ length (variables_of read);
  variables = variables_of read;
  truths = truths_in (length (variables_of read));
  values = λ column. values_with (variables_of read) (truths_in (length (variables_of read)) column) (definitions_of read);
}

-- ---- values

-- the letter of an item: a formula's is that of its truth value
abbrev pub letter_under : (List ℕ → Bool) → Item → Letter
letter_under values (item.Letter letter) = letter
letter_under values (item.Formula parts) = Some (state_of_truth (truth_of values parts))

-- what the letters of a list give: to a vector a letter for each of its nodes, if they are as many, and else none, which fit no vector; to any other
-- name what these letters side by side give
abbrev pub given_by_list : Option (List ℕ) → List Letter → Value
given_by_list None letters = value_by (plain_value letters)
given_by_list (Some nodes) letters = given.Wide (plain_value (if length letters == length nodes then letters else []))

-- what a value gives to a name of a vector with these nodes, or to one of none
abbrev pub given_under : (List ℕ → Bool) → Option (List ℕ) → SymbolValue → Value
given_under values nodes (value.Plain plain) = value_by plain
given_under values nodes (value.List items) = given_by_list nodes (map (letter_under values) items)

-- what an assignment is of a plain script
abbrev pub plain_under : (List ℕ → Bool) → CircuitData → List (List ℕ × List ℕ) → Assignment → List ℕ × Value
plain_under values c vectors own = (own.name, given_under values (vector_named c vectors own.name) own.value)

-- ---- lines

-- the command of a plain script with these assignments
abbrev pub command_with : ValueVerb → List (List ℕ × Value) → Command
command_with Set list = family.Give (give.Set list)
command_with Charge list = family.Give (give.Charge list)
command_with Expect list = family.Tell (tell.Expect list)

-- the command of a plain script that a line is which asks for this; one that says of names is a blank line
abbrev pub asked_under : (List ℕ → Bool) → CircuitData → List (List ℕ × List ℕ) → SymbolLine → Option Command
asked_under values c vectors (line.Values command list) = Some (command_with command (map (plain_under values c vectors) list))
asked_under values c vectors (line.Names command) = None
asked_under values c vectors (line.Plain command) = Some command

abbrev pub command_under : (List ℕ → Bool) → CircuitData → List (List ℕ × List ℕ) → Result (Option SymbolLine) ScriptFault → Result (Option Command) ScriptFault
command_under values c vectors (Ok None) = Ok None
command_under values c vectors (Ok (Some asked)) = Ok (asked_under values c vectors asked)
command_under values c vectors (Err fault) = Err fault

-- how a line is read where the names have these truth values
abbrev pub reading_under : Bool → (List ℕ → Bool) → Reading
reading_under quiet values c vectors bytes = command_under values c vectors (symbol_reading_of quiet bytes)
