-- The assignments of a plain script that stand for those of a symbolic one, with 0 in the place of each formula. No refusal looks at a letter, so they
-- are refused as the assignments under each valuation are.
use Rattle.std.specs.Prelude.{◌≡◌, ℕ, List, map, Option, Some, Ok}
use Rattle.ternary.specs.declared.tern.Tern.TheVariants.{Zero}
use Rattle.netlist.specs.Circuits.{CircuitData}
use Rattle.vector_values.specs.Values.{Letter}
use Rattle.script_lang.specs.declared.value.Value.{Value}
use Rattle.script_lang.specs.Parts.{value_by}
use Rattle.node_values.specs.Givings.{letters_given, vector_named}
use Rattle.symbol_lines.specs.declared.items.Item.{Item}
use Rattle.symbol_lines.specs.declared.items.Item.TheVariants as item
use Rattle.symbol_lines.specs.declared.values.SymbolValue.{SymbolValue}
use Rattle.symbol_lines.specs.declared.values.SymbolValue.TheVariants as value
use Rattle.symbol_script.specs.declared.line.Assignment.{Assignment}
use Rattle.symbol_meaning.specs.Readings.{given_by_list}

-- the letter of an item, with 0 for any formula
abbrev pub stand_letter : Item → Letter
stand_letter (item.Letter letter) = letter
stand_letter (item.Formula parts) = Some Zero

-- what a value gives to a name of a vector with these nodes, or to one of none, where the items of lists have these letters
abbrev pub given_with : (Item → Letter) → Option (List ℕ) → SymbolValue → Value
given_with letter nodes (value.Plain plain) = value_by plain
given_with letter nodes (value.List items) = given_by_list nodes (map letter items)

-- the assignment that stands for one under each valuation
abbrev pub stand_in : CircuitData → List (List ℕ × List ℕ) → Assignment → List ℕ × Value
stand_in c vectors own = (own.name, given_with stand_letter (vector_named c vectors own.name) own.value)

-- it gives letters: the name stands for nodes that the value fits, which doesn't depend on the valuation
abbrev pub IsGiven : CircuitData → List (List ℕ × List ℕ) → Assignment → Type 0
IsGiven c vectors own = (pairs : List (ℕ × Letter)) × (letters_given c vectors (stand_in c vectors own) ≡ Ok pairs)
