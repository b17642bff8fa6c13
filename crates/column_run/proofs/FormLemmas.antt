-- What a column is given of a well-formed command is well formed.
use Rattle.std.proofs.Common.{ℕ, List, map, arith}
use Rattle.std.proofs.lemmas.List.{length-map}
use Rattle.std.proofs.lemmas.List.Elements.{All-map, All-weaker}
use Rattle.ternary.specs.declared.tern.Tern.{Tern}
use Rattle.line_words.specs.Visible.{IsVisibleName}
use Rattle.script_lang.specs.declared.value.Value.{Value}
use Rattle.script_lang.specs.Forms as form
use Rattle.column_script.specs.declared.command.ColumnCommand.{ColumnCommand}
use Rattle.column_script.specs.declared.command.ColumnCommand.TheVariants.{Values, Shared}
use Rattle.column_script.specs.declared.command.ValueCommand.TheVariants as value
use Rattle.column_script.specs.Commands.{alone_of, in_column, value_in}
use Rattle.column_script.specs.Forms.{IsFormed, AreColumnValues, IsColumnValue}

-- values in a column are assignments
values_formed : (columns column : ℕ) (list : List (List ℕ × List Tern)) → AreColumnValues columns list → form.AreAssignments (map alone_of (map (value_in column) list))
values_formed columns column list (some, each) = (
  omega (arith, some, length-map list (value_in column), length-map (map (value_in column) list) alone_of),
  All-map (λ (item : List ℕ × Value). IsVisibleName item.0) alone_of (map (value_in column) list)
      (All-map (λ (item : List ℕ × Tern). IsVisibleName item.0) (value_in column) list
      (All-weaker (IsColumnValue columns) (λ (value : List ℕ × List Tern). IsVisibleName value.0) (λ value is. is.named) list each)),
)

pub formed_in : (columns column : ℕ) (command : ColumnCommand) → IsFormed columns command → form.IsFormed (in_column column command)
formed_in columns column (Values value.Set list) formed = values_formed columns column list formed
formed_in columns column (Values value.Charge list) formed = values_formed columns column list formed
formed_in columns column (Shared command) formed = formed.0
