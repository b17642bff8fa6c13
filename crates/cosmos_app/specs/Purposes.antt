-- Inside the program: what the lines of a script are run for.
use Rattle.std.specs.Prelude.{ℕ, List}
use Rattle.netlist.specs.Circuits.{CircuitData}
use Rattle.run_ends.specs.Answers.{Answer}
use Rattle.command_line.specs.declared.request.Purpose.{Purpose}
use Rattle.command_line.specs.declared.request.Purpose.TheVariants.{Lines, Columns, Reasons, Cover}
use Rattle.cosmos_app.specs.ColumnRuns.{IsColumnRun}
use Rattle.command_line.specs.Columns.{columns_seen}
use Rattle.script_reports.specs.Reasoned.{IsReasoned}
use Rattle.script_reports.specs.Covered.{IsCovered}
use Rattle.cosmos_app.specs.Answers.{IsSimulation}

-- the answer of a script that is run for this purpose, from the start in a circuit
abbrev pub IsRunFor : Purpose → List ℕ → CircuitData → Answer → Type 0
IsRunFor Lines script = IsSimulation script
IsRunFor (Columns columns) script = IsColumnRun (columns_seen columns) script
IsRunFor (Reasons node) script = IsReasoned script node.now
IsRunFor Cover script = IsCovered script
