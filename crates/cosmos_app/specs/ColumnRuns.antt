-- The answer of a run of a script in columns.
use Rattle.std.specs.Prelude.{ℕ, List}
use Rattle.line_words.specs.Files.{lines_in, cut_line}
use Rattle.netlist.specs.Circuits.{CircuitData}
use Rattle.run_ends.specs.Answers.{Answer}
use Rattle.session_meaning.specs.Sessions.{start_of}
use Rattle.column_run.specs.ColumnAnswers.{IsColumnAnswer}

-- the answer of a script in so many columns: that of its lines, from the start in the circuit in each of them
abbrev pub IsColumnRun : ℕ → List ℕ → CircuitData → Answer → Type 0
IsColumnRun columns script circuit answer = IsColumnAnswer columns (cut_line script) (λ column. start_of circuit) (lines_in script) answer
