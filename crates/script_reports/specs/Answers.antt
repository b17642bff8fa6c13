-- The answers that sum up the run of a script, from the start in a circuit.
use Rattle.std.specs.Prelude.{ℕ, List, count_by, is_some}
use Rattle.switch_paths.specs.Graphs.{nodes}
use Rattle.line_words.specs.Files.{lines_in, cut_line}
use Rattle.netlist.specs.Circuits.{CircuitData}
use Rattle.sim_read.specs.Meaning.{netlist_of}
use Rattle.net_gen.specs.declared.families.GenPart.TheVariants as part
use Rattle.command_line.specs.Samples.{Sample, text_of}
use Rattle.run_ends.specs.Answers.{Answer}
use Rattle.circuit_reports.specs.Answers.{IsOver}
use Rattle.session_meaning.specs.Sessions.{start_of}
use Rattle.script_reports.specs.Summaries.{IsSummedUp}

-- the answer that sums up the run of a script in a circuit, from the start
abbrev pub IsSummary : List ℕ → CircuitData → Answer → Type 0
IsSummary script circuit answer =
    IsSummedUp (nodes circuit.graph) (count_by is_some circuit.graph.places) (cut_line script) (start_of circuit) (lines_in script) answer

-- the answer of a request to sum up a sample: that of its script in the circuit of its netlist, or the refusal of its netlist
abbrev pub IsSampleSummary : Sample → Answer → Type 0
IsSampleSummary sample answer = IsOver (IsSummary (text_of part.Script sample)) (netlist_of (text_of part.Net sample)) answer
