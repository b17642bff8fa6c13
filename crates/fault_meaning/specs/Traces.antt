-- What a run of a script shows under a fault: the fault's commands have their effects, and then the script runs as a stuck node changes it.
use Rattle.std.specs.Prelude.{◌≡◌, ℕ, List, [], ◌∷◌, map, Option, Some, None}
use Rattle.std.specs.Option.{option_map}
use Rattle.ternary.specs.declared.tern.Tern.{Tern}
use Rattle.line_words.specs.Files.{cut_line, lines_in}
use Rattle.netlist.specs.Circuits.{CircuitData, called}
use Rattle.group_text.specs.Texts.{GroupTextData}
use Rattle.script_lang.specs.declared.command.Command.{Command}
use Rattle.session_meaning.specs.Sessions.{SessionData, start_of}
use Rattle.session_meaning.specs.Outcomes.{Does}
use Rattle.script_meaning.specs.Runs.{Outcome, Runs}
use Rattle.told_lines.specs.Noting.{rows_of, states_of}
use Rattle.fault_sim.specs.declared.fault.Fault.{Fault}
use Rattle.fault_sim.specs.Traces.{Trace}
use Rattle.fault_sim.specs.Changes.{commands_of, stuck_by}
use Rattle.fault_sim.specs.Masks.{masked_reading}

-- the data at the start in a circuit, with texts of groups whose analyses are kept from earlier runs
abbrev pub start_with : CircuitData → List GroupTextData → SessionData
start_with circuit kept = record (start_of circuit) { kept = kept }

-- the commands that stand before the script: those of the fault, if there is one
abbrev pub commands_under : CircuitData → Option Fault → List Command
commands_under circuit None = []
commands_under circuit (Some fault) = commands_of circuit fault

-- the node that is stuck, and its state, if one is
abbrev pub stuck_under : Option Fault → Option (ℕ × Tern)
stuck_under None = None
stuck_under (Some fault) = stuck_by fault

-- commands have their effects one after the other, and tell nothing
abbrev pub AreDone : SessionData → List Command → SessionData → Type 0
AreDone old [] new = new ≡ old
AreDone old (command ∷ commands) new = (mid : SessionData) × Does old command mid [] × AreDone mid commands new

-- a script runs under a fault or without one, from the start in a circuit with kept texts: first the fault's commands have their effects,
-- then the lines of the script run, each as it reads while the fault's node is stuck
pub record RunsUnder (circuit : CircuitData) (script : List ℕ) (kept : List GroupTextData) (fault : Option Fault) (outcome : Outcome) : Type 0 where
  pub start : SessionData
  pub begins : AreDone (start_with circuit kept) (commands_under circuit fault) start
  pub runs : Runs (masked_reading (stuck_under fault)) (cut_line script) start (lines_in script) outcome

-- what an outcome shows: the rows of its waveform lines, the first names of the watched nodes at its end, and the line that was refused
pub record Shows (outcome : Outcome) (trace : Trace) : Type 0 where
  pub rows : trace.rows ≡ states_of (rows_of outcome.lines)
  pub names : trace.names ≡ map (called outcome.end.circuit) outcome.end.watched
  pub refused : trace.refused ≡ option_map (λ stopped. stopped.line) outcome.refused

-- the trace of a run under a fault or without one, with the texts that were analysed for it and those that are kept after it
pub record IsTrace (circuit : CircuitData) (script : List ℕ) (kept : List GroupTextData) (fault : Option Fault) (trace : Trace)
    (texts after : List GroupTextData) : Type 0 where
  pub outcome : Outcome
  pub runs : RunsUnder circuit script kept fault outcome
  pub shows : Shows outcome trace
  pub analysed : texts ≡ outcome.texts
  pub left : after ≡ outcome.end.kept
