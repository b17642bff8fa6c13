-- What a run comes to: the rows that were noted of it are its own; and each fault has a run, with a trace and a verdict.
use Rattle.std.proofs.Common.{◌≡◌, ℕ, List, [], ◌∷◌, ◌++◌, map, All, Option, None, Some, IfSome, refl, sym, ap, ◌∙◌}
use Rattle.std.specs.Option.{option_map}
use Rattle.std.proofs.lemmas.List.Elements.{All-head, All-tail}
use Rattle.line_words.specs.Files.{cut_line, lines_in}
use Rattle.netlist.specs.Circuits.{CircuitData, IsCircuit, called}
use Rattle.group_text.specs.Texts.{GroupTextData}
use Rattle.session_meaning.specs.Sessions.{SessionData}
use Rattle.told_lines.specs.Noting.{WaveRowData, note, rows_of, states_of}
use Rattle.told_lines.proofs.NotingLemmas.{rows_noted}
use Rattle.fault_sim.specs.declared.fault.Fault.{Fault}
use Rattle.fault_sim.specs.Traces.{Trace}
use Rattle.fault_sim.specs.Faults.{IsFault}
use Rattle.fault_sim.specs.Masks.{masked_reading}
use Rattle.script_meaning.specs.declared.halt.Halt.{Halt}
use Rattle.script_meaning.specs.declared.halt.Halt.TheVariants.{End, Refused, TooLarge}
use Rattle.run_ends.specs.Causes.{plain_cause}
use Rattle.script_meaning.specs.Runs.{RefusedLine, Outcome}
use Rattle.script_meaning.specs.Halts.{HasObeyed, HaltsAt}
use Rattle.script_meaning.proofs.RunLemmas.{outcome_exists}
use Rattle.run_ends.proofs.SizeLemmas.{size_caused}
use Rattle.fault_meaning.specs.declared.listed.ListedFault.{ListedFault}
use Rattle.fault_meaning.specs.Traces.{start_with, commands_under, stuck_under, AreDone, RunsUnder, Shows}
use Rattle.fault_meaning.specs.Judging.{LineVerdict, AreJudged, no_fault, one_more}
use Rattle.fault_meaning.specs.Runnings.{TellsTrace, line_of, HasRun, RunsTo, IsTraced}
use Rattle.fault_meaning.proofs.ReadingLemmas.{masked-sound}
use Rattle.fault_meaning.proofs.BeginLemmas.{has_start}
use Rattle.fault_meaning.proofs.VerdictLemmas.{verdict_exists}

-- ---- a run

module _ (c : CircuitData) (script : List ℕ) (kept : List GroupTextData) (fault : Option Fault) (mid new : SessionData) (noted : List WaveRowData)
    (asked told : List GroupTextData) (trace : Trace) (halt : Halt) (begins : AreDone (start_with c kept) (commands_under c fault) mid)
    (tells : TellsTrace new halt noted trace) where
  -- to its end, or to a line that is refused
  ran_to : (last : Option RefusedLine) → option_map (λ stopped. stopped.line) last ≡ line_of halt →
      HasObeyed note (masked_reading (stuck_under fault)) (cut_line script) mid (lines_in script) new [] noted asked told last →
      HasRun c script kept fault new asked told trace last
  ran_to last same obeyed = record {
    outcome = obeyed.outcome;
    runs = record { start = mid; begins = begins; runs = obeyed.runs };
    reached = obeyed.reached;
    stopped = obeyed.stopped;
    shows = record {
      rows = tells.rows ∙ ap states_of (obeyed.heard ∙ rows_noted 0 [] obeyed.outcome.lines);
      names = tells.names ∙ ap (λ (end : SessionData). map (called end.circuit) end.watched) (sym obeyed.reached);
      refused = tells.refused ∙ sym same ∙ ap (option_map (λ (stopped : RefusedLine). stopped.line)) (sym obeyed.stopped);
    };
    analysed = obeyed.analysed;
  }

-- what obeying the script comes to is what the run comes to
pub runs_to : (c : CircuitData) (script : List ℕ) (kept : List GroupTextData) (fault : Option Fault) (mid new : SessionData) (noted : List WaveRowData)
    (asked told : List GroupTextData) (trace : Trace) (halt : Halt) → AreDone (start_with c kept) (commands_under c fault) mid →
    TellsTrace new halt noted trace →
    HaltsAt note (masked_reading (stuck_under fault)) (cut_line script) mid (lines_in script) new [] noted asked told halt →
    RunsTo c script kept fault new asked told trace halt
runs_to c script kept fault mid new noted asked told trace End begins tells obeyed =
    ran_to c script kept fault mid new noted asked told trace End begins tells None refl obeyed
runs_to c script kept fault mid new noted asked told trace (Refused number code) begins tells obeyed =
    ran_to c script kept fault mid new noted asked told trace (Refused number code) begins tells
    (Some (record { line = number; cause = plain_cause code })) refl obeyed
runs_to c script kept fault mid new noted asked told trace (TooLarge number size) begins tells outgrown = record {
  first = outgrown.first;
  halted = λ other cause first named.
      ran_to c script kept fault mid new noted asked told trace (TooLarge number size) begins tells
      (Some (record { line = number; cause = cause })) refl (outgrown.halted other cause first named);
}

-- the trace of a run
has_traced : (c : CircuitData) (script : List ℕ) (kept : List GroupTextData) (fault : Option Fault) (new : SessionData) (asked told : List GroupTextData) (trace : Trace) (last : Option RefusedLine) →
    HasRun c script kept fault new asked told trace last → IsTraced c script kept fault new asked told trace
has_traced c script kept fault new asked told trace last ran = record {
  texts = ran.outcome.texts;
  is = record {
    outcome = ran.outcome;
    runs = ran.runs;
    shows = ran.shows;
    analysed = refl;
    left = ap (λ (end : SessionData). end.kept) (sym ran.reached);
  };
  analysed = ran.analysed;
}

-- however the run ended, it has its trace
pub traced : (c : CircuitData) (script : List ℕ) (kept : List GroupTextData) (fault : Option Fault) (new : SessionData) (asked told : List GroupTextData) (trace : Trace) (halt : Halt) →
    RunsTo c script kept fault new asked told trace halt → IsTraced c script kept fault new asked told trace
traced c script kept fault new asked told trace End ran = has_traced c script kept fault new asked told trace None ran
traced c script kept fault new asked told trace (Refused number code) ran =
    has_traced c script kept fault new asked told trace (Some (record { line = number; cause = plain_cause code })) ran
traced c script kept fault new asked told trace (TooLarge number size) outgrown =
    let caused = size_caused new.large new.circuit size outgrown.first in
    has_traced c script kept fault new asked told trace (Some (record { line = number; cause = caused.0 }))
    (outgrown.halted size caused.0 outgrown.first caused.1)

-- ---- each fault has a run

-- what an outcome shows
pub trace_of : Outcome → Trace
trace_of outcome = record {
  rows = states_of (rows_of outcome.lines);
  names = map (called outcome.end.circuit) outcome.end.watched;
  refused = option_map (λ stopped. stopped.line) outcome.refused;
}

pub shows_so : (outcome : Outcome) → Shows outcome (trace_of outcome)
unfolding trace_of
shows_so outcome = record { rows = refl; names = refl; refused = refl }

-- something comes of a run
pub run_exists : (c : CircuitData) (script : List ℕ) (kept : List GroupTextData) (fault : Option Fault) → IsCircuit c → IfSome fault (IsFault c) →
    (outcome : Outcome) × RunsUnder c script kept fault outcome
run_exists c script kept fault is faulty =
    let has = has_start c kept fault is faulty in
    let found = outcome_exists (masked_reading (stuck_under fault)) (masked-sound (stuck_under fault)) (cut_line script) (lines_in script) has.start has.ready in
    (found.0, record { start = has.start; begins = has.begins; runs = found.1 })

-- and each fault of a list is judged
pub judged_exists : (c : CircuitData) (script : List ℕ) (good : Trace) (faults : List ListedFault) (kept : List GroupTextData) → IsCircuit c →
    All (λ listed. IsFault c listed.fault) faults →
    (judged : List LineVerdict) × (texts : List GroupTextData) × AreJudged c script good kept faults judged texts
judged_exists c script good [] kept is faulty = ([], [], no_fault kept)
judged_exists c script good (listed ∷ faults) kept is faulty =
    let found = run_exists c script kept (Some listed.fault) is (All-head (λ (one : ListedFault). IsFault c one.fault) listed faults faulty) in
    let outcome = found.0 in
    let bad = trace_of outcome in
    let told = verdict_exists good bad in
    let rest = judged_exists c script good faults outcome.end.kept is (All-tail (λ (one : ListedFault). IsFault c one.fault) listed faults faulty) in (
      record { line = listed.line; verdict = told.0 } ∷ rest.0,
      outcome.texts ++ rest.1,
      one_more kept outcome.end.kept listed faults bad told.0 rest.0 outcome.texts rest.1
          (record { outcome = outcome; runs = found.1; shows = shows_so outcome; analysed = refl; left = refl }) told.1 rest.2,
    )
