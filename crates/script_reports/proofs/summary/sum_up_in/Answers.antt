-- The script's lines are summed up from the start in the circuit.
use Rattle.std.proofs.Common.{List, ℕ, count_by, is_some, sym, subst, ◌∙◌, refl}
use Rattle.switch_paths.specs.Graphs.{nodes}
use Rattle.net_gen.specs.declared.families.GenPart.TheVariants.{Script}
use Rattle.session_meaning.specs.Sessions.{SessionData}
use Rattle.printed_lines.specs.declared.lines.Summary.{Summary}
use Rattle.line_words.specs.Files as file
use Rattle.command_line.specs.Samples.{sample_seen, text_of}
use Rattle.script_meaning.proofs.LowerLemmas.{ready-start}
use Rattle.script_reports.specs.Summaries.{IsBlank, IsSummedUp}
use Rattle.run_ends.specs.Ends.{IsToldBy}
use Rattle.script_reports.proofs.summary.sum_up_in.Goals as goal

pub sum_up_lines-requires-clause-blank : goal.sum_up_lines-requires-clause-blank
sum_up_lines-requires-clause-blank g c = subst IsBlank (sym c.summary_at_start-summary.ensures) refl

pub sum_up_lines-requires-clause-ready : goal.sum_up_lines-requires-clause-ready
sum_up_lines-requires-clause-ready g c = rw c.in_ok-session.ensures.core (ready-start c.args.circuit c.requires)

pub returns-clause-told : goal.returns-clause-told
returns-clause-told g c =
    let before = g.S.Sink.written c.args.out.now in
    let after = g.S.Sink.written c.sum_up_lines.new.out in
    let asked = g.A.Analyst.analysed c.args.analyst.now in
    let told = g.A.Analyst.analysed c.sum_up_lines.new.analyst in
    let result = c.sum_up_lines.result in
    let start = c.in_ok-session.session.core in
    let bytes = c.deref.result.now in
    let script = text_of Script (sample_seen c.args.sample) in
    let size = nodes c.args.circuit.graph in
    let switches = count_by is_some c.args.circuit.graph.places in
    subst (λ (session : SessionData). IsToldBy (IsSummedUp size switches (file.cut_line script) session (file.lines_in script)) before after asked told result) c.in_ok-session.ensures.core
    (subst (λ (text : List ℕ). IsToldBy (IsSummedUp size switches (file.cut_line text) start (file.lines_in text)) before after asked told result)
    (c.deref.ensures.value ∙ c.in_ok-text.ensures)
    (subst (λ (counts : Summary). IsToldBy (IsSummedUp counts.nodes counts.switches (file.cut_line bytes) start (file.lines_in bytes)) before after asked told result)
    c.summary_at_start-summary.ensures c.sum_up_lines.ensures.told))
