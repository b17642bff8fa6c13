-- What the second run comes to, and the comparison, behind a first run.
use Rattle.std.proofs.Common.{◌≡◌, ◌∙◌, ℕ, List, Option, Result, Ok, ap, subst, sym}
use Rattle.line_words.specs.Files as file
use Rattle.run_ends.specs.declared.stop.End as end
use Rattle.symbol_comparing.specs.Told.{AreValuationsOf}
use Rattle.symbol_equiv.specs.declared.fault.EqualFault.{EqualFault}
use Rattle.symbol_equiv.specs.declared.runs.Ran.{Ran}
use Rattle.symbol_equiv.specs.Ends.{faults_equal, second_net, IsEqualBy, RefusedEqual, RunsAs}
use Rattle.symbol_equiv.proofs.AnswerLemmas.{equal_by, notes_fit, second_fault, second_written, v_of}
use Rattle.symbol_equiv.proofs.FaultLemmas.{counts_alike, refused_alike}
use Rattle.symbol_equiv.proofs.comparison.run_second.Goals as goal

pub run_noted-requires-clause-valued : goal.run_noted-requires-clause-valued
run_noted-requires-clause-valued g c =
    let (one, before, alike, run) = c.requires.run in subst (AreValuationsOf c.args.symbols) (sym c.requires.second) run.valued

pub run_noted-requires-clause-kept : goal.run_noted-requires-clause-kept
run_noted-requires-clause-kept g c = let (one, before, alike, run) = c.requires.run in run.whole

pub compare_runs-requires : goal.compare_runs-requires
compare_runs-requires g c =
    let told = subst (λ (ran : Result Ran EqualFault). RunsAs second_net (file.cut_line c.args.text.now) (g.T.SessionStart.starts c.args.second)
    (file.lines_in c.args.text.now) c.args.symbols c.args.first c.run_noted.new.kept (g.S.Sink.written c.args.sink)
    (g.S.Sink.written c.run_noted.new.out) (g.A.Analyst.analysed c.args.analyst.now) (g.A.Analyst.analysed c.run_noted.new.analyst) ran) (c.in-Ok-Noted.is ∙ ap (λ (own : Ran). Ok own) c.in-Ok-Noted.field-0-is)
    c.run_noted.ensures.told in
    let (one, before, alike, run) = c.requires.run in
    notes_fit (file.cut_line c.args.text.now) one (g.T.SessionStart.starts c.args.second) (file.lines_in c.args.text.now) c.args.symbols c.args.first before
    (g.A.Analyst.analysed c.args.analyst.now) run c.in-Ok-Noted.symbols c.run_noted.new.kept c.in-Ok-Noted.notes
    (g.A.Analyst.analysed c.run_noted.new.analyst) told.0 told.1 alike

pub returns-in-Ok-Noted-clause-told : goal.returns-in-Ok-Noted-clause-told
returns-in-Ok-Noted-clause-told g c = λ one before alike run.
    let cut = file.cut_line c.args.text.now in
    let lines = file.lines_in c.args.text.now in
    let known = g.A.Analyst.analysed c.run_noted.new.analyst in
    let told = subst (λ (ran : Result Ran EqualFault). RunsAs second_net cut (g.T.SessionStart.starts c.args.second) lines c.args.symbols c.args.first
    c.run_noted.new.kept (g.S.Sink.written c.args.sink) (g.S.Sink.written c.run_noted.new.out) (g.A.Analyst.analysed c.args.analyst.now) known ran)
    (c.in-Ok-Noted.is ∙ ap (λ (own : Ran). Ok own) c.in-Ok-Noted.field-0-is) c.run_noted.ensures.told in
    subst (λ (written : Option (List ℕ)). IsEqualBy cut one (g.T.SessionStart.starts c.args.second) lines written (g.S.Sink.written c.compare_runs.result.0)
    before known c.compare_runs.result.1) told.2
    (equal_by cut one (g.T.SessionStart.starts c.args.second) lines c.args.symbols c.args.first before (g.A.Analyst.analysed c.args.analyst.now) run
    c.in-Ok-Noted.symbols c.run_noted.new.kept c.in-Ok-Noted.notes known told.0 told.1 c.args.variables.now (g.S.Sink.written c.run_noted.new.out)
    (g.S.Sink.written c.compare_runs.result.0) c.compare_runs.result.1 c.requires.variables
    (c.compare_runs.ensures.told (v_of cut lines) told.0.valued))

pub returns-in-Ok-Refused-clause-told : goal.returns-in-Ok-Refused-clause-told
returns-in-Ok-Refused-clause-told g c = λ one before alike run.
    let told = subst (λ (ran : Result Ran EqualFault). RunsAs second_net (file.cut_line c.args.text.now) (g.T.SessionStart.starts c.args.second)
    (file.lines_in c.args.text.now) c.args.symbols c.args.first c.run_noted.new.kept (g.S.Sink.written c.args.sink)
    (g.S.Sink.written c.run_noted.new.out) (g.A.Analyst.analysed c.args.analyst.now) (g.A.Analyst.analysed c.run_noted.new.analyst) ran) (c.in-Ok-Refused.is ∙ ap (λ (own : Ran). Ok own) c.in-Ok-Refused.field-0-is)
    c.run_noted.ensures.told in
    second_written (file.cut_line c.args.text.now) one (g.T.SessionStart.starts c.args.second) (file.lines_in c.args.text.now) c.args.symbols c.args.first before
    (g.A.Analyst.analysed c.args.analyst.now) run (g.S.Sink.written c.args.sink) (g.S.Sink.written c.run_noted.new.out)
    (g.A.Analyst.analysed c.run_noted.new.analyst) c.in-Ok-Refused.end told.0 told.1

pub returns-clause-told : goal.returns-clause-told
returns-clause-told g c = λ one before alike run.
    let told = subst (λ (ran : Result Ran EqualFault). RunsAs second_net (file.cut_line c.args.text.now) (g.T.SessionStart.starts c.args.second)
    (file.lines_in c.args.text.now) c.args.symbols c.args.first c.run_noted.new.kept (g.S.Sink.written c.args.sink)
    (g.S.Sink.written c.run_noted.new.out) (g.A.Analyst.analysed c.args.analyst.now) (g.A.Analyst.analysed c.run_noted.new.analyst) ran) c.in-Err.is
    c.run_noted.ensures.told in
    second_fault (file.cut_line c.args.text.now) one (g.T.SessionStart.starts c.args.second) (file.lines_in c.args.text.now) c.args.symbols c.args.first before
    (g.A.Analyst.analysed c.args.analyst.now) run c.args.symbols c.args.first c.run_noted.new.kept (g.S.Sink.written c.args.sink)
    (g.S.Sink.written c.run_noted.new.out) (g.A.Analyst.analysed c.run_noted.new.analyst) (g.A.Analyst.analysed c.run_noted.new.analyst) c.in-Err.fault told

pub returns-clause-write : goal.returns-clause-write
returns-clause-write g c =
    counts_alike Ran end.End (g.S.Sink.faults c.args.sink) (g.S.Sink.faults c.run_noted.new.out) c.in-Err.fault
    (subst (λ (ran : Result Ran EqualFault). g.S.Sink.faults c.run_noted.new.out ≡ faults_equal (g.S.Sink.faults c.args.sink) ran) c.in-Err.is
    c.run_noted.ensures.write)

pub returns-clause-refused : goal.returns-clause-refused
returns-clause-refused g c =
    refused_alike Ran end.End (g.S.Sink.refusals c.args.sink) (g.S.Sink.refusals c.run_noted.new.out) c.in-Err.fault
    (subst (λ (ran : Result Ran EqualFault). RefusedEqual (g.S.Sink.refusals c.args.sink) (g.S.Sink.refusals c.run_noted.new.out) ran) c.in-Err.is
    c.run_noted.ensures.refused)
