-- What both runs come to is the answer.
use Rattle.std.proofs.Common.{◌≡◌, ◌∙◌, ℕ, List, Option, Result, Ok, ap, subst, sym}
use Rattle.line_words.specs.Files as file
use Rattle.run_ends.specs.declared.stop.End as end
use Rattle.symbol_told.specs.Noting.{NotesData}
use Rattle.symbol_comparing.specs.Told.{AreValuationsOf}
use Rattle.symbol_equiv.specs.declared.fault.EqualFault.{EqualFault}
use Rattle.symbol_equiv.specs.declared.runs.Ran.{Ran}
use Rattle.symbol_equiv.specs.Ends.{faults_equal, first_net, IsEqualBy, RefusedEqual, RunsAs}
use Rattle.symbol_equiv.specs.Notes.{AreNotes}
use Rattle.symbol_equiv.proofs.AnswerLemmas.{first_fault, first_written}
use Rattle.symbol_equiv.proofs.FaultLemmas.{counts_alike, refused_alike}
use Rattle.symbol_equiv.proofs.RunLemmas.{none_noted}
use Rattle.symbol_equiv.proofs.comparison.equiv.Given.{Over}
use Rattle.symbol_equiv.proofs.comparison.equiv.Goals.{After-run_noted}
use Rattle.symbol_equiv.proofs.comparison.equiv.Goals as goal

pub run_noted-requires-clause-valued : goal.run_noted-requires-clause-valued
run_noted-requires-clause-valued g c = subst (AreValuationsOf c.args.symbols) (sym c.requires.first) c.requires.valued

pub run_noted-requires-clause-kept : goal.run_noted-requires-clause-kept
run_noted-requires-clause-kept g c =
    subst (λ (own : NotesData). AreNotes c.args.symbols own) (sym c.new-none.ensures) (none_noted c.args.symbols)

-- what the first run comes to, by what it answers
told_as : (g : Over) (c : After-run_noted g) (ran : Result Ran EqualFault) → c.run_noted.result ≡ ran →
    RunsAs first_net (file.cut_line c.args.text.now) (g.T.SessionStart.starts c.args.first) (file.lines_in c.args.text.now) c.args.symbols c.new-none.result
    c.run_noted.new.kept (g.S.Sink.written c.args.sink) (g.S.Sink.written c.run_noted.new.out) (g.A.Analyst.analysed c.args.analyst.now)
    (g.A.Analyst.analysed c.run_noted.new.analyst) ran
told_as g c ran is =
    subst (RunsAs first_net (file.cut_line c.args.text.now) (g.T.SessionStart.starts c.args.first) (file.lines_in c.args.text.now) c.args.symbols c.new-none.result
    c.run_noted.new.kept (g.S.Sink.written c.args.sink) (g.S.Sink.written c.run_noted.new.out) (g.A.Analyst.analysed c.args.analyst.now)
    (g.A.Analyst.analysed c.run_noted.new.analyst)) is c.run_noted.ensures.told

pub run_second-requires-clause-run : goal.run_second-requires-clause-run
run_second-requires-clause-run g c =
    let told = told_as g (goal.at.run_second-requires-clause-run g c).After-run_noted _ (c.in-Ok-Noted.is ∙ ap (λ (own : Ran). Ok own) c.in-Ok-Noted.field-0-is) in
    (g.T.SessionStart.starts c.args.first, g.A.Analyst.analysed c.args.analyst.now, c.requires.alike, told.0)

pub returns-in-Ok-Noted-clause-told : goal.returns-in-Ok-Noted-clause-told
returns-in-Ok-Noted-clause-told g c =
    let told = told_as g (goal.at.returns-in-Ok-Noted-clause-told g c).After-run_noted _ (c.in-Ok-Noted.is ∙ ap (λ (own : Ran). Ok own) c.in-Ok-Noted.field-0-is) in
    subst (λ (written : Option (List ℕ)). IsEqualBy (file.cut_line c.args.text.now) (g.T.SessionStart.starts c.args.first) (g.T.SessionStart.starts c.args.second)
    (file.lines_in c.args.text.now) written (g.S.Sink.written c.run_second.result.0) (g.A.Analyst.analysed c.args.analyst.now)
    (g.A.Analyst.analysed c.run_second.new.analyst) c.run_second.result.1) told.2
    (c.run_second.ensures.told (g.T.SessionStart.starts c.args.first) (g.A.Analyst.analysed c.args.analyst.now) c.requires.alike told.0)

pub returns-in-Ok-Refused-clause-told : goal.returns-in-Ok-Refused-clause-told
returns-in-Ok-Refused-clause-told g c =
    let told = told_as g (goal.at.returns-in-Ok-Refused-clause-told g c).After-run_noted _ (c.in-Ok-Refused.is ∙ ap (λ (own : Ran). Ok own) c.in-Ok-Refused.field-0-is) in
    first_written (file.cut_line c.args.text.now) (g.T.SessionStart.starts c.args.first) (g.T.SessionStart.starts c.args.second) (file.lines_in c.args.text.now)
    (g.S.Sink.written c.args.sink) (g.S.Sink.written c.run_noted.new.out) (g.A.Analyst.analysed c.args.analyst.now)
    (g.A.Analyst.analysed c.run_noted.new.analyst) c.in-Ok-Refused.end told.0 told.1

pub returns-in-Err-clause-told : goal.returns-in-Err-clause-told
returns-in-Err-clause-told g c =
    let told = told_as g (goal.at.returns-in-Err-clause-told g c).After-run_noted _ c.in-Err.is in
    first_fault (file.cut_line c.args.text.now) (g.T.SessionStart.starts c.args.first) (g.T.SessionStart.starts c.args.second) (file.lines_in c.args.text.now)
    c.args.symbols c.new-none.result c.run_noted.new.kept (g.S.Sink.written c.args.sink) (g.S.Sink.written c.run_noted.new.out)
    (g.A.Analyst.analysed c.args.analyst.now) (g.A.Analyst.analysed c.run_noted.new.analyst) (g.A.Analyst.analysed c.run_noted.new.analyst) c.in-Err.fault told

pub returns-in-Err-clause-write : goal.returns-in-Err-clause-write
returns-in-Err-clause-write g c =
    counts_alike Ran end.End (g.S.Sink.faults c.args.sink) (g.S.Sink.faults c.run_noted.new.out) c.in-Err.fault
    (subst (λ (ran : Result Ran EqualFault). g.S.Sink.faults c.run_noted.new.out ≡ faults_equal (g.S.Sink.faults c.args.sink) ran) c.in-Err.is
    c.run_noted.ensures.write)

pub returns-in-Err-clause-refused : goal.returns-in-Err-clause-refused
returns-in-Err-clause-refused g c =
    refused_alike Ran end.End (g.S.Sink.refusals c.args.sink) (g.S.Sink.refusals c.run_noted.new.out) c.in-Err.fault
    (subst (λ (ran : Result Ran EqualFault). RefusedEqual (g.S.Sink.refusals c.args.sink) (g.S.Sink.refusals c.run_noted.new.out) ran) c.in-Err.is
    c.run_noted.ensures.refused)
