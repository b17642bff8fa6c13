-- What was told of the case is told of what is asked.
use Rattle.std.proofs.Common.{◌≡◌, ℕ, List, [], Option, Result, sym, ap, subst}
use Rattle.netlist.specs.Circuits.{CircuitData}
use Rattle.group_text.specs.Texts.{GroupTextData}
use Rattle.run_ends.specs.declared.stop.End as end
use Rattle.run_ends.specs.declared.stop.Stop.{Stop}
use Rattle.run_ends.specs.Answers.{Answer}
use Rattle.run_ends.specs.Ends.{IsTold, IsToldBy}
use Rattle.run_ends.proofs.EndLemmas.{told_by_none}
use Rattle.command_line.specs.declared.request.Report.{Report}
use Rattle.command_line.specs.Requests.{report_seen}
use Rattle.cosmos_app.specs.Answers.{IsAnswerIn}
use Rattle.circuit_reports.specs.Answers.{IsCheck, IsGroups, IsLinted}
use Rattle.cosmos_app.proofs.reports.report_on.Goals as goal

told_for : {report other : Report} → report ≡ other → (holds : List ℕ → List ℕ) (circuit : CircuitData) (old new : Option (List ℕ))
    (before after : List GroupTextData) (result : Result end.End Stop) → IsToldBy (IsAnswerIn (report_seen other) holds circuit) old new before after result →
    IsToldBy (IsAnswerIn (report_seen report) holds circuit) old new before after result
told_for is holds circuit old new before after result told =
    subst (λ (asked : Report). IsToldBy (IsAnswerIn (report_seen asked) holds circuit) old new before after result) (sym is) told

-- the same where no texts are analysed
told_alone : {report other : Report} → report ≡ other → (IsRight : Answer → Type 0) (holds : List ℕ → List ℕ) (circuit : CircuitData)
    (old new : Option (List ℕ)) (before : List GroupTextData) (result : Result end.End Stop) →
    ((answer : Answer) → IsRight answer → IsAnswerIn (report_seen other) holds circuit answer × (answer.texts ≡ [])) → IsTold IsRight old new result →
    IsToldBy (IsAnswerIn (report_seen report) holds circuit) old new before before result
told_alone {report} {other} is IsRight holds circuit old new before result means told =
    told_for is holds circuit old new before before result
    (told_by_none IsRight (IsAnswerIn (report_seen other) holds circuit) old new before result means told)

pub returns-in-Check-clause-told : goal.returns-in-Check-clause-told
returns-in-Check-clause-told g c = λ holds.
    told_alone c.in-Check.is (IsCheck c.args.circuit.now) holds c.args.circuit.now (g.S.Sink.written c.args.out.now) (g.S.Sink.written c.report_check.new.out)
    (g.A.Analyst.analysed c.args.analyst.now) c.report_check.result (λ answer is. (is, ap (λ (told : Answer). told.texts) is)) c.report_check.ensures.told

pub returns-in-Groups-clause-told : goal.returns-in-Groups-clause-told
returns-in-Groups-clause-told g c = λ holds.
    told_alone c.in-Groups.is (IsGroups c.args.circuit.now) holds c.args.circuit.now (g.S.Sink.written c.args.out.now) (g.S.Sink.written c.list_groups.new.out)
    (g.A.Analyst.analysed c.args.analyst.now) c.list_groups.result (λ answer is. (is, ap (λ (told : Answer). told.texts) is.2)) c.list_groups.ensures.told

pub returns-in-Compile-clause-told : goal.returns-in-Compile-clause-told
returns-in-Compile-clause-told g c = λ holds.
    told_for c.in-Compile.is holds c.args.circuit.now (g.S.Sink.written c.args.out.now) (g.S.Sink.written c.write_listing.new.out)
    (g.A.Analyst.analysed c.args.analyst.now) (g.A.Analyst.analysed c.write_listing.new.analyst) c.write_listing.result c.write_listing.ensures.told

pub returns-in-Lint-clause-told : goal.returns-in-Lint-clause-told
returns-in-Lint-clause-told g c = λ holds.
    told_alone c.in-Lint.is (IsLinted c.args.circuit.now) holds c.args.circuit.now (g.S.Sink.written c.args.out.now) (g.S.Sink.written c.list_findings.new.out)
    (g.A.Analyst.analysed c.args.analyst.now) c.list_findings.result (λ answer is. (is, ap (λ (told : Answer). told.texts) is.2)) c.list_findings.ensures.told
