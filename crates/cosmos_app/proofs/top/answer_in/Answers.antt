-- What was told of the case of the question is told of the question; what is told of the circuit alone starts and reads no further file.
use Rattle.std.proofs.Common.{◌+◌, refl}
use Rattle.ports.proofs.ResultLemmas.{at_known, at_ok}
use Rattle.ports.proofs.TakenLemmas.{files_none}
use Rattle.line_words.specs.declared.files.TheConstants.{MOST_FILE_BYTES}
use Rattle.run_ends.proofs.EndLemmas.{read_none, untouched_none}
use Rattle.cosmos_app.proofs.AskedLemmas.{told_question, starts_question, whole_question, starts_reported, scripts_reported}
use Rattle.cosmos_app.proofs.PurposeLemmas.{told_asked, starts_asked, scripts_asked}
use Rattle.circuit_files.proofs.WholeLemmas.{whole_none}
use Rattle.cosmos_app.proofs.top.answer_in.Goals as goal

pub returns-in-Run-clause-told : goal.returns-in-Run-clause-told
returns-in-Run-clause-told g c =
    told_question c.args.question _ c.in-Run.is (g.F.Files.holds c.args.files.now) c.args.circuit c.args.out.now.page.written
    c.run_script.new.out.page.written
    (g.A.Analyst.analysed c.args.analyst.now) (g.A.Analyst.analysed c.run_script.new.analyst) c.run_script.result
    (told_asked (g.F.Files.holds c.args.files.now) c.in-Run.script.now c.in-Run.purpose c.args.circuit c.args.out.now.page.written
    c.run_script.new.out.page.written
    (g.A.Analyst.analysed c.args.analyst.now) (g.A.Analyst.analysed c.run_script.new.analyst) c.run_script.result c.run_script.ensures.told)

pub returns-in-Run-clause-started : goal.returns-in-Run-clause-started
returns-in-Run-clause-started g c =
    starts_question c.args.question _ c.in-Run.is (g.F.Files.started c.args.files.now) (g.F.Files.started c.run_script.new.files)
    (starts_asked c.in-Run.script.now c.in-Run.purpose (g.F.Files.started c.args.files.now) (g.F.Files.started c.run_script.new.files)
    c.run_script.ensures.started)

pub returns-in-Run-clause-whole : goal.returns-in-Run-clause-whole
returns-in-Run-clause-whole g c =
    whole_question c.args.question _ c.in-Run.is (g.F.Files.holds c.args.files.now) _ (g.F.Files.taken c.args.files.now)
    (g.F.Files.taken c.run_script.new.files)
    c.run_script.result (scripts_asked c.in-Run.script.now c.in-Run.purpose) c.run_script.ensures.whole

pub returns-in-Judge-clause-told : goal.returns-in-Judge-clause-told
returns-in-Judge-clause-told g c =
    told_question c.args.question _ c.in-Judge.is (g.F.Files.holds c.args.files.now) c.args.circuit c.args.out.now.page.written
    c.judge_list.new.out.page.written
    (g.A.Analyst.analysed c.args.analyst.now) (g.A.Analyst.analysed c.judge_list.new.analyst) c.judge_list.result
    c.judge_list.ensures.told

pub returns-in-Judge-clause-started : goal.returns-in-Judge-clause-started
returns-in-Judge-clause-started g c =
    starts_question c.args.question _ c.in-Judge.is (g.F.Files.started c.args.files.now) (g.F.Files.started c.judge_list.new.files)
    c.judge_list.ensures.started

pub returns-in-Judge-clause-whole : goal.returns-in-Judge-clause-whole
returns-in-Judge-clause-whole g c =
    whole_question c.args.question _ c.in-Judge.is (g.F.Files.holds c.args.files.now) _ (g.F.Files.taken c.args.files.now)
    (g.F.Files.taken c.judge_list.new.files)
    c.judge_list.result refl c.judge_list.ensures.whole

pub returns-in-Report-clause-told : goal.returns-in-Report-clause-told
returns-in-Report-clause-told g c =
    told_question c.args.question _ c.in-Report.is (g.F.Files.holds c.args.files.now) c.args.circuit c.args.out.now.page.written
    c.report_on.new.out.page.written
    (g.A.Analyst.analysed c.args.analyst.now) (g.A.Analyst.analysed c.report_on.new.analyst) c.report_on.result
    (at_known (g.F.Files.holds c.args.files.now) _ c.report_on.ensures.told)

pub returns-in-Report-clause-started : goal.returns-in-Report-clause-started
returns-in-Report-clause-started g c =
    starts_question c.args.question _ c.in-Report.is (g.F.Files.started c.args.files.now) (g.F.Files.started c.args.files.now)
    (starts_reported c.in-Report.report (g.F.Files.started c.args.files.now))

pub returns-in-Report-clause-whole : goal.returns-in-Report-clause-whole
returns-in-Report-clause-whole g c =
    whole_question c.args.question _ c.in-Report.is (g.F.Files.holds c.args.files.now) _ (g.F.Files.taken c.args.files.now)
    (g.F.Files.taken c.args.files.now)
    c.report_on.result (scripts_reported c.in-Report.report)
    (at_ok c.report_on.result (at_known (g.F.Files.holds c.args.files.now) _ (λ holds. whole_none (g.F.Files.taken c.args.files.now))))

pub returns-in-Report-clause-taken : goal.returns-in-Report-clause-taken
returns-in-Report-clause-taken g c = files_none (g.F.Files.taken c.args.files.now) (MOST_FILE_BYTES + 1)

pub returns-in-Report-clause-read : goal.returns-in-Report-clause-read
returns-in-Report-clause-read g c = read_none (g.F.Files.faults c.args.files.now) c.report_on.result c.report_on.ensures.no_read

pub returns-in-Report-clause-untouched : goal.returns-in-Report-clause-untouched
returns-in-Report-clause-untouched g c = untouched_none c.args.out.now c.report_on.new.out c.report_on.result c.report_on.ensures.no_read
