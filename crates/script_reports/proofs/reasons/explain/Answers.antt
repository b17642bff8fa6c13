-- What was told of where the lines ended is told of the answer.
use Rattle.std.proofs.Common.{refl, subst}
use Rattle.std.proofs.lemmas.Result.{err_from_is_err_and}
use Rattle.line_words.specs.Files as file
use Rattle.session_meaning.specs.Sessions.{SessionData}
use Rattle.script_meaning.specs.Runs.{plain_reading}
use Rattle.script_meaning.specs.Halts.{HaltsAt}
use Rattle.script_meaning.proofs.LowerLemmas.{ready-start}
use Rattle.script_reports.specs.Explaining.{hear_nothing}
use Rattle.script_reports.proofs.HaltedLemmas.{halted_size}
use Rattle.script_reports.proofs.ReasonedLemmas.{told_halt}
use Rattle.script_reports.proofs.UnfailingLemmas.{memory_unread}
use Rattle.script_reports.proofs.reasons.explain.Goals as goal

pub run_unwritten-requires-clause-ready : goal.run_unwritten-requires-clause-ready
run_unwritten-requires-clause-ready g c = rw c.in_ok-session.ensures.core (ready-start c.args.circuit c.requires)

pub explain_at-requires : goal.explain_at-requires
explain_at-requires g c =
    let new = c.run_unwritten.new.session.core in
    let asked = g.A.Analyst.analysed c.args.analyst.now in
    let told = g.A.Analyst.analysed c.run_unwritten.new.analyst in
    let halt = c.in_ok-halt.halt in
    halted_size c.args.text.now c.args.circuit new asked told halt
    (subst (λ (start : SessionData). HaltsAt hear_nothing plain_reading (file.cut_line c.args.text.now) start (file.lines_in c.args.text.now) new tt tt asked told halt)
    c.in_ok-session.ensures.core c.in_ok-halt.ensures.halts)

pub returns-clause-told : goal.returns-clause-told
returns-clause-told g c =
    let new = c.run_unwritten.new.session.core in
    let asked = g.A.Analyst.analysed c.args.analyst.now in
    let told = g.A.Analyst.analysed c.run_unwritten.new.analyst in
    let halt = c.in_ok-halt.halt in
    told_halt c.args.text.now c.args.name.now c.args.circuit new c.args.out.now.page.written c.explain_at.new.out.page.written asked told halt
    c.explain_at.result
    (subst (λ (start : SessionData). HaltsAt hear_nothing plain_reading (file.cut_line c.args.text.now) start (file.lines_in c.args.text.now) new tt tt asked told halt)
    c.in_ok-session.ensures.core c.in_ok-halt.ensures.halts)
    c.explain_at.ensures.told

-- a run that ends before a node is explained ended for lack of memory
pub returns-in_err-halt-clause-no_read : goal.returns-in_err-halt-clause-no_read
returns-in_err-halt-clause-no_read g c =
    let p = err_from_is_err_and c.from_residual-in_err-halt.result c.from_residual-in_err-halt.ensures.1 in
    rw (p.1, p.2, c.in_err-halt.ensures.memory) memory_unread

pub returns-in_err-halt-clause-write : goal.returns-in_err-halt-clause-write
returns-in_err-halt-clause-write g c =
    let p = err_from_is_err_and c.from_residual-in_err-halt.result c.from_residual-in_err-halt.ensures.1 in
    rw (p.1, p.2, c.in_err-halt.ensures.memory) refl
