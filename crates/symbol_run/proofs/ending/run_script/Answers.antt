-- What the lines tell and the line of the refusal behind it are a right answer's text, or a front of one.
use Rattle.std.proofs.Common.{◌≡◌, ◌<◌, ℕ, Result, sym, subst}
use Rattle.std.proofs.lemmas.Result.{err_from_is_err_and}
use Rattle.line_words.specs.Files as file
use Rattle.run_ends.specs.declared.stop.End.{End}
use Rattle.run_ends.specs.declared.stop.Stop.{Stop}
use Rattle.run_ends.specs.Stops.{IsRefusedAt}
use Rattle.session_meaning.specs.Sessions.{SessionData}
use Rattle.symbol_meaning.specs.Readings.{Valuations}
use Rattle.symbol_run.specs.Answers.{IsEndedBy}
use Rattle.symbol_run.proofs.AnswerLemmas.{answers_fault, answers_halt, has_column, has_ending}
use Rattle.symbol_run.proofs.ending.run_script.Given.{Over}
use Rattle.symbol_run.proofs.ending.run_script.Goals.{After-end_script}
use Rattle.symbol_run.proofs.ending.run_script.Goals as goal

pub returns-in_err-halt-clause-told : goal.returns-in_err-halt-clause-told
returns-in_err-halt-clause-told g c =
    let cut = file.cut_line c.args.text.now in
    let lines = file.lines_in c.args.text.now in
    let stopped = err_from_is_err_and c.from_residual.result c.from_residual.ensures.1 in
    rw (stopped.1, stopped.2)
    (λ start starts.
    answers_fault cut start lines (g.M.LineSession.sessions c.args.session.now) (g.M.LineSession.sessions c.obey_lines.new.session) c.args.out.now.page
    c.obey_lines.new.out.page c.requires.variables (g.A.Analyst.analysed c.args.analyst.now) (g.A.Analyst.analysed c.obey_lines.new.analyst) _
    (g.M.LineSession.quiet c.args.session.now) (g.M.LineSession.valuations c.args.session.now) c.args.stop c.requires.telling c.requires.valuations
    c.requires.stop starts c.in_err-halt.ensures.told c.in_err-halt.ensures.among)

pub end_script-requires : goal.end_script-requires
end_script-requires g c =
    has_ending (g.M.LineSession.quiet c.args.session.now) (g.M.LineSession.valuations c.args.session.now) _ (g.M.LineSession.sessions c.args.session.now)
    (g.M.LineSession.sessions c.obey_lines.new.session) _ _ _ _ _ c.in_ok-halt.halt c.circuit-circuit.result.now
    (has_column (file.cut_line c.args.text.now) (file.lines_in c.args.text.now) (g.M.LineSession.valuations c.args.session.now) c.requires.valuations)
    (λ column inside. c.circuit-circuit.ensures column
    (subst (λ (own : Valuations). column < own.columns) (sym c.in_ok-halt.ensures.valuations) inside)) c.in_ok-halt.ensures.told

-- what was written is a right answer, or a part of one, by how the script ended
told : (g : Over) (c : After-end_script g) (start : SessionData) →
    ((column : ℕ) → column < (g.M.LineSession.valuations c.args.session.now).columns → g.M.LineSession.sessions c.args.session.now column ≡ start) →
    (ended : Result End Stop) → c.end_script.result ≡ ended →
    IsEndedBy (file.cut_line c.args.text.now) start (file.lines_in c.args.text.now) c.args.out.now.page.written c.end_script.new.out.page.written
    (g.A.Analyst.analysed c.args.analyst.now) (g.A.Analyst.analysed c.obey_lines.new.analyst) ended
told g c start starts ended is =
    let cut = file.cut_line c.args.text.now in
    let lines = file.lines_in c.args.text.now in
    let page = c.args.out.now.page in
    let written = c.end_script.new.out.page.written in
    let asked = g.A.Analyst.analysed c.args.analyst.now in
    let known = g.A.Analyst.analysed c.obey_lines.new.analyst in
    subst (IsEndedBy cut start lines page.written written asked known) is
    (answers_halt cut start lines (g.M.LineSession.sessions c.args.session.now) (g.M.LineSession.sessions c.obey_lines.new.session) page
    c.obey_lines.new.out.page c.requires.variables asked known c.requires.unmissed c.circuit-circuit.result.now c.in_ok-halt.halt written c.end_script.result
    (g.M.LineSession.quiet c.args.session.now) (g.M.LineSession.valuations c.args.session.now) c.args.stop c.requires.telling c.requires.valuations
    c.requires.stop starts (λ column inside. c.circuit-circuit.ensures column
    (subst (λ (own : Valuations). column < own.columns) (sym c.in_ok-halt.ensures.valuations) inside)) c.in_ok-halt.ensures.told c.end_script.ensures.ok
    c.end_script.ensures.part c.end_script.ensures.ends)

pub returns-in-Ok-clause-told : goal.returns-in-Ok-clause-told
returns-in-Ok-clause-told g c = λ start starts. told g (goal.at.returns-in-Ok-clause-told g c).After-end_script start starts _ c.in-Ok.is

pub returns-in-Err-clause-told : goal.returns-in-Err-clause-told
returns-in-Err-clause-told g c = λ start starts. told g (goal.at.returns-in-Err-clause-told g c).After-end_script start starts _ c.in-Err.is

pub returns-in-Err-clause-refused : goal.returns-in-Err-clause-refused
returns-in-Err-clause-refused g c =
    subst (λ (own : ℕ). IsRefusedAt own c.end_script.new.out.refusals c.in-Err.stopped) c.in_ok-halt.ensures.refused c.in-Err.ensures.refused
