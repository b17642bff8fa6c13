-- What was told of where the lines ended is told of the answer: the notes are of the state at the start and of all that the lines show.
use Rattle.std.proofs.Common.{[], Ok, arith, refl, ap, subst, ◌∙◌}
use Rattle.std.proofs.lemmas.Result.{err_from_is_err_and}
use Rattle.line_words.specs.Files as file
use Rattle.state_cover.specs.Cover.{had_after}
use Rattle.session_meaning.specs.Sessions.{SessionData}
use Rattle.script_meaning.specs.Runs.{plain_reading}
use Rattle.script_meaning.specs.Halts.{HaltsAt}
use Rattle.script_meaning.proofs.LowerLemmas.{ready-start}
use Rattle.script_reports.specs.Explaining.{hear_nothing}
use Rattle.script_reports.proofs.HaltedLemmas.{halted_size}
use Rattle.script_reports.proofs.CoveredLemmas.{NotesAll, told_cover}
use Rattle.script_reports.proofs.covering.cover_script.Goals as goal

pub note_all-requires : goal.note_all-requires
note_all-requires g c = rw c.new-cover.ensures (omega arith)

pub run_unwritten-requires-clause-ready : goal.run_unwritten-requires-clause-ready
run_unwritten-requires-clause-ready g c = rw c.in_ok-session.ensures.core (ready-start c.args.circuit c.requires)

pub run_unwritten-requires-clause-knows : goal.run_unwritten-requires-clause-knows
run_unwritten-requires-clause-knows g c = (rw c.state.ensures at c.in_ok-note_all.ensures.knows)

pub cover_at-requires-clause-size : goal.cover_at-requires-clause-size
cover_at-requires-clause-size g c =
    halted_size c.args.text.now c.args.circuit c.run_unwritten.new.session.core _ _ c.in_ok-halt.halt
    (subst (λ (start : SessionData). HaltsAt hear_nothing plain_reading (file.cut_line c.args.text.now) start (file.lines_in c.args.text.now)
    c.run_unwritten.new.session.core tt tt (g.A.Analyst.analysed c.args.analyst.now) (g.A.Analyst.analysed c.run_unwritten.new.analyst) c.in_ok-halt.halt)
    c.in_ok-session.ensures.core c.in_ok-halt.ensures.halts)

pub cover_at-requires-clause-noted : goal.cover_at-requires-clause-noted
cover_at-requires-clause-noted g c = λ ended. (c.in_ok-halt.ensures.knows (ap Ok ended)).count

pub returns-clause-told : goal.returns-clause-told
returns-clause-told g c =
    let new = c.run_unwritten.new.session.core in
    let asked = g.A.Analyst.analysed c.args.analyst.now in
    let told = g.A.Analyst.analysed c.run_unwritten.new.analyst in
    let halt = c.in_ok-halt.halt in
    let start = c.in_ok-session.ensures.core in
    let first = (rw (c.new-cover.ensures, c.state.ensures) at c.in_ok-note_all.ensures.had) ∙ ap (λ (s : SessionData). had_after [] s.state) start in
    told_cover c.args.text.now c.args.circuit new c.args.out.now.page.written c.cover_at.new.out.page.written asked told c.note_all.new.self
    c.run_unwritten.new.onlooker halt c.cover_at.result first
    (λ ended. subst (λ (session : SessionData). NotesAll c.args.text.now session new c.note_all.new.self c.run_unwritten.new.onlooker) start
    (c.in_ok-halt.ensures.seen (ap Ok ended)))
    (subst (λ (session : SessionData). HaltsAt hear_nothing plain_reading (file.cut_line c.args.text.now) session (file.lines_in c.args.text.now) new tt tt asked told halt)
    start c.in_ok-halt.ensures.halts)
    c.cover_at.ensures.told

-- a run that ends before the cover is told ended for lack of memory
pub returns-in_err-note_all-clause-no_read : goal.returns-in_err-note_all-clause-no_read
returns-in_err-note_all-clause-no_read g c =
    let p = err_from_is_err_and c.from_residual-in_err-note_all.result c.from_residual-in_err-note_all.ensures.1 in
    rw (p.1, p.2) (λ is. absurd (cc (is)))

pub returns-in_err-note_all-clause-write : goal.returns-in_err-note_all-clause-write
returns-in_err-note_all-clause-write g c =
    let p = err_from_is_err_and c.from_residual-in_err-note_all.result c.from_residual-in_err-note_all.ensures.1 in
    rw (p.1, p.2) refl

pub returns-in_err-halt-clause-no_read : goal.returns-in_err-halt-clause-no_read
returns-in_err-halt-clause-no_read g c =
    let p = err_from_is_err_and c.from_residual-in_err-halt.result c.from_residual-in_err-halt.ensures.1 in
    rw (p.1, p.2, c.in_err-halt.ensures.memory) (λ is. absurd (cc (is)))

pub returns-in_err-halt-clause-write : goal.returns-in_err-halt-clause-write
returns-in_err-halt-clause-write g c =
    let p = err_from_is_err_and c.from_residual-in_err-halt.result c.from_residual-in_err-halt.ensures.1 in
    rw (p.1, p.2, c.in_err-halt.ensures.memory) refl
