-- A run is noted to its end, or the line of its refusal is written.
use Rattle.std.proofs.Common.{◌∙◌, ◌<◌, Option, inr, sym, subst, refl}
use Rattle.std.proofs.lemmas.Result.{err_from_is_err_and}
use Rattle.line_words.specs.Files as file
use Rattle.symbol_meaning.specs.Readings.{Valuations}
use Rattle.symbol_meaning.specs.Scripts.{NamedStop, before_stop}
use Rattle.symbol_comparing.specs.Told.{AreValuationsOf}
use Rattle.symbol_run.specs.Answers.{cause_text}
use Rattle.symbol_run.specs.Halts.{StopsAmong}
use Rattle.symbol_equiv.proofs.AnswerLemmas.{RefusedTo, ends_by, noted_by, notes_carried, refusal_begun, refusal_written, refused_by}
use Rattle.symbol_equiv.proofs.FaultLemmas.{run_stopped}
use Rattle.symbol_equiv.proofs.KeptLemmas.{notes_kept, still_then, valued_later}
use Rattle.symbol_equiv.proofs.runs.run_noted.Given.{Over}
use Rattle.symbol_equiv.proofs.runs.run_noted.Goals.{After-refuse_run}
use Rattle.symbol_equiv.proofs.runs.run_noted.Goals as goal

pub returns-in_err-session-clause-told : goal.returns-in_err-session-clause-told
returns-in_err-session-clause-told g c =
    let stopped = err_from_is_err_and c.from_residual.result c.from_residual.ensures.1 in
    rw (stopped.1, stopped.2)
    (run_stopped c.args.net.now (file.cut_line c.args.text.now) (g.T.SessionStart.starts c.args.start) (file.lines_in c.args.text.now) c.args.symbols
    c.args.kept.now c.args.kept.now (g.S.Sink.written c.args.out.now) (g.S.Sink.written c.args.out.now) (g.A.Analyst.analysed c.args.analyst.now)
    (g.A.Analyst.analysed c.args.analyst.now) c.in_err-session.field-0.0 refl
    (c.in_err-session.ensures.among c.args.text.now c.requires.valuations))

pub note_lines-requires-clause-serves : goal.note_lines-requires-clause-serves
note_lines-requires-clause-serves g c =
    subst (λ (stop : Option NamedStop). g.M.LineSession.serves c.in_ok-session.session (file.cut_line c.args.text.now)
    (before_stop stop (file.lines_in c.args.text.now))) (sym c.requires.stop)
    (c.in_ok-session.ensures.serves c.args.text.now c.requires.valuations)

pub note_lines-requires-clause-quiet : goal.note_lines-requires-clause-quiet
note_lines-requires-clause-quiet g c = c.in_ok-session.ensures.quiet

pub note_lines-requires-clause-valued : goal.note_lines-requires-clause-valued
note_lines-requires-clause-valued g c =
    subst (AreValuationsOf (g.M.SharesMaker.maker c.in_ok-session.session)) (sym c.in_ok-session.ensures.valuations)
    (valued_later c.args.symbols (g.M.SharesMaker.maker c.in_ok-session.session) (g.T.SessionStart.valuations c.args.start)
    c.in_ok-session.ensures.keeps.count c.requires.valued)

pub note_lines-requires-clause-kept : goal.note_lines-requires-clause-kept
note_lines-requires-clause-kept g c =
    (notes_kept c.args.symbols (g.M.SharesMaker.maker c.in_ok-session.session) c.in_ok-session.ensures.keeps c.args.kept.now c.requires.kept).whole

pub note_lines-requires-clause-none : goal.note_lines-requires-clause-none
note_lines-requires-clause-none g c = c.new-notes.ensures

pub returns-in_err-halt-clause-told : goal.returns-in_err-halt-clause-told
returns-in_err-halt-clause-told g c =
    let stopped = err_from_is_err_and c.from_residual-in_err-halt.result c.from_residual-in_err-halt.ensures.1 in
    rw (stopped.1, stopped.2)
    (run_stopped c.args.net.now (file.cut_line c.args.text.now) (g.T.SessionStart.starts c.args.start) (file.lines_in c.args.text.now) c.args.symbols
    c.args.kept.now c.note_lines.new.kept (g.S.Sink.written c.args.out.now) (g.S.Sink.written c.args.out.now) (g.A.Analyst.analysed c.args.analyst.now)
    (g.A.Analyst.analysed c.note_lines.new.analyst) c.in_err-halt.field-0.0 refl
    (subst (λ (stop : Option NamedStop). StopsAmong (before_stop stop (file.lines_in c.args.text.now)) c.in_err-halt.field-0.0) c.requires.stop
    c.in_err-halt.ensures.among))

pub leave-requires-clause-kept : goal.leave-requires-clause-kept
leave-requires-clause-kept g c = c.in_ok-halt.ensures.still.whole

pub leave-requires-clause-noted : goal.leave-requires-clause-noted
leave-requires-clause-noted g c =
    let one = c.in_ok-session.session in
    (noted_by (file.cut_line c.args.text.now) (g.T.SessionStart.starts c.args.start) (file.lines_in c.args.text.now) (g.M.LineSession.sessions one)
    (g.M.LineSession.sessions c.note_lines.new.session) c.args.stop c.requires.stop (g.A.Analyst.analysed c.args.analyst.now)
    (g.A.Analyst.analysed c.note_lines.new.analyst) c.in_ok-halt.halt (g.M.LineSession.valuations one)
    (c.in_ok-session.ensures.valuations ∙ c.requires.valuations) (g.M.SharesMaker.maker c.note_lines.new.session) c.note_lines.new.notes
    (sym c.is_whole.ensures ∙ c.if-is_whole.true)
    (λ column inside. c.in_ok-session.ensures.sessions column
    (subst (λ (own : Valuations). column < own.columns) c.in_ok-session.ensures.valuations inside))
    c.in_ok-halt.ensures.valued c.in_ok-halt.ensures.told).whole

pub returns-then-is_whole-clause-told : goal.returns-then-is_whole-clause-told
returns-then-is_whole-clause-told g c =
    let one = c.in_ok-session.session in
    let after = g.M.SharesMaker.maker c.note_lines.new.session in
    let maker = c.in_ok-symbols.symbols in
    let cut = file.cut_line c.args.text.now in
    let lines = file.lines_in c.args.text.now in
    let start = g.T.SessionStart.starts c.args.start in
    let asked = g.A.Analyst.analysed c.args.analyst.now in
    let known = g.A.Analyst.analysed c.note_lines.new.analyst in
    let begun = valued_later c.args.symbols (g.M.SharesMaker.maker one) (g.T.SessionStart.valuations c.args.start) c.in_ok-session.ensures.keeps.count
    c.requires.valued in
    let valued = subst (AreValuationsOf (g.M.SharesMaker.maker one)) (sym c.in_ok-session.ensures.valuations) begun in
    let run = noted_by cut start lines (g.M.LineSession.sessions one) (g.M.LineSession.sessions c.note_lines.new.session) c.args.stop c.requires.stop asked known
    c.in_ok-halt.halt (g.M.LineSession.valuations one) (c.in_ok-session.ensures.valuations ∙ c.requires.valuations) after c.note_lines.new.notes
    (sym c.is_whole.ensures ∙ c.if-is_whole.true)
    (λ column inside. c.in_ok-session.ensures.sessions column
    (subst (λ (own : Valuations). column < own.columns) c.in_ok-session.ensures.valuations inside))
    c.in_ok-halt.ensures.valued c.in_ok-halt.ensures.told in
    let same = sym c.in_ok-halt.ensures.valued.columns ∙ valued.columns in (
      notes_carried cut start lines after maker c.note_lines.new.notes c.leave.new.notes asked known c.in_ok-symbols.ensures.columns
          c.in_ok-symbols.ensures.noted run,
      still_then c.args.symbols (g.M.SharesMaker.maker one) maker c.args.kept.now c.args.kept.now c.leave.new.kept c.in_ok-session.ensures.keeps.count
          (notes_kept c.args.symbols (g.M.SharesMaker.maker one) c.in_ok-session.ensures.keeps c.args.kept.now c.requires.kept)
          (still_then (g.M.SharesMaker.maker one) after maker c.args.kept.now c.note_lines.new.kept c.leave.new.kept same c.in_ok-halt.ensures.still
          c.in_ok-symbols.ensures.kept),
      refl,
    )

pub refuse_run-requires : goal.refuse_run-requires
refuse_run-requires g c =
    let one = c.in_ok-session.session in
    ends_by (file.cut_line c.args.text.now) (g.T.SessionStart.starts c.args.start) (file.lines_in c.args.text.now) (g.M.LineSession.sessions one)
    (g.M.LineSession.sessions c.note_lines.new.session) c.args.stop c.requires.stop (g.A.Analyst.analysed c.args.analyst.now)
    (g.A.Analyst.analysed c.note_lines.new.analyst) c.in_ok-halt.halt (g.M.LineSession.valuations one)
    (c.in_ok-session.ensures.valuations ∙ c.requires.valuations) c.circuit-circuit.result.now
    (λ column inside. c.circuit-circuit.ensures column
    (subst (λ (own : Valuations). column < own.columns) (sym c.in_ok-halt.ensures.valuations) inside)) c.in_ok-halt.ensures.told.halts

-- the refusal whose line was written
refusal : (g : Over) (c : After-refuse_run g) → RefusedTo (file.cut_line c.args.text.now) (g.T.SessionStart.starts c.args.start) (file.lines_in c.args.text.now)
    (g.A.Analyst.analysed c.args.analyst.now) (g.A.Analyst.analysed c.note_lines.new.analyst) (cause_text c.circuit-circuit.result.now c.in_ok-halt.halt c.args.stop)
refusal g c =
    let one = c.in_ok-session.session in
    refused_by (file.cut_line c.args.text.now) (g.T.SessionStart.starts c.args.start) (file.lines_in c.args.text.now) (g.M.LineSession.sessions one)
    (g.M.LineSession.sessions c.note_lines.new.session) c.args.stop c.requires.stop (g.A.Analyst.analysed c.args.analyst.now)
    (g.A.Analyst.analysed c.note_lines.new.analyst) c.in_ok-halt.halt (g.M.LineSession.valuations one)
    (c.in_ok-session.ensures.valuations ∙ c.requires.valuations) c.circuit-circuit.result.now (sym c.is_whole.ensures ∙ c.if-is_whole.false)
    (λ column inside. c.in_ok-session.ensures.sessions column
    (subst (λ (own : Valuations). column < own.columns) c.in_ok-session.ensures.valuations inside))
    (λ column inside. c.circuit-circuit.ensures column
    (subst (λ (own : Valuations). column < own.columns) (sym c.in_ok-halt.ensures.valuations) inside)) c.in_ok-halt.ensures.told.halts

pub returns-in_err-end-clause-told : goal.returns-in_err-end-clause-told
returns-in_err-end-clause-told g c =
    let stopped = err_from_is_err_and c.from_residual-in_err-end.result c.from_residual-in_err-end.ensures.1 in
    rw (stopped.1, stopped.2)
    (inr (refusal_begun c.args.net.now _ _ _ (g.S.Sink.written c.args.out.now) (g.S.Sink.written c.refuse_run.new.out) _ _ _
    (refusal g (goal.at.returns-in_err-end-clause-told g c).After-refuse_run) c.in_err-end.ensures.part))

pub returns-clause-told : goal.returns-clause-told
returns-clause-told g c = (
  refusal_written c.args.net.now _ _ _ (g.S.Sink.written c.args.out.now) (g.S.Sink.written c.refuse_run.new.out) _ _ _
      (refusal g (goal.at.returns-clause-told g c).After-refuse_run) c.in_ok-end.ensures.ok,
  c.in_ok-end.ensures.ends,
)
