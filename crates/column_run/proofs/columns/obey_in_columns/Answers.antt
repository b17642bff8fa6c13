-- Each line takes the script one step on in all columns; at each exit what was told so far becomes what is told of all lines.
use Rattle.std.proofs.Common.{List, ◌∷◌, ℕ, inr, refl, sym, ap, ◌∙◌, subst}
use Rattle.std.specs.List.{enumerate_from}
use Rattle.std.proofs.lemmas.Result.{err_from_is_err_and}
use Rattle.line_words.specs.Lines.{lines_of}
use Rattle.line_words.specs.Files as file
use Rattle.session_meaning.specs.Columns.{column_of}
use Rattle.column_run.proofs.RunLemmas.{HasCome, ready_columns, comes_first, comes_at, comes_on, obeyed_in, outgrown_in, breaks_in_all, halts_refused, halts_large, halts_stop, halts_end}
use Rattle.column_run.proofs.columns.obey_in_columns.Given.{Over}
use Rattle.column_run.proofs.columns.obey_in_columns.Goals.{In-Some}
use Rattle.column_run.proofs.columns.obey_in_columns.Goals as goal

pub loop-line-init : goal.loop-line-init
loop-line-init g c = record {
  come =
      let start = c.args.session.now in
      let columns = g.M.Columns.columns start.stage in
      let sessions = column_of g.M.Columns.states start in
      let all = file.lines_in c.args.text.now in
      let heard = g.L.Lines.heard c.args.out.now in
      let asked = g.A.Analyst.analysed c.args.analyst.now in
      let first = c.into_iter-line-iterator.ensures.into_iter_gives ∙ c.lines-line-items.ensures.numbered
      ∙ ap (λ (front : List ℕ). enumerate_from 1 (lines_of front)) c.front.ensures in
      subst (λ left. HasCome g.L.Lines.hear columns c.cut_line-cut.result sessions all heard asked sessions left heard asked) (sym first)
      (comes_first g.L.Lines.hear columns c.cut_line-cut.result sessions all heard asked
      (ready_columns g.M.Columns.columns g.M.Columns.states g.M.Columns.serves start c.circuit-circuit.ensures.session));
  columns = refl;
  faults = refl;
  refusals = refl;
}

-- as many columns as now have come to the line
come_here : (g : Over) (c : In-Some g) →
    HasCome g.L.Lines.hear (g.M.Columns.columns c.loop-line.session.stage) c.cut_line-cut.result (column_of g.M.Columns.states c.args.session.now)
    (file.lines_in c.args.text.now) (g.L.Lines.heard c.args.out.now) (g.A.Analyst.analysed c.args.analyst.now) (column_of g.M.Columns.states c.loop-line.session)
    ((c.in-Some.line.number, c.in-Some.line.bytes.now) ∷ c.next.new.self) (g.L.Lines.heard c.loop-line.out) (g.A.Analyst.analysed c.loop-line.analyst)
come_here g c = comes_at (sym c.loop-line.invariant.columns) c.in-Some.ensures.steps c.loop-line.invariant.come

pub returns-in_err-run_line-clause-told : goal.returns-in_err-run_line-clause-told
returns-in_err-run_line-clause-told g c =
    let come = come_here g (goal.at.returns-in_err-run_line-clause-told g c).In-Some in
    let stopped = halts_stop g.L.Lines.hear g.L.Lines.part _ _ _ _ _ _ _ _ _ _ _ come (column_of g.M.Columns.states c.run_line.new.session)
    (g.L.Lines.heard c.run_line.new.out) (g.A.Analyst.analysed c.run_line.new.analyst) c.in_err-run_line.field-0.0 c.in_err-run_line.ensures.turn in
    let p = err_from_is_err_and c.from_residual.result c.from_residual.ensures.1 in
    rw p.1 (inr (breaks_in_all c.loop-line.invariant.columns c.cut_line-cut.ensures stopped))

pub loop-line-preserved : goal.loop-line-preserved
loop-line-preserved g c =
    let come = come_here g (goal.at.loop-line-preserved g c).In-Some in
    record {
      come = comes_at c.loop-line.invariant.columns refl
          (comes_on g.L.Lines.hear g.L.Lines.part _ _ _ _ _ _ _ _ _ _ _ come (column_of g.M.Columns.states c.run_line.new.session)
          (g.L.Lines.heard c.run_line.new.out) (g.A.Analyst.analysed c.run_line.new.analyst) (rw c.in-Accepted.is at c.in_ok-run_line.ensures.turn));
      columns = c.in_ok-run_line.ensures.columns ∙ c.loop-line.invariant.columns;
      faults = c.in_ok-run_line.ensures.write ∙ c.loop-line.invariant.faults;
      refusals = c.in_ok-run_line.ensures.refused ∙ c.loop-line.invariant.refusals;
    }

pub returns-in-Refused-clause-told : goal.returns-in-Refused-clause-told
returns-in-Refused-clause-told g c =
    obeyed_in c.loop-line.invariant.columns c.cut_line-cut.ensures
    (halts_refused g.L.Lines.hear g.L.Lines.part _ _ _ _ _ _ _ _ _ _ _ (come_here g (goal.at.returns-in-Refused-clause-told g c).In-Some)
    (column_of g.M.Columns.states c.run_line.new.session) (g.L.Lines.heard c.run_line.new.out) (g.A.Analyst.analysed c.run_line.new.analyst)
    c.in-Refused.code (rw c.in-Refused.is at c.in_ok-run_line.ensures.turn))

pub returns-in-TooLarge-clause-told : goal.returns-in-TooLarge-clause-told
returns-in-TooLarge-clause-told g c =
    outgrown_in c.loop-line.invariant.columns c.cut_line-cut.ensures
    (halts_large g.L.Lines.hear g.L.Lines.part _ _ _ _ _ _ _ _ _ _ _ (come_here g (goal.at.returns-in-TooLarge-clause-told g c).In-Some)
    (column_of g.M.Columns.states c.run_line.new.session) (g.L.Lines.heard c.run_line.new.out) (g.A.Analyst.analysed c.run_line.new.analyst)
    c.in-TooLarge.fault (rw c.in-TooLarge.is at c.in_ok-run_line.ensures.turn))

pub returns-clause-told : goal.returns-clause-told
returns-clause-told g c =
    obeyed_in refl c.cut_line-cut.ensures
    (halts_end g.L.Lines.hear _ _ _ _ _ _ _ _ _ (comes_at refl c.in-None.ensures.steps.0 c.loop-line.invariant.come))
