-- A fault at a column's line leaves a part of the row.
use Rattle.std.proofs.Common.{◌∙◌, length}
use Rattle.std.proofs.lemmas.Result.{err_from_is_err_and}
use Rattle.told_lines.specs.Rows.{wave_at}
use Rattle.told_lines.proofs.RowLemmas.{row_more, row_stopped}
use Rattle.told_lines.proofs.lines.Lines.tell_row.Goals as goal

pub returns-in_err-tell-clause-heard : goal.returns-in_err-tell-clause-heard
returns-in_err-tell-clause-heard g c =
    let stopped = err_from_is_err_and c.from_residual.result c.from_residual.ensures.1 in
    rw stopped.1 (row_stopped g.Self.Lines.hear g.Self.Lines.part (wave_at c.args.n c.args.counts.now c.args.width c.args.values.now)
    (length c.args.counts.now) (g.Self.Lines.heard c.args.self.now) (g.Self.Lines.heard c.loop-column.self) (g.Self.Lines.heard c.tell.new.self)
    c.loop-column.column c.loop-column-test.true c.loop-column.invariant.heard (rw c.wave_at.ensures.line at c.in_err-tell.ensures.part))

pub loop-column-preserved : goal.loop-column-preserved
loop-column-preserved g c = record {
  heard = row_more g.Self.Lines.hear g.Self.Lines.part (wave_at c.args.n c.args.counts.now c.args.width c.args.values.now)
      (length c.args.counts.now) (g.Self.Lines.heard c.args.self.now) (g.Self.Lines.heard c.loop-column.self) (g.Self.Lines.heard c.tell.new.self)
      c.loop-column.column c.loop-column-test.true c.loop-column.invariant.heard (rw c.wave_at.ensures.line at c.in_ok-tell.ensures.ok);
  room = c.tell.ensures.room ∙ c.loop-column.invariant.room;
  faults = c.in_ok-tell.ensures.faults ∙ c.loop-column.invariant.faults;
  refusals = c.in_ok-tell.ensures.refusals ∙ c.loop-column.invariant.refusals;
}
