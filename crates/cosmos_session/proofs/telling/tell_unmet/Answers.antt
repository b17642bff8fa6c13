use Rattle.std.proofs.Common.{[], ◌∷◌, ◌∙◌, arith}
use Rattle.std.proofs.lemmas.Result.{err_from_is_err_and}
use Rattle.told_lines.specs.Hearing.{of_column}
use Rattle.told_lines.proofs.HearingLemmas.{so_far-more, so_far-stopped}
use Rattle.session_meaning.proofs.LineLemmas.{lines-next}
use Rattle.cosmos_session.proofs.telling.tell_unmet.Goals as goal

pub tell-requires : goal.tell-requires
tell-requires g c = record {
  room = rw (c.loop-line.invariant.room, c.line-item.is) (c.requires.room c.loop-line.line-index c.line-item.result (omega arith));
}

pub returns-in_err-tell-clause-sent : goal.returns-in_err-tell-clause-sent
returns-in_err-tell-clause-sent g c =
    let stopped = err_from_is_err_and c.from_residual.result c.from_residual.ensures.1 in
    rw stopped.1 (so_far-stopped g.L.Lines.hear g.L.Lines.part _ _ _ _ _ _ _
    (lines-next c.args.lines.now c.loop-line.line-index c.line-item.result (omega arith) c.line-item.is) c.loop-line.invariant.heard
    c.in_err-tell.ensures.sent)

pub loop-line-preserved : goal.loop-line-preserved
loop-line-preserved g c = record {
  heard = so_far-more g.L.Lines.hear _ _ _ _ _ (of_column 0 (c.line-item.result ∷ [])) _
      (lines-next c.args.lines.now c.loop-line.line-index c.line-item.result (omega arith) c.line-item.is) c.loop-line.invariant.heard
      c.in_ok-tell.ensures.sent;
  room = c.tell.ensures.room ∙ c.loop-line.invariant.room;
  faults = c.in_ok-tell.ensures.faults ∙ c.loop-line.invariant.faults;
  refusals = c.in_ok-tell.ensures.refusals ∙ c.loop-line.invariant.refusals;
}
