use Rattle.std.proofs.Common.{[], ◌∷◌, ◌∙◌, arith}
use Rattle.std.proofs.lemmas.Result.{err_from_is_err_and}
use Rattle.told_lines.specs.Hearing.{of_column}
use Rattle.told_lines.proofs.HearingLemmas.{so_far-more, so_far-stopped}
use Rattle.session_meaning.specs.Effects.{shown_line}
use Rattle.session_meaning.proofs.LineLemmas.{shown-next, shown_room-at}
use Rattle.cosmos_session.proofs.session.Session.tell_shown.Goals as goal

pub tell_name-requires-clause-short : goal.tell_name-requires-clause-short
tell_name-requires-clause-short g c =
    rw (c.loop-name.invariant.values, c.items.ensures, c.name-item.is) (c.requires.short c.loop-name.name-index c.name-item.result (omega arith))

pub tell_name-requires-clause-room : goal.tell_name-requires-clause-room
tell_name-requires-clause-room g c =
    rw (c.loop-name.invariant.room, c.items.ensures) (shown_room-at c.args.self.now.core c.args.names.now c.loop-name.name-index c.name-item.result _
    (omega arith) c.name-item.is c.requires.room)

pub returns-in_err-tell_name-clause-sent : goal.returns-in_err-tell_name-clause-sent
returns-in_err-tell_name-clause-sent g c =
    let stopped = err_from_is_err_and c.from_residual.result c.from_residual.ensures.1 in
    rw stopped.1 (so_far-stopped g.L.Lines.hear g.L.Lines.part _ _ _ _ _ _ _
    (shown-next c.args.self.now.core c.args.names.now c.loop-name.name-index c.name-item.result (omega arith) c.name-item.is)
    c.loop-name.invariant.heard (rw c.items.ensures at c.in_err-tell_name.ensures.sent))

pub loop-name-preserved : goal.loop-name-preserved
loop-name-preserved g c = record {
  heard = so_far-more g.L.Lines.hear _ _ _ _ _ (of_column 0 (shown_line c.args.self.now.core c.name-item.result ∷ [])) _
      (shown-next c.args.self.now.core c.args.names.now c.loop-name.name-index c.name-item.result (omega arith) c.name-item.is)
      c.loop-name.invariant.heard (rw c.items.ensures at c.in_ok-tell_name.ensures.sent);
  values = c.tell_name.ensures.short ∙ c.loop-name.invariant.values;
  room = c.tell_name.ensures.room ∙ c.loop-name.invariant.room;
  faults = c.in_ok-tell_name.ensures.faults ∙ c.loop-name.invariant.faults;
  refusals = c.in_ok-tell_name.ensures.refusals ∙ c.loop-name.invariant.refusals;
}
