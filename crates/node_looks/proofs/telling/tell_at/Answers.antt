use Rattle.std.proofs.Common.{◌<◌, ◌≤◌, ◌+◌, ◌∷◌, [], List, length, filter_map, subst, ◌∙◌, arith}
use Rattle.std.proofs.lemmas.Result.{err_from_is_err_and}
use Rattle.switch_paths.specs.Graphs.{place_at}
use Rattle.told_lines.specs.Lines.{Line}
use Rattle.told_lines.specs.Hearing.{SoFar, of_column}
use Rattle.told_lines.proofs.HearingLemmas.{so_far-more, so_far-stopped, so_far-end}
use Rattle.node_looks.specs.Looks.{line_at, lines_at}
use Rattle.node_looks.proofs.LookLemmas.{heard-next, room-next, none-behind}
use Rattle.node_looks.proofs.telling.tell_at.Goals as goal

pub tell_some-requires-clause-room : goal.tell_some-requires-clause-room
tell_some-requires-clause-room g c =
    let line = line_at c.args.terminal c.args.circuit.now c.args.state.now c.args.node in
    let inside : c.loop-place.place < length c.args.circuit.now.graph.places = omega (arith, c.loop-place-test.true, c.count_of-place-end.ensures) in
    rw (c.line_at.ensures.line, c.loop-place.invariant.room)
    (room-next line c.args.circuit.now c.loop-place.place inside (g.L.Lines.room c.args.out.now) c.loop-place.invariant.fits).0

pub returns-in_err-tell_some-clause-sent : goal.returns-in_err-tell_some-clause-sent
returns-in_err-tell_some-clause-sent g c =
    let line = line_at c.args.terminal c.args.circuit.now c.args.state.now c.args.node in
    let inside : c.loop-place.place < length c.args.circuit.now.graph.places = omega (arith, c.loop-place-test.true, c.count_of-place-end.ensures) in
    let stopped = err_from_is_err_and c.from_residual.result c.from_residual.ensures.1 in
    rw stopped.1 (so_far-stopped g.L.Lines.hear g.L.Lines.part _ _ _ _ _ _ _ (heard-next line c.args.circuit.now c.loop-place.place inside)
    c.loop-place.invariant.heard (rw c.line_at.ensures.line at c.in_err-tell_some.ensures.sent))

pub loop-place-preserved : goal.loop-place-preserved
loop-place-preserved g c =
    let circuit = c.args.circuit.now in
    let line = line_at c.args.terminal circuit c.args.state.now c.args.node in
    let place = c.loop-place.place in
    let inside : place < length circuit.graph.places = omega (arith, c.loop-place-test.true, c.count_of-place-end.ensures) in
    record {
      heard = so_far-more g.L.Lines.hear _ _ _ _ _ (of_column 0 (filter_map line ((place + 1, place_at circuit.graph.places place) ∷ []))) _
          (heard-next line circuit place inside) c.loop-place.invariant.heard (rw c.line_at.ensures.line at c.in_ok-tell_some.ensures.sent);
      fits = (room-next line circuit place inside (g.L.Lines.room c.args.out.now) c.loop-place.invariant.fits).1;
      room = c.tell_some.ensures.room ∙ c.loop-place.invariant.room;
      faults = c.in_ok-tell_some.ensures.faults ∙ c.loop-place.invariant.faults;
      refusals = c.in_ok-tell_some.ensures.refusals ∙ c.loop-place.invariant.refusals;
    }

pub returns-clause-sent : goal.returns-clause-sent
returns-clause-sent g c =
    let circuit = c.args.circuit.now in
    let line = line_at c.args.terminal circuit c.args.state.now c.args.node in
    let past : length circuit.graph.places ≤ c.loop-place.place = omega (arith, c.loop-place-test.false, c.count_of-place-end.ensures) in
    so_far-end g.L.Lines.hear _ _ _
    (subst (λ (left : List Line). SoFar g.L.Lines.hear (g.L.Lines.heard c.args.out.now) (g.L.Lines.heard c.loop-place.out)
    (of_column 0 (lines_at c.args.terminal circuit c.args.state.now c.args.node)) (of_column 0 left)) (none-behind line circuit c.loop-place.place past)
    c.loop-place.invariant.heard)
