use Rattle.std.proofs.lemmas.Result.{err_from_is_err_and}
use Rattle.told_lines.proofs.HearingLemmas.{lines-part, lines-then}
use Rattle.node_looks.specs.Looks.{end_lines, gate_lines}
use Rattle.node_looks.proofs.LookLemmas.{room-parts}
use Rattle.node_looks.proofs.telling.tell_switches.Goals as goal

pub tell_at-requires-clause-room : goal.tell_at-requires-clause-room
tell_at-requires-clause-room g c = (room-parts (g.L.Lines.room c.args.out.now) _ _ c.requires.room).0

pub tell_at-requires-2-clause-room : goal.tell_at-requires-2-clause-room
tell_at-requires-2-clause-room g c =
    rw c.tell_at.ensures.room
    (room-parts (g.L.Lines.room c.args.out.now) (end_lines c.args.circuit.now c.args.state.now c.args.node) _ c.requires.room).1

pub returns-in_err-tell_at-clause-sent : goal.returns-in_err-tell_at-clause-sent
returns-in_err-tell_at-clause-sent g c =
    let stopped = err_from_is_err_and c.from_residual.result c.from_residual.ensures.1 in
    rw stopped.1 (lines-part g.L.Lines.hear g.L.Lines.part 0 _ _ (end_lines c.args.circuit.now c.args.state.now c.args.node)
    (gate_lines c.args.circuit.now c.args.state.now c.args.node) c.in_err-tell_at.ensures.sent)

pub returns-clause-sent : goal.returns-clause-sent
returns-clause-sent g c =
    lines-then g.L.Lines.hear g.L.Lines.part 0 _ _ _ (end_lines c.args.circuit.now c.args.state.now c.args.node)
    (gate_lines c.args.circuit.now c.args.state.now c.args.node) _ c.in_ok-tell_at.ensures.sent c.tell_at-2.ensures.sent
