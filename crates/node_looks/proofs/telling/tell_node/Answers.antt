use Rattle.std.proofs.Common.{[], ◌∷◌, ◌++◌, ◌≤◌}
use Rattle.std.proofs.lemmas.List.Elements.{All-head}
use Rattle.std.proofs.lemmas.Result.{err_from_is_err_and}
use Rattle.told_lines.specs.Lines.{room_of}
use Rattle.told_lines.proofs.HearingLemmas.{lines-part, lines-then}
use Rattle.node_looks.specs.Looks.{node_line, end_lines, gate_lines}
use Rattle.node_looks.proofs.LookLemmas.{room-parts}
use Rattle.node_looks.proofs.telling.tell_node.Goals as goal

pub tell_one-requires-clause-room : goal.tell_one-requires-clause-room
tell_one-requires-clause-room g c =
    rw c.node_line.ensures.line
    (All-head (λ line. room_of line ≤ g.L.Lines.room c.args.out.now) (node_line c.args.circuit.now c.args.state.now c.args.node)
    (end_lines c.args.circuit.now c.args.state.now c.args.node ++ gate_lines c.args.circuit.now c.args.state.now c.args.node) c.requires.room)

pub tell_switches-requires-clause-room : goal.tell_switches-requires-clause-room
tell_switches-requires-clause-room g c =
    rw c.tell_one.ensures.room
    (room-parts (g.L.Lines.room c.args.out.now) (node_line c.args.circuit.now c.args.state.now c.args.node ∷ []) _ c.requires.room).1

pub returns-in_err-tell_one-clause-sent : goal.returns-in_err-tell_one-clause-sent
returns-in_err-tell_one-clause-sent g c =
    let stopped = err_from_is_err_and c.from_residual.result c.from_residual.ensures.1 in
    rw stopped.1 (lines-part g.L.Lines.hear g.L.Lines.part 0 _ _ (node_line c.args.circuit.now c.args.state.now c.args.node ∷ [])
    (end_lines c.args.circuit.now c.args.state.now c.args.node ++ gate_lines c.args.circuit.now c.args.state.now c.args.node)
    (rw c.node_line.ensures.line at c.in_err-tell_one.ensures.sent))

pub returns-clause-sent : goal.returns-clause-sent
returns-clause-sent g c =
    lines-then g.L.Lines.hear g.L.Lines.part 0 _ _ _ (node_line c.args.circuit.now c.args.state.now c.args.node ∷ [])
    (end_lines c.args.circuit.now c.args.state.now c.args.node ++ gate_lines c.args.circuit.now c.args.state.now c.args.node) _
    (rw c.node_line.ensures.line at c.in_ok-tell_one.ensures.sent) c.tell_switches.ensures.sent
