use Rattle.std.proofs.Common.{[], ◌≤◌}
use Rattle.std.proofs.lemmas.List.Elements.{All-head}
use Rattle.told_lines.specs.Lines.{line_seen, room_of}
use Rattle.node_looks.proofs.telling.tell_some.Goals as goal

pub tell_one-requires-clause-room : goal.tell_one-requires-clause-room
tell_one-requires-clause-room g c =
    All-head (λ line. room_of line ≤ g.L.Lines.room c.args.out.now) (line_seen c.in-Some.line) [] (rw c.in-Some.is at c.requires.room)

pub returns-in-Some-clause-sent : goal.returns-in-Some-clause-sent
returns-in-Some-clause-sent g c = rw c.in-Some.is c.tell_one.ensures.sent
