use Rattle.std.proofs.Common.{[], refl}
use Rattle.told_lines.specs.Lines.{line_seen}
use Rattle.cosmos_session.proofs.waves.tell_line.Goals as goal

pub returns-in-Err-clause-sent : goal.returns-in-Err-clause-sent
returns-in-Err-clause-sent g c =
    record { front = []; next = record { column = 0; line = line_seen c.args.line }; rest = []; split = refl; heard = c.in-Err.ensures.part }
