use Rattle.std.proofs.Common.{take}
use Rattle.told_lines.specs.Lines.{AreInRoom}
use Rattle.cosmos_session.proofs.telling.room_for.Given as goal

abbrev pub invariant-loop-line : goal.invariant-loop-line
invariant-loop-line l = AreInRoom l.most (take l.line-index l.lines)
