-- The columns below the index have moved.
use Rattle.std.proofs.Common.{◌≡◌, length}
use Rattle.column_machines.specs.Turns.{HaveRun}
use Rattle.column_machines.proofs.turns.TurnMachine.run.Given as goal

abbrev pub invariant-loop-column : goal.invariant-loop-column
invariant-loop-column l = record {
  run : HaveRun l.graph l.limit l.column l.fn.self l.self l.out;
  places : length l.out ≡ length l.fn.out;
}
