-- The changes so far were taken.
use Rattle.std.proofs.Common.{take}
use Rattle.machine_parts.specs.Running.{IsTaken}
use Rattle.beside_run.specs.Running.{PlacesSome, StaysOrComes}
use Rattle.beside_run.proofs.beginning.place_changes.Given as goal

abbrev pub invariant-loop-change : goal.invariant-loop-change
invariant-loop-change l = record {
  places : PlacesSome l.good_graph l.graph l.fn.machine l.machine l.good l.apart.inside;
  taken : IsTaken (take l.change-index l.changes) l.fn.good l.good;
  comes : StaysOrComes l.state l.fn.machine.state l.machine.state;
}
