-- The first of the listed nodes are taken over.
use Rattle.std.proofs.Common.{◌≡◌, length}
use Rattle.std.specs.Prelude.{vec_capacity}
use Rattle.good_run.specs.Looks.{TakesSoFar}
use Rattle.good_run.proofs.recorder.take_over.Given as goal

abbrev pub invariant-loop-at : goal.invariant-loop-at
invariant-loop-at g l = record {
  so_far : TakesSoFar (g.M.Moved.changed l.moved) l.at l.fn.known l.known (g.M.Moved.state l.moved) l.fn.changes.items l.changes.items
      (vec_capacity l.fn.changes) l.enough;
  capacity : vec_capacity l.changes ≡ vec_capacity l.fn.changes;
  end : l.at-end ≡ length (g.M.Moved.changed l.moved);
}
