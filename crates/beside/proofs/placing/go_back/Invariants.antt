-- The parts so far are kept, or may go back.
use Rattle.std.proofs.Common.{◌≡◌, length}
use Rattle.beside.specs.Returning.{ReturnsSoFar}
use Rattle.beside.proofs.placing.go_back.Given as goal

abbrev pub invariant-loop-place : goal.invariant-loop-place
invariant-loop-place l = record {
  so_far : ReturnsSoFar l.touched.inside l.machine l.good l.apart.list l.place l.room.inside;
  counted : length l.room.inside ≡ length l.fn.room.inside;
}
