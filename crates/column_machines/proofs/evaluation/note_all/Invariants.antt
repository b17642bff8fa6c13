-- The changes at the places so far are noted.
use Rattle.std.proofs.Common.{◌≡◌, ◌+◌, ◌≤◌, vec_len}
use Rattle.std.specs.Prelude.{vec_capacity}
use Rattle.column_machines.specs.Noting.{Notes}
use Rattle.column_machines.proofs.evaluation.note_all.Given as goal

abbrev pub invariant-loop-place : goal.invariant-loop-place
invariant-loop-place l = record {
  changes : Notes l.joining l.used l.nodes l.hi l.lo l.ones l.others l.place l.fn.changes.items l.changes.items;
  few : vec_len l.changes ≤ vec_len l.fn.changes + l.place;
  capacity : vec_capacity l.changes ≡ vec_capacity l.fn.changes;
}
