-- The changes at the places so far are noted.
use Rattle.std.proofs.Common.{◌≡◌, ◌+◌, ◌≤◌, All, vec_len}
use Rattle.std.specs.Prelude.{vec_capacity}
use Rattle.truth_columns.specs.Columns.{AreKept}
use Rattle.truth_parts.specs.Noting.{IsOf, Notes}
use Rattle.truth_parts.proofs.noting.note_all.Given as goal

abbrev pub invariant-loop-place : goal.invariant-loop-place
invariant-loop-place g l = record {
  kept : AreKept (g.T.Truths.columns l.fn.truths) (g.T.Truths.has l.fn.truths) (g.T.Truths.holds l.fn.truths)
      (g.T.Truths.columns l.truths) (g.T.Truths.has l.truths) (g.T.Truths.holds l.truths);
  bound : g.T.Truths.bound l.truths ≡ g.T.Truths.bound l.fn.truths;
  changes : Notes l.joining (g.T.Truths.columns l.truths) (g.T.Truths.holds l.truths) l.nodes l.hi l.lo l.ones l.others l.place l.fn.changes.items l.changes.items;
  own : All (IsOf (g.T.Truths.has l.truths)) l.changes.items;
  few : vec_len l.changes ≤ vec_len l.fn.changes + l.place;
  capacity : vec_capacity l.changes ≡ vec_capacity l.fn.changes;
}
