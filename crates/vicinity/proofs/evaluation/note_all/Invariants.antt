-- The nodes so far were looked at.
use Rattle.std.proofs.Common.{◌≡◌, ◌+◌, ◌≤◌, take}
use Rattle.std.specs.Prelude.{Contains, vec_len, vec_capacity}
use Rattle.vicinity.specs.Evaluating.{HasRails, NotesWhere}
use Rattle.vicinity.proofs.evaluation.note_all.Given as goal

abbrev pub invariant-loop-place : goal.invariant-loop-place
invariant-loop-place l = record {
  notes : NotesWhere (Contains (take l.place l.awake.list)) (HasRails l.one l.zero) l.joining l.state l.fn.changes.items l.changes.items;
  capacity : vec_capacity l.changes ≡ vec_capacity l.fn.changes;
  len : vec_len l.changes ≤ vec_len l.fn.changes + l.place;
}
