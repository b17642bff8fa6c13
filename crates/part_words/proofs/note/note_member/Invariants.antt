-- The changes of the parts so far are noted.
use Rattle.std.proofs.Common.{◌≡◌, ℕ, ◌+◌, ◌≤◌, take, vec_len}
use Rattle.std.specs.Prelude.{vec_capacity}
use Rattle.ternary.specs.declared.tern.Tern.{Tern}
use Rattle.part_words.specs.Members.{HasRails, IsMoved, NotesEach}
use Rattle.part_words.proofs.note.note_member.Given as goal

abbrev pub invariant-loop-column : goal.invariant-loop-column
invariant-loop-column l = record {
  notes : (before next : ℕ → Tern) → HasRails l.starts l.fn.old.0 l.fn.old.1 before → HasRails l.starts l.fn.new.0 l.fn.new.1 next →
      NotesEach (take l.column l.starts) (IsMoved l.nodes l.k before next) l.fn.changes.items l.changes.items;
  few : vec_len l.changes ≤ vec_len l.fn.changes + l.column;
  capacity : vec_capacity l.changes ≡ vec_capacity l.fn.changes;
}
