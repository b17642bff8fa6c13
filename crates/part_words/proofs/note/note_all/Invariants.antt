-- The changes of the members so far are noted.
use Rattle.std.proofs.Common.{◌≡◌, ◌+◌, ◌*◌, ◌≤◌, List, length, vec_len}
use Rattle.std.specs.Prelude.{vec_capacity}
use Rattle.ternary.specs.declared.tern.Tern.{Tern}
use Rattle.part_words.specs.Members.{HasRun, NotesEach}
use Rattle.part_words.proofs.NotingLemmas.{IsNotedBelow}
use Rattle.part_words.proofs.note.note_all.Given as goal

abbrev pub invariant-loop-k : goal.invariant-loop-k
invariant-loop-k l = record {
  notes : (state : List Tern) → HasRun l.code l.nodes l.starts l.shift state l.values →
      NotesEach l.starts (IsNotedBelow l.joining l.code l.nodes state l.k) l.fn.changes.items l.changes.items;
  few : vec_len l.changes ≤ vec_len l.fn.changes + length l.starts * l.k;
  capacity : vec_capacity l.changes ≡ vec_capacity l.fn.changes;
}
