-- The parts up to this one are there, and those that came are marked.
use Rattle.std.proofs.Common.{◌≡◌, ℕ, ◌-◌, ◌<◌, ◌≤◌, length}
use Rattle.machine_parts.specs.Marking.{IsMarked}
use Rattle.part_lists.proofs.agenda.add_marked.Given as goal

abbrev pub invariant-loop-part : goal.invariant-loop-part
invariant-loop-part l = record {
  count : length l.agenda ≡ l._part;
  low : length l.fn.agenda ≤ l._part;
  high : l._part - length l.fn.agenda ≤ l.parts - length l.fn.agenda;
  stays : (k : ℕ) → IsMarked l.fn.agenda k → IsMarked l.agenda k;
  later : (k : ℕ) → length l.fn.agenda ≤ k → k < length l.agenda → IsMarked l.agenda k;
}
