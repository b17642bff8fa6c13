-- What is listed at the first nodes is marked.
use Rattle.std.proofs.Common.{◌≡◌, length}
use Rattle.wave_dump.proofs.MarkingLemmas.{MarkedFirst}
use Rattle.wave_dump.proofs.marking.mark_changed.Given as goal

abbrev pub invariant-loop-at : goal.invariant-loop-at
invariant-loop-at g l = record {
  first : MarkedFirst l.lists (g.M.Moved.changed l.moved) l.at l.marked.items;
  end : l.at-end ≡ length (g.M.Moved.changed l.moved);
}
