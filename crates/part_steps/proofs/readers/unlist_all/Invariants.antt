-- The parts so far are taken off.
use Rattle.machine_parts.specs.Readers.{AreOffTo}
use Rattle.part_steps.proofs.readers.unlist_all.Given as goal

abbrev pub invariant-loop-place : goal.invariant-loop-place
invariant-loop-place l = AreOffTo l.slots l.fresh l.place l.fn.lists l.lists
