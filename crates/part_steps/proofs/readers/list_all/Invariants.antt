-- The parts so far are listed.
use Rattle.machine_parts.specs.Readers.{AreListedTo}
use Rattle.part_steps.proofs.readers.list_all.Given as goal

abbrev pub invariant-loop-place : goal.invariant-loop-place
invariant-loop-place l = AreListedTo l.slots l.fresh l.place l.fn.lists l.lists
