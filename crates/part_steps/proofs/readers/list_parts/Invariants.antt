-- The parts so far are listed as readers of the nodes that they read.
use Rattle.std.proofs.Common.{length}
use Rattle.machine_parts.specs.Readers.{AreListed}
use Rattle.part_steps.proofs.readers.list_parts.Given as goal

abbrev pub invariant-loop-k : goal.invariant-loop-k
invariant-loop-k l = AreListed l.parts (length l.fn.lists) l.k l.lists
