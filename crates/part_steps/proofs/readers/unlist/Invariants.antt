-- The part is taken off the lists of the nodes so far.
use Rattle.std.proofs.Common.{take}
use Rattle.machine_parts.specs.Readers.{Unlists}
use Rattle.part_steps.proofs.readers.unlist.Given as goal

abbrev pub invariant-loop-read : goal.invariant-loop-read
invariant-loop-read l = Unlists l.k (take l.read l.nodes) l.fn.lists l.lists
