-- The parts so far are held, and as many lists are left as parts.
use Rattle.std.proofs.Common.{◌≡◌, ◌++◌, map, length}
use Rattle.std.specs.Prelude.{zip}
use Rattle.machine_parts.specs.Making.{held}
use Rattle.part_steps.proofs.making.parts_with_reads.Given as goal

abbrev pub invariant-loop-part : goal.invariant-loop-part
invariant-loop-part l = record {
  made : map held (zip l.fn.parts.items l.fn.reads.items) ≡ l.made.items ++ map held (zip l.part-iterator.a.rest.items l.part-iterator.b.rest.items);
  left : length l.part-iterator.b.rest.items ≡ length l.part-iterator.a.rest.items;
}
