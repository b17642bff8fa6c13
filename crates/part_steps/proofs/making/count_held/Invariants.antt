-- The parts with members so far are counted.
use Rattle.std.proofs.Common.{◌≡◌, take}
use Rattle.std.specs.Prelude.{count_by}
use Rattle.machine_parts.specs.Parts.{has_members}
use Rattle.part_steps.proofs.making.count_held.Given as goal

abbrev pub invariant-loop-part : goal.invariant-loop-part
invariant-loop-part l = l.count ≡ count_by has_members (take l.part-index l.parts)
