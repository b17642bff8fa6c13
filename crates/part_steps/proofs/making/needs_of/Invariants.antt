-- There is room for the parts so far.
use Rattle.std.proofs.Common.{◌≡◌, take, All}
use Rattle.std.specs.List.{sum_by}
use Rattle.machine_parts.specs.Marking.{members_of}
use Rattle.machine_parts.specs.Making.{IsCodeRoom}
use Rattle.part_steps.proofs.making.needs_of.Given as goal

abbrev pub invariant-loop-part : goal.invariant-loop-part
invariant-loop-part l = record {
  values : All (IsCodeRoom l.needs.values) (take l.part-index l.parts);
  changes : sum_by members_of (take l.part-index l.parts) ≡ l.needs.changes;
}
