-- The members so far have the class.
use Rattle.std.proofs.Common.{◌≡◌, ◌+◌, take}
use Rattle.channel_groups.specs.Writing.{Marks}
use Rattle.channel_groups.proofs.held.mark.Given as goal

abbrev pub invariant-loop-member : goal.invariant-loop-member
invariant-loop-member g l = record {
  marks : Marks (take l.member-index l.members) l.id l.initial.classes.items l.classes.items;
  steps : l.steps ≡ l.initial.steps + l.member-index;
}
