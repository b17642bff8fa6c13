-- The groups so far are put in, and the others are left.
use Rattle.std.proofs.Common.{◌≡◌, ◌+◌, ◌++◌, length}
use Rattle.std.specs.List.{sum_by}
use Rattle.channel_groups.specs.Writing.{Puts}
use Rattle.channel_groups.proofs.held.put_all.Given as goal

abbrev pub invariant-loop-group : goal.invariant-loop-group
invariant-loop-group g l = record {
  order : l.yielded ++ l.group-iterator.rest.items ≡ l.fn.fresh.items;
  puts : Puts l.yielded l.initial.held.classes.items l.held.classes.items l.initial.held.slots.items l.held.slots.items;
  steps : l.steps ≡ l.initial.steps + sum_by (λ group. length group.members) l.yielded;
}
