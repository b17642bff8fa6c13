-- Those so far are in their slots.
use Rattle.std.proofs.Common.{◌≡◌, ◌+◌, take, length}
use Rattle.machine_parts.specs.Putting.{Puts}
use Rattle.part_steps.proofs.putting.put_in.Given as goal

abbrev pub invariant-loop-one : goal.invariant-loop-one
invariant-loop-one g l = record {
  place : l.place ≡ length l.yielded;
  left : length l.yielded + length l.one-iterator.rest.items ≡ length l.slots;
  puts : Puts (take l.place l.slots) l.yielded l.fn.all l.all;
}
