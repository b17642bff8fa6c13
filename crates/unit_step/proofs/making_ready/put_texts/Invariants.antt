-- The parts so far have their texts.
use Rattle.std.proofs.Common.{◌≡◌, map, take, Some}
use Rattle.machine_parts.specs.Putting.{Puts}
use Rattle.unit_step.proofs.making_ready.put_texts.Given as goal

abbrev pub invariant-loop-place : goal.invariant-loop-place
invariant-loop-place l = record {
  known : l.uses.known ≡ l.fn.uses.known;
  puts : Puts (take l.place l.slots) (map Some (take l.place l.numbers)) l.fn.uses.numbers l.uses.numbers;
}
