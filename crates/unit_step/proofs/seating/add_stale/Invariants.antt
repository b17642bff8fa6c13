-- The stale parts of the groups so far stand behind the others, and have no numbers.
use Rattle.std.proofs.Common.{◌≡◌, ◌≤◌, ◌++◌, None, length, take, replicate}
use Rattle.circuit_texts.specs.Choosing.{chosen}
use Rattle.machine_laws.specs.Seating.{AddsStale}
use Rattle.unit_step.proofs.seating.add_stale.Given as goal

abbrev pub invariant-loop-id : goal.invariant-loop-id
invariant-loop-id l = record {
  within : l.id-index ≤ length l.ids;
  adds : AddsStale (chosen l.groups.groups (take l.id-index l.ids)) l.fn.parts.items l.parts.items;
  known : l.uses.known ≡ l.fn.uses.known;
  numbers : l.uses.numbers ≡ l.fn.uses.numbers ++ replicate l.id-index None;
}
