-- The slots so far are empty, with room.
use Rattle.std.proofs.Common.{◌≡◌, ◌≤◌, [], length}
use Rattle.std.specs.Prelude.{All, vec_capacity}
use Rattle.part_steps.specs.declared.bundles.Bundle.{Bundle}
use Rattle.part_steps.specs.declared.bundles.TheConstants.{SLOTS, COLUMNS}
use Rattle.part_steps.proofs.bundles.Bundles.new.Given as goal

abbrev pub invariant-loop : goal.invariant-loop
invariant-loop l = record {
  count : length l.slots.items ≡ l.counter;
  empty : All (λ (bundle : Bundle). bundle.starts.items ≡ []) l.slots.items;
  room : All (λ (bundle : Bundle). COLUMNS ≤ vec_capacity bundle.starts) l.slots.items;
  space : SLOTS ≤ vec_capacity l.slots;
}
