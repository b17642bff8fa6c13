-- The owners of the nodes so far.
use Rattle.std.proofs.Common.{◌≡◌, map, take, Some, None}
use Rattle.std.specs.Prelude.{slice_index_or}
use Rattle.unit_step.proofs.waking.owners_of.Given as goal

abbrev pub invariant-loop-id : goal.invariant-loop-id
invariant-loop-id l = map Some l.slots.items ≡ map (λ id. slice_index_or l.owners id.node None) (take l.id-index l.ids)
