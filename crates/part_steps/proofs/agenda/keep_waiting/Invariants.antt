-- What waits is in the list still.
use Rattle.std.proofs.Common.{ℕ, ◌<◌, ◌-◌, All, length, vec_len}
use Rattle.std.specs.Prelude.{Contains}
use Rattle.machine_parts.specs.Marking.{IsMarked}
use Rattle.part_steps.proofs.agenda.keep_waiting.Given as goal

abbrev pub invariant-loop-place : goal.invariant-loop-place
invariant-loop-place l = record {
  inside : All (λ k. k < length l.waits) l.list.items;
  all : (k : ℕ) → IsMarked l.waits k → Contains l.fn.list.items k → Contains l.list.items k;
}

abbrev pub decreases-loop-place : goal.decreases-loop-place
decreases-loop-place l = vec_len l.list - l.place
