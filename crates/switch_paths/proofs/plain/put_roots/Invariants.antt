-- The nodes so far have their entries.
use Rattle.std.proofs.Common.{◌≡◌, ℕ, ◌<◌, slice_index}
use Rattle.switch_paths.specs.Switching.{state_at}
use Rattle.switch_paths.specs.Plain.{root_entry}
use Rattle.switch_paths.proofs.plain.put_roots.Given as goal

abbrev pub invariant-loop-node : goal.invariant-loop-node
invariant-loop-node l =
    (n : ℕ) → n < l.node → slice_index l.table n ≡ root_entry l.one (state_at l.state n) (slice_index l.levels n)
    (slice_index l.best n)
