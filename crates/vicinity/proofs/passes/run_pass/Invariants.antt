-- The nodes so far have started.
use Rattle.std.proofs.Common.{◌≡◌, ◌+◌, length, take}
use Rattle.vicinity.specs.Spreading.{AreStarted, sum_below, cost_at}
use Rattle.std.specs.Prelude.{slice_index}
use Rattle.vicinity.proofs.passes.run_pass.Given as goal

abbrev pub invariant-loop-place : goal.invariant-loop-place
invariant-loop-place g l = record {
  started : AreStarted l.by.pass l.by.graph.now l.by.state.now l.by.floor.now (take l.place l.by.awake.now.list) l.left.inside l.table;
  count : length l.table ≡ length l.fn.table;
  steps : l.steps ≡ l.fn.steps + sum_below (λ j. cost_at l.by.lists.now (slice_index l.by.awake.now.list j)) l.place;
  left : length l.left.inside ≡ length l.fn.left.inside;
}
