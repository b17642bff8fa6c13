-- The parts in the slots so far were run.
use Rattle.std.proofs.Common.{◌≡◌, ◌+◌, ◌≤◌, length, vec_len}
use Rattle.std.specs.Prelude.{vec_capacity}
use Rattle.part_steps.specs.declared.bundles.TheConstants.{SLOTS}
use Rattle.part_steps.specs.Workspaces.{rooms}
use Rattle.part_steps.specs.Waiting.{IsEmptyFrom, IsEmptyBelow, waiting_sum}
use Rattle.part_steps.specs.Together.{RunsSome, outputs_at, instructions_at}
use Rattle.part_steps.specs.Known.{Knows}
use Rattle.part_steps.proofs.evaluation.run_all.Given as goal

abbrev pub invariant-loop-place : goal.invariant-loop-place
invariant-loop-place g l = record {
  runs : RunsSome l.joining l.dense.codes.items l.dense.nodes.items l.state l.fn.workspace.bundles l.workspace.bundles l.fn.workspace.changes.items l.workspace.changes.items;
  counted : length l.workspace.bundles ≡ SLOTS;
  inside : l.high ≤ SLOTS;
  below : IsEmptyBelow l.place l.workspace.bundles;
  from : IsEmptyFrom l.high l.workspace.bundles;
  room : vec_len l.workspace.changes + waiting_sum (outputs_at l.dense.codes.items) l.workspace.bundles ≤ vec_capacity l.workspace.changes;
  steps : l.steps + waiting_sum (instructions_at l.dense.codes.items) l.workspace.bundles
      ≤ l.fn.steps + waiting_sum (instructions_at l.dense.codes.items) l.fn.workspace.bundles;
  known : Knows l.dense.codes.items l.known.codes.items;
  done : l.workspace.done ≡ l.fn.workspace.done;
  rooms : rooms l.workspace ≡ rooms l.fn.workspace;
}
