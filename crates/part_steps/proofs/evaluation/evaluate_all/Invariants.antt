-- What was evaluated so far is done but for the parts that wait, and for these and the rest there is room.
use Rattle.std.proofs.Common.{◌≡◌, ◌+◌, ◌≤◌, length, vec_len}
use Rattle.std.specs.Prelude.{vec_capacity}
use Rattle.part_steps.specs.declared.dense.Seat.{Seat}
use Rattle.machine_parts.specs.Marking.{count_marked, marked_sum, instructions_of, members_of}
use Rattle.part_steps.specs.Workspaces.{rooms}
use Rattle.part_steps.specs.Waiting.{Waits, waiting_sum}
use Rattle.part_steps.specs.Together.{CanRun, EvaluatedBut, outputs_at, instructions_at}
use Rattle.part_steps.specs.Known.{Knows}
use Rattle.part_steps.proofs.evaluation.evaluate_all.Given as goal

abbrev pub invariant-loop-k : goal.invariant-loop-k
invariant-loop-k g l = record {
  evaluated : EvaluatedBut l.joining l.parts l.state l.fn.agenda.waiting l.fn.agenda.marks l.agenda.marks l.dense.seats.items l.workspace.bundles
      l.workspace.changes.items l.workspace.done.items;
  all : (one : Seat) → Waits l.workspace.bundles one → CanRun (length l.state) (rooms l.fn.workspace) l.dense.codes.items l.dense.nodes.items one;
  known : Knows l.dense.codes.items l.known.codes.items;
  count : length l.agenda.marks ≡ length l.fn.agenda.marks;
  waiting : l.agenda.waiting ≡ l.fn.agenda.waiting;
  rooms : rooms l.workspace ≡ rooms l.fn.workspace;
  changes_room : vec_len l.workspace.changes + waiting_sum (outputs_at l.dense.codes.items) l.workspace.bundles
      + marked_sum members_of l.parts l.agenda.marks
      ≤ vec_capacity l.workspace.changes;
  done_room : vec_len l.workspace.done + count_marked l.agenda.marks ≤ vec_capacity l.workspace.done;
  steps : l.steps + waiting_sum (instructions_at l.dense.codes.items) l.workspace.bundles + marked_sum instructions_of l.parts l.agenda.marks
      ≤ l.fn.steps + marked_sum instructions_of l.parts l.fn.agenda.marks;
}

abbrev pub decreases-loop-k : goal.decreases-loop-k
decreases-loop-k g l = count_marked l.agenda.marks
