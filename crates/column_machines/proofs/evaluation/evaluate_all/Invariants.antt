-- What was evaluated so far is done, and for the rest there is room.
use Rattle.std.proofs.Common.{◌≡◌, ◌+◌, ◌≤◌, length, vec_len}
use Rattle.std.specs.Prelude.{vec_capacity}
use Rattle.machine_parts.specs.Marking.{count_marked, marked_sum, members_of}
use Rattle.column_machines.specs.Evaluating.{rooms, IsEven, Evaluated}
use Rattle.column_machines.proofs.evaluation.evaluate_all.Given as goal

abbrev pub invariant-loop-k : goal.invariant-loop-k
invariant-loop-k l = record {
  evaluated : Evaluated l.joining l.fn.machine.parts l.used l.hi l.lo l.fn.agenda l.agenda l.workspace.changes.items l.workspace.done.items;
  machine : l.machine ≡ l.fn.machine;
  count : length l.agenda ≡ length l.fn.agenda;
  rooms : rooms l.workspace ≡ rooms l.fn.workspace;
  rails : IsEven l.workspace;
  changes_room : vec_len l.workspace.changes + marked_sum members_of l.fn.machine.parts l.agenda ≤ vec_capacity l.workspace.changes;
  done_room : vec_len l.workspace.done + count_marked l.agenda ≤ vec_capacity l.workspace.done;
}

abbrev pub decreases-loop-k : goal.decreases-loop-k
decreases-loop-k l = count_marked l.agenda
