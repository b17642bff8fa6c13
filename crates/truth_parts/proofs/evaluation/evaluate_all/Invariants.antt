-- What was taken so far is evaluated, and for the rest there is room.
use Rattle.std.proofs.Common.{◌≡◌, ◌+◌, ◌≤◌, All, vec_len}
use Rattle.std.specs.Prelude.{vec_capacity}
use Rattle.truth_columns.specs.Columns.{AreKept}
use Rattle.machine_parts.specs.Marking.{count_marked, marked_sum, members_of}
use Rattle.truth_parts.specs.Noting.{IsOf}
use Rattle.truth_parts.specs.Evaluating.{rooms, AreTaken, Evaluated, IsWorkspace}
use Rattle.truth_parts.proofs.evaluation.evaluate_all.Given as goal

abbrev pub invariant-loop-k : goal.invariant-loop-k
invariant-loop-k g l = record {
  kept : AreKept (g.T.Truths.columns l.fn.truths) (g.T.Truths.has l.fn.truths) (g.T.Truths.holds l.fn.truths)
      (g.T.Truths.columns l.truths) (g.T.Truths.has l.truths) (g.T.Truths.holds l.truths);
  bound : g.T.Truths.bound l.truths ≡ g.T.Truths.bound l.fn.truths;
  taken : AreTaken l.fn.agenda l.agenda l.workspace.done.items;
  evaluated : Evaluated l.joining l.parts (g.T.Truths.columns l.truths) (g.T.Truths.holds l.truths) l.hi l.lo l.workspace.changes.items
      l.workspace.done.items;
  own : All (IsOf (g.T.Truths.has l.truths)) l.workspace.changes.items;
  rooms : rooms l.workspace ≡ rooms l.fn.workspace;
  workspace : IsWorkspace (g.T.Truths.has l.truths) l.workspace;
  changes_room : vec_len l.workspace.changes + marked_sum members_of l.parts l.agenda ≤ vec_capacity l.workspace.changes;
  done_room : vec_len l.workspace.done + count_marked l.agenda ≤ vec_capacity l.workspace.done;
}

abbrev pub decreases-loop-k : goal.decreases-loop-k
decreases-loop-k g l = count_marked l.agenda
