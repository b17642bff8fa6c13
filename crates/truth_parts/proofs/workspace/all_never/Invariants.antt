-- So many truths so far, all of them the maker's.
use Rattle.std.proofs.Common.{◌≡◌, ◌≤◌, length, All}
use Rattle.std.specs.Prelude.{vec_capacity}
use Rattle.truth_parts.proofs.workspace.all_never.Given as goal

abbrev pub invariant-loop : goal.invariant-loop
invariant-loop g l = record {
  count : length l.list.items ≡ l.counter;
  has : All (g.T.Truths.has l.truths) l.list.items;
  room : l.fn.count ≤ vec_capacity l.list;
}
