-- One node more is marked; and a sort only moves numbers, and of equal ones one stays.
use Rattle.std.proofs.Common.{arith}
use Rattle.std.proofs.lemmas.List.Filters.{dedup_is}
use Rattle.std.proofs.lemmas.List.Kept.{Contains-dedup_nat}
use Rattle.std.proofs.lemmas.List.Sorted.{Contains-permutation}
use Rattle.std.proofs.lemmas.Map.Keys.{IsStrictlyIncreasing-dedup}
use Rattle.wave_dump.proofs.MarkingLemmas.{first-none, first-more, first-all}
use Rattle.wave_dump.proofs.marking.mark_changed.Goals as goal

pub loop-at-init : goal.loop-at-init
loop-at-init g c = record {
  first = first-none c.args.lists.now (g.M.Moved.changed c.args.moved.now) c.clear.new.self.items;
  end = c.change_count-at-end.ensures;
}

pub loop-at-preserved : goal.loop-at-preserved
loop-at-preserved g c = record {
  first = first-more c.args.lists.now (g.M.Moved.changed c.args.moved.now) c.loop-at.marked.items c.mark.new.marked.items c.loop-at.at
      c.changed_node.result c.changed_node.ensures c.in_ok-mark.ensures c.loop-at.invariant.first;
  end = c.change_count-at-end.ensures;
}

pub returns : goal.returns
returns g c =
    let is = dedup_is _ _ _ c.dedup.ensures.filtered in
    let moved = c.sort_unstable.ensures.permutation in
    record {
      ascending = rw is (IsStrictlyIncreasing-dedup _ c.sort_unstable.ensures.sorted);
      there = λ node number has listed. rw is (Contains-dedup_nat _ number (Contains-permutation _ _ number moved
          (first-all c.args.lists.now (g.M.Moved.changed c.args.moved.now) c.loop-at.marked.items c.loop-at.at node number
          (omega (arith, c.loop-at-test.false, c.loop-at.invariant.end)) c.loop-at.invariant.first has listed)));
    }
