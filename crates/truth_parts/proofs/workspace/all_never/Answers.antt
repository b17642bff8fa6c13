-- One truth of the maker more.
use Rattle.std.proofs.Common.{length, ap, arith}
use Rattle.std.proofs.lemmas.List.Elements.{All-nil, All-push}
use Rattle.truth_parts.proofs.workspace.all_never.Goals as goal

pub loop-init : goal.loop-init
loop-init g c = record {
  count = ap length c.in_ok-list.ensures.items;
  has = rw c.in_ok-list.ensures.items (All-nil (g.T.Truths.has c.args.truths.now));
  room = c.in_ok-list.ensures.capacity;
}

pub loop-preserved : goal.loop-preserved
loop-preserved g c =
    let so_far = c.loop.invariant in
    record {
      count = omega (arith, c.push_reserved.ensures.len, so_far.count);
      has = rw c.push_reserved.ensures.items (All-push (g.T.Truths.has c.args.truths.now) c.loop.list.items c.constant-never.result so_far.has c.constant-never.ensures.has);
      room = omega (arith, c.push_reserved.ensures.capacity, so_far.room);
    }
