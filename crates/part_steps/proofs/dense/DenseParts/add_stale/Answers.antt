-- A part without code has no seat.
use Rattle.std.proofs.Common.{None}
use Rattle.part_steps.proofs.DenseLemmas.{AreSeatsOf-push, IsSeatOf-none}
use Rattle.part_steps.proofs.dense.DenseParts.add_stale.Goals as goal

pub returns : goal.returns
returns c parts part none of =
    let dense = c.args.self.now in
    record {
      seats = rw c.push_reserved.ensures.items
          (AreSeatsOf-push parts part dense.codes.items dense.nodes.items dense.seats.items None of.seats
          (IsSeatOf-none part dense.codes.items dense.nodes.items none));
      known = of.known;
    }
