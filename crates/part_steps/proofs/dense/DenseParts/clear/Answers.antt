-- A part without code has no seat.
use Rattle.part_steps.proofs.DenseLemmas.{AreSeatsOf-set, IsSeatOf-none}
use Rattle.std.proofs.Common.{None}
use Rattle.part_steps.proofs.dense.DenseParts.clear.Goals as goal

pub returns : goal.returns
returns c parts part none of =
    let dense = c.args.self.now in
    record {
      seats = AreSeatsOf-set parts c.args.k part dense.codes.items dense.nodes.items dense.seats.items None of.seats
          (IsSeatOf-none part dense.codes.items dense.nodes.items none);
      known = of.known;
    }
