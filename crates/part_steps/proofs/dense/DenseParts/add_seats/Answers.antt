-- One part more has its seat.
use Rattle.std.proofs.Common.{◌≡◌, ◌+◌, [], ◌∷◌, ◌++◌, take, sym, ap, ◌∙◌, arith}
use Rattle.std.proofs.lemmas.List.{take_more}
use Rattle.part_steps.proofs.DenseLemmas.{grows_then, AreSeatsOf-more, AreSeatsOf-push}
use Rattle.part_steps.proofs.dense.DenseParts.add_seats.Goals as goal

pub loop-k-preserved : goal.loop-k-preserved
loop-k-preserved c =
    let parts = c.args.parts.now in
    let k = c.loop-k.k in
    let part = c.index-parts-k.result in
    let old = c.loop-k.self in
    let new = c.seat_numbered.new.self in
    let so_far = c.loop-k.invariant in
    let passed : take (k + 1) parts ≡ take k parts ++ part ∷ [] =
    take_more parts k part c.loop-k-test.true ∙ ap (λ one. take k parts ++ one ∷ []) (sym c.index-parts-k.is) in
    let stay = AreSeatsOf-more (take k parts) old new c.loop-k.seats.items c.seat_numbered.ensures.more so_far.seats in
    let pushed = AreSeatsOf-push (take k parts) part new.codes.items new.nodes.items c.loop-k.seats.items c.in_ok-seat.seat stay c.in_ok-seat.ensures.seat in
    record {
      more = grows_then c.args.self.now old new so_far.more c.seat_numbered.ensures.more;
      count = omega (arith, c.push_reserved.ensures.len, so_far.count);
      room = omega (arith, c.push_reserved.ensures.capacity, so_far.room);
      seats = rw (passed, c.push_reserved.ensures.items) pushed;
    }

pub returns-in_err-seat-clause-more : goal.returns-in_err-seat-clause-more
returns-in_err-seat-clause-more c =
    grows_then c.args.self.now c.loop-k.self c.seat_numbered.new.self c.loop-k.invariant.more c.seat_numbered.ensures.more
