-- One part more has its seat, and its text's number the place of its code.
use Rattle.std.proofs.Common.{◌≡◌, ◌+◌, Vec, Option, Global, [], ◌∷◌, ◌++◌, take, length, vec_len, refl, sym, ap, subst, ◌∙◌, arith}
use Rattle.std.specs.Prelude.{slice_get, Some, vec_capacity}
use Rattle.std.proofs.lemmas.List.{take_more, take_all, with_items_is}
use Rattle.std.proofs.lemmas.Option.{slice_get_read}
use Rattle.part_steps.specs.declared.dense.Seat.{Seat}
use Rattle.part_steps.specs.Dense.{HaveCodes, ArePlaces, IsPartNumbered, AreSeatsOf}
use Rattle.part_steps.proofs.DenseLemmas.{AreSeatsOf-more, AreSeatsOf-push, Knows-grown, numbered_part}
use Rattle.unit_step.proofs.body.dense_of.Goals as goal

pub loop-k-preserved : goal.loop-k-preserved
loop-k-preserved c =
    let parts = c.args.parts.now in
    let numbers = c.args.uses.now.numbers in
    let k = c.loop-k.k in
    let part = c.index-parts-k.result in
    let old = c.loop-k.dense in
    let new = c.seat_shared.new.self in
    let so_far = c.loop-k.invariant in
    let grows = c.seat_shared.ensures.more in
    let part_at : slice_get parts k ≡ Some part = slice_get_read parts (length parts) k part refl c.loop-k-test.true c.index-parts-k.is in
    let numbered : (codes : HaveCodes numbers parts) → IsPartNumbered codes.codes c.number_of.result part =
    λ codes. numbered_part numbers parts codes k part c.number_of.result part_at (omega (arith, c.loop-k-test.true, c.requires.numbered)) c.number_of.ensures.value in
    let places : (codes : HaveCodes numbers parts) → ArePlaces codes.codes old.codes.items c.deref_mut.result.now =
    λ codes. subst (ArePlaces codes.codes old.codes.items) (sym c.deref_mut.ensures.value) (so_far.places codes) in
    let final = with_items_is c.loop-k.places c.seat_shared.new.places (omega (arith, c.seat_shared.auto.places, c.deref_mut.ensures.len)) in
    let passed : take (k + 1) parts ≡ take k parts ++ part ∷ [] =
    take_more parts k part c.loop-k-test.true ∙ ap (λ one. take k parts ++ one ∷ []) (sym c.index-parts-k.is) in
    let coded = c.requires.coded in
    let seat = c.in_ok-seat.ensures.seat coded.codes (numbered coded) (places coded) in
    let stay = AreSeatsOf-more (take k parts) old new old.seats.items grows so_far.seats in
    let pushed = AreSeatsOf-push (take k parts) part new.codes.items new.nodes.items old.seats.items c.in_ok-seat.seat stay seat in
    let items : c.push_reserved.new.self.items ≡ old.seats.items ++ c.in_ok-seat.seat ∷ [] =
    c.push_reserved.ensures.items ∙ ap (λ (list : Vec (Option Seat) Global). list.items ++ c.in_ok-seat.seat ∷ []) grows.seats in
    record {
      count = omega (arith, c.push_reserved.ensures.len, so_far.count, ap (λ (list : Vec (Option Seat) Global). vec_len list) grows.seats);
      room = omega (arith, c.push_reserved.ensures.capacity, so_far.room, ap (λ (list : Vec (Option Seat) Global). vec_capacity list) grows.seats);
      places_counted = omega (arith, ap length final, c.seat_shared.auto.places, c.deref_mut.ensures.len, so_far.places_counted, c.loop-k.places.ok.0);
      places = λ codes. subst (ArePlaces codes.codes new.codes.items) (sym final) (c.seat_shared.ensures.places codes.codes (numbered codes) (places codes));
      known = Knows-grown old new grows so_far.known;
      seats = rw (passed, items) pushed;
    }

pub returns : goal.returns
returns c =
    let dense = c.loop-k.dense in
    record {
      seats = subst (λ list. AreSeatsOf list dense.codes.items dense.nodes.items dense.seats.items)
          (take_all c.loop-k.k c.args.parts.now (omega (arith, c.loop-k-test.false))) c.loop-k.invariant.seats;
      known = c.loop-k.invariant.known;
    }
