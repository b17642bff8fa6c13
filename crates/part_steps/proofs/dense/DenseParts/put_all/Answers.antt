-- The seats are put if the parts are.
use Rattle.std.proofs.Common.{List, Option, refl, sym, subst, arith}
use Rattle.std.specs.Vec.{with_items}
use Rattle.std.proofs.lemmas.List.{with_items_is}
use Rattle.part_steps.specs.declared.dense.Seat.{Seat}
use Rattle.machine_parts.specs.Putting.{Puts}
use Rattle.part_steps.proofs.DenseLemmas.{seats_put}
use Rattle.part_steps.proofs.dense.DenseParts.put_all.Goals as goal

pub put_in-requires-clause-inside : goal.put_in-requires-clause-inside
put_in-requires-clause-inside c = rw c.deref_mut.ensures.value c.requires.inside

pub returns : goal.returns
returns c =
    let dense = c.args.self.now in
    let slots = c.args.slots.now in
    let seats = c.args.seats.items in
    let all = c.put_in.new.all in
    let final = with_items_is dense.seats all (omega (arith, c.put_in.auto.all, c.deref_mut.ensures.len)) in
    let puts = subst (λ (list : List (Option Seat)). Puts slots seats list all) c.deref_mut.ensures.value c.put_in.ensures in
    seats_put slots dense (record dense { seats = with_items dense.seats all }) seats refl refl refl
    (subst (λ (list : List (Option Seat)). Puts slots seats dense.seats.items list) (sym final) puts)
