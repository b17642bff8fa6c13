-- One part more is taken off.
use Rattle.std.proofs.Common.{get_or, length, refl, subst, arith}
use Rattle.std.proofs.lemmas.Option.{slice_get_read}
use Rattle.machine_parts.specs.Readers.{Unlists}
use Rattle.part_steps.proofs.ReadersLemmas.{AreOffTo-more, AreOffTo-none, reads_below, slot_read}
use Rattle.part_steps.proofs.readers.unlist_all.Goals as goal

pub loop-place-init : goal.loop-place-init
loop-place-init c = AreOffTo-none c.args.slots.now c.args.fresh.now c.args.lists.now c.requires.each

pub unlist-requires-clause-below : goal.unlist-requires-clause-below
unlist-requires-clause-below c =
    reads_below c.args.fresh.now (length c.args.lists.now) (length c.loop-place.lists) c.loop-place.place c.index-fresh-place.result c.deref.result.now
    c.requires.below c.loop-place-test.true c.index-fresh-place.is c.deref.ensures.value (omega (arith, c.loop-place.auto.lists))

pub unlist-requires-clause-each : goal.unlist-requires-clause-each
unlist-requires-clause-each c = c.loop-place.invariant.each

pub loop-place-preserved : goal.loop-place-preserved
loop-place-preserved c =
    let i = c.loop-place.place in
    let k = get_or c.args.slots.now i 0 in
    let part = c.index-fresh-place.result in
    let there = slice_get_read c.args.fresh.now (length c.args.fresh.now) i part refl c.loop-place-test.true c.index-fresh-place.is in
    AreOffTo-more c.args.slots.now c.args.fresh.now i k part (slot_read c.args.slots.now i _ c.loop-place-test.true c.requires.counted) there
    c.args.lists.now c.loop-place.lists c.unlist.new.lists c.loop-place.invariant
    (subst (λ nodes. Unlists k nodes c.loop-place.lists c.unlist.new.lists) c.deref.ensures.value c.unlist.ensures)
