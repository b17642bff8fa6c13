-- One part more is listed, or all are taken off again.
use Rattle.std.proofs.Common.{◌≡◌, ◌<◌, ℕ, List, true, get_or, length, Some, inl, inr, sym, refl, subst, arith, rules}
use Rattle.std.specs.Prelude.{slice_get, Contains}
use Rattle.std.specs.Result.{is_ok}
use Rattle.std.proofs.lemmas.Option.{slice_get_read, slice_get_within}
use Rattle.machine_parts.specs.declared.part.MachinePart.{MachinePart}
use Rattle.machine_parts.specs.Readers.{readers_of, ListsSome}
use Rattle.machine_parts.proofs.MakingLemmas.{at_on_ok}
use Rattle.part_steps.proofs.ReadersLemmas.{AreListedTo-none, AreListedTo-more, HaveSameReaders-off, not_yet_listed, reads_below, slot_read}
use Rattle.part_steps.proofs.readers.list_all.Goals as goal

pub loop-place-init : goal.loop-place-init
loop-place-init c = AreListedTo-none c.args.slots.now c.args.fresh.now c.args.lists.now c.requires.each

-- the next part is there
part_there : (fresh : List MachinePart) (i : ℕ) (part : MachinePart) → i < length fresh → part ≡ get_or fresh i part → slice_get fresh i ≡ Some part
part_there fresh i part inside is = slice_get_read fresh (length fresh) i part refl inside is

pub list_part-requires-clause-below : goal.list_part-requires-clause-below
list_part-requires-clause-below c =
    reads_below c.args.fresh.now (length c.args.lists.now) (length c.loop-place.lists) c.loop-place.place c.index-fresh-place.result c.deref.result.now
    c.requires.below c.loop-place-test.true c.index-fresh-place.is c.deref.ensures.value (omega (arith, c.loop-place.auto.lists))

pub list_part-requires-clause-none : goal.list_part-requires-clause-none
list_part-requires-clause-none c =
    not_yet_listed c.args.slots.now c.args.fresh.now c.loop-place.place _ c.index-fresh-place.result
    (slot_read c.args.slots.now c.loop-place.place _ c.loop-place-test.true c.requires.counted)
    (part_there c.args.fresh.now c.loop-place.place c.index-fresh-place.result c.loop-place-test.true c.index-fresh-place.is)
    c.args.lists.now c.loop-place.lists c.loop-place.lists c.requires.once c.requires.unlisted c.loop-place.invariant

pub list_part-requires-clause-each : goal.list_part-requires-clause-each
list_part-requires-clause-each c = c.loop-place.invariant.each

pub unlist_all-requires-clause-below : goal.unlist_all-requires-clause-below
unlist_all-requires-clause-below c = λ i d inside j e within. omega (arith, c.requires.below i d inside j e within, c.list_part.auto.lists, c.loop-place.auto.lists)

pub unlist_all-requires-clause-each : goal.unlist_all-requires-clause-each
unlist_all-requires-clause-each c = c.list_part.ensures.some.each

pub returns-then-is_err-clause-err : goal.returns-then-is_err-clause-err
returns-then-is_err-clause-err c =
    let k = get_or c.args.slots.now c.loop-place.place 0 in
    let part = c.index-fresh-place.result in
    let some = subst (λ nodes. ListsSome k nodes c.loop-place.lists c.list_part.new.lists) c.deref.ensures.value c.list_part.ensures.some in
    HaveSameReaders-off c.args.slots.now c.args.fresh.now c.loop-place.place k part
    (slot_read c.args.slots.now c.loop-place.place _ c.loop-place-test.true c.requires.counted)
    (part_there c.args.fresh.now c.loop-place.place part c.loop-place-test.true c.index-fresh-place.is)
    c.args.lists.now c.loop-place.lists c.list_part.new.lists c.unlist_all.new.lists c.requires.unlisted c.requires.counted c.loop-place.invariant some
    c.unlist_all.ensures

pub returns-then-is_err-clause-each : goal.returns-then-is_err-clause-each
returns-then-is_err-clause-each c = c.unlist_all.ensures.each

pub loop-place-preserved : goal.loop-place-preserved
loop-place-preserved c =
    let part = c.index-fresh-place.result in
    let k = get_or c.args.slots.now c.loop-place.place 0 in
    let ok : is_ok c.list_part.result ≡ true = search rules in
    let listed : (node : ℕ) → Contains part.reads.items node → Contains (readers_of c.list_part.new.lists node) k = λ node reads.
    at_on_ok _ c.list_part.result c.list_part.ensures.ok ok node (subst (λ nodes. Contains nodes node) (sym c.deref.ensures.value) reads) in
    AreListedTo-more c.args.slots.now c.args.fresh.now c.loop-place.place k part
    (slot_read c.args.slots.now c.loop-place.place _ c.loop-place-test.true c.requires.counted)
    (part_there c.args.fresh.now c.loop-place.place part c.loop-place-test.true c.index-fresh-place.is)
    c.args.lists.now c.loop-place.lists c.list_part.new.lists c.loop-place.invariant
    (subst (λ nodes. ListsSome k nodes c.loop-place.lists c.list_part.new.lists) c.deref.ensures.value c.list_part.ensures.some) listed

pub returns-clause-ok : goal.returns-clause-ok
returns-clause-ok c =
    let listed = c.loop-place.invariant in
    record {
      count = listed.count;
      stays = listed.stays;
      listed = λ node k how.
          listed.listed node k how (omega (arith, slice_get_within c.args.fresh.now how.i how.part how.there, c.loop-place-test.false));
      only = λ node l there.
          elim (listed.only node l there) [
            | inl before ↦ inl before
            | inr (how, below) ↦ inr how
          ];
    }

pub returns-clause-each : goal.returns-clause-each
returns-clause-each c = c.loop-place.invariant.each
