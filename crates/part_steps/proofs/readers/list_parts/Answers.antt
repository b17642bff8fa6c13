-- One part more is listed as a reader.
use Rattle.std.proofs.Common.{ℕ, length, sym, subst, arith}
use Rattle.std.specs.Prelude.{Contains}
use Rattle.machine_parts.specs.Parts.{Stands}
use Rattle.machine_parts.specs.Readers.{readers_of, ListsSome}
use Rattle.part_steps.proofs.ReadersLemmas.{AreListed-more, AreListed-none, reads_below}
use Rattle.part_steps.proofs.readers.list_parts.Goals as goal

pub loop-k-init : goal.loop-k-init
loop-k-init c = AreListed-none c.args.parts.now c.args.lists.now c.requires.none c.requires.each

pub list_part-requires-clause-below : goal.list_part-requires-clause-below
list_part-requires-clause-below c =
    reads_below c.args.parts.now (length c.args.lists.now) (length c.loop-k.lists) c.loop-k.k c.index-parts-k.result c.deref.result.now
    c.requires.below c.loop-k-test.true c.index-parts-k.is c.deref.ensures.value (omega (arith, c.loop-k.auto.lists))

pub list_part-requires-clause-none : goal.list_part-requires-clause-none
list_part-requires-clause-none c = λ node there. absurd (omega (arith, c.loop-k.invariant.below node c.loop-k.k there))

pub list_part-requires-clause-each : goal.list_part-requires-clause-each
list_part-requires-clause-each c = c.loop-k.invariant.each

pub loop-k-preserved : goal.loop-k-preserved
loop-k-preserved c =
    let k = c.loop-k.k in
    let part = c.index-parts-k.result in
    let old = c.loop-k.lists in
    let new = c.list_part.new.lists in
    let stands : Stands c.args.parts.now k part = record { inside = c.loop-k-test.true; here = sym c.index-parts-k.is } in
    let some : ListsSome k part.reads.items old new = subst (λ nodes. ListsSome k nodes old new) c.deref.ensures.value c.list_part.ensures.some in
    let listed : (node : ℕ) → Contains part.reads.items node → Contains (readers_of new node) k = λ node reads.
    c.in_ok-list_part.ensures.ok node (subst (λ nodes. Contains nodes node) (sym c.deref.ensures.value) reads) in
    AreListed-more c.args.parts.now k part stands (length c.args.lists.now) old new some listed c.loop-k.invariant

pub returns : goal.returns
returns c =
    let so_far = c.loop-k.invariant in
    record {
      counted = so_far.counted;
      readers = λ node k below reads. so_far.readers node k (omega (arith, below, c.loop-k-test.false)) reads;
      reads = so_far.reads;
      below = λ node k there.
          let reads = so_far.reads node k there in
          reads.stands.inside;
      each = so_far.each;
    }
