-- One part more is kept, or may go back.
use Rattle.std.proofs.Common.{◌<◌, length, sym, ap, subst, ◌∙◌, arith}
use Rattle.vicinity.specs.NodeSets.{NodeSetData}
use Rattle.beside.specs.Laws.{GoBack}
use Rattle.beside.proofs.ReturningLemmas.{Returns-start, Returns-more, goes_back_all}
use Rattle.beside.proofs.placing.go_back.Goals as goal

pub loop-place-init : goal.loop-place-init
loop-place-init c = record {
  so_far = Returns-start c.args.touched.now.inside c.args.machine.now c.args.good.now c.args.apart.now.list c.clear.new.self.inside c.clear.ensures.empty;
  counted = c.clear.ensures.count;
}

pub at-requires : goal.at-requires
at-requires c = omega (arith, c.loop-place-test.true, c.len-count.ensures.value)

pub keep_apart-requires-clause-part : goal.keep_apart-requires-clause-part
keep_apart-requires-clause-part c = omega (arith, c.at.ensures.within, c.requires.counted)

pub keep_apart-requires-clause-kept : goal.keep_apart-requires-clause-kept
keep_apart-requires-clause-kept c = omega (arith, c.loop-place.invariant.counted, c.requires.room)

pub loop-place-preserved : goal.loop-place-preserved
loop-place-preserved c =
    let inside : c.loop-place.place < length c.args.apart.now.list = omega (arith, c.loop-place-test.true, c.len-count.ensures.value) in
    record {
      so_far = Returns-more c.args.touched.now.inside c.args.machine.now c.args.good.now c.args.apart.now.list c.loop-place.place c.at.result
          c.loop-place.room.inside c.keep_apart.new.kept.inside inside c.at.ensures.value c.loop-place.invariant.so_far c.keep_apart.ensures;
      counted = c.keep_apart.ensures.count ∙ c.loop-place.invariant.counted;
    }

pub returns-clause-back : goal.returns-clause-back
returns-clause-back c =
    subst (λ (set : NodeSetData). GoBack c.args.touched.now.inside c.args.machine.now c.args.good.now c.args.apart.now.inside set.inside) (sym c.swap.ensures.x_after)
    (goes_back_all c.args.touched.now.inside c.args.machine.now c.args.good.now c.args.apart.now.inside c.args.apart.now.list c.loop-place.place
    c.loop-place.room.inside (omega (arith, c.loop-place-test.false, c.len-count.ensures.value)) c.len-count.ensures.listed c.len-count.ensures.only
    (omega (arith, c.loop-place.invariant.counted, c.requires.room, c.requires.counted)) c.loop-place.invariant.so_far)

pub returns-clause-room : goal.returns-clause-room
returns-clause-room c =
    ap (λ (set : NodeSetData). length set.inside) c.swap.ensures.y_after ∙ (c.requires.counted ∙ sym c.requires.room)
