-- One place more.
use Rattle.std.proofs.Common.{◌≡◌, ◌<◌, length, take, refl, subst, arith}
use Rattle.std.proofs.lemmas.Bool.{OnTrue_at}
use Rattle.std.proofs.lemmas.List.{take_more_same}
use Rattle.run_beside.proofs.near.same_first.Goals as goal

pub loop-place-init : goal.loop-place-init
loop-place-init c = record { most = omega arith; same = refl }

pub is_same_at-requires-clause-list : goal.is_same_at-requires-clause-list
is_same_at-requires-clause-list c = omega (arith, c.loop-place-test.true, c.min-most.ensures)

pub is_same_at-requires-clause-other : goal.is_same_at-requires-clause-other
is_same_at-requires-clause-other c = omega (arith, c.loop-place-test.true, c.min-most.ensures)

pub loop-place-preserved : goal.loop-place-preserved
loop-place-preserved c =
    let list = c.args.list.now in
    let other = c.args.other.now in
    let i = c.loop-place.place in
    let in_list : i < length list = omega (arith, c.loop-place-test.true, c.min-most.ensures) in
    let in_other : i < length other = omega (arith, c.loop-place-test.true, c.min-most.ensures) in
    record {
      most = omega (arith, in_list);
      same = take_more_same list other i 0 in_list in_other c.loop-place.invariant.same
          (OnTrue_at c.if-not-is_same_at.false c.is_same_at.ensures);
    }

pub returns-then-not-is_same_at-clause-most : goal.returns-then-not-is_same_at-clause-most
returns-then-not-is_same_at-clause-most c = c.loop-place.invariant.most

pub returns-then-not-is_same_at-clause-same : goal.returns-then-not-is_same_at-clause-same
returns-then-not-is_same_at-clause-same c = c.loop-place.invariant.same

pub returns-clause-most : goal.returns-clause-most
returns-clause-most c = omega (arith, c.min-most.ensures)

pub returns-clause-same : goal.returns-clause-same
returns-clause-same c =
    let end : c.loop-place.place ≡ c.min-most.result = omega (arith, c.loop-place-test.false, c.loop-place.auto.place-end) in
    subst (λ n. take n c.args.list.now ≡ take n c.args.other.now) end c.loop-place.invariant.same
