-- One place more.
use Rattle.std.proofs.Common.{◌≡◌, take, arith}
use Rattle.std.proofs.lemmas.List.{take_all}
use Rattle.circuit_lint.proofs.StartLemmas.{finds-more}
use Rattle.circuit_lint.proofs.starts.first_start.Goals as goal

pub loop-place-preserved : goal.loop-place-preserved
loop-place-preserved c =
    rw c.sooner-first.ensures
    (finds-more c.args.graph.now c.args.distance.now c.args.places.now c.loop-place.place-index c.loop-place-test.true c.loop-place.first c.start_at.result
    c.loop-place.invariant
    (record {
      place = λ start is. rw is at c.start_at.ensures.place;
      is = λ start is. rw is at c.start_at.ensures.is;
      all = c.start_at.ensures.all;
    }))

pub returns : goal.returns
returns c =
    let all : take c.loop-place.place-index c.args.places.now ≡ c.args.places.now = take_all c.loop-place.place-index c.args.places.now (omega arith) in
    rw all at c.loop-place.invariant
