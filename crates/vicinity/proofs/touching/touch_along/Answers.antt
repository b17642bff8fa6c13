-- One place more.
use Rattle.std.proofs.Common.{arith}
use Rattle.std.proofs.lemmas.List.{take_all}
use Rattle.vicinity.specs.Stepping.{TurnsAt}
use Rattle.vicinity.proofs.TouchLemmas.{Wakes-each}
use Rattle.vicinity.proofs.touching.touch_along.Goals as goal

pub loop-place-preserved : goal.loop-place-preserved
loop-place-preserved c =
    Wakes-each c.args.graph.now (TurnsAt c.args.graph.now c.args.was c.args.now) c.args.places.now c.loop-place.place-index c.loop-place-test.true
    c.args.touched.now c.loop-place.touched c.touch_at.new.touched c.loop-place.invariant c.touch_at.ensures

pub returns : goal.returns
returns c = rw (take_all c.loop-place.place-index c.args.places.now (omega arith)) at c.loop-place.invariant
