-- One place more.
use Rattle.std.proofs.Common.{◌∙◌, arith}
use Rattle.std.proofs.lemmas.List.{take_all}
use Rattle.vicinity.proofs.LiveListsLemmas.{TurnsGate-start, TurnsGate-more}
use Rattle.vicinity.proofs.live_lists.turn_gate.Goals as goal

pub loop-place-init : goal.loop-place-init
loop-place-init c = TurnsGate-start c.args.graph.now c.args.gate c.args.was c.args.now c.args.ends.now

pub turn_one-requires : goal.turn_one-requires
turn_one-requires c = c.loop-place.invariant.count ∙ c.requires

pub loop-place-preserved : goal.loop-place-preserved
loop-place-preserved c =
    TurnsGate-more c.args.graph.now c.args.gate c.args.was c.args.now c.args.places.now c.loop-place.place-index c.loop-place-test.true
    c.args.ends.now c.loop-place.ends c.turn_one.new.ends c.loop-place.invariant c.turn_one.ensures

pub returns : goal.returns
returns c = rw (take_all c.loop-place.place-index c.args.places.now (omega arith)) at c.loop-place.invariant
