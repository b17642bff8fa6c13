-- One place more.
use Rattle.std.proofs.Common.{◌∙◌, arith}
use Rattle.std.proofs.lemmas.List.{take_all}
use Rattle.vicinity.proofs.FloodLemmas.{Wakes-none, Wakes-place}
use Rattle.vicinity.proofs.placing.wake_along.Goals as goal

pub loop-place-init : goal.loop-place-init
loop-place-init c = record {
  wakes = Wakes-none c.args.graph.now _ c.args.awake.now (λ node leads storage. absurd (omega (arith, leads.1.1)));
}

pub look-requires-clause-nodes : goal.look-requires-clause-nodes
look-requires-clause-nodes c = c.loop-place.invariant.wakes.count ∙ c.requires.nodes

pub loop-place-preserved : goal.loop-place-preserved
loop-place-preserved c = record {
  wakes = Wakes-place c.args.graph.now c.args.state.now c.args.node c.args.places.now c.loop-place.place-index c.loop-place-test.true
      c.args.awake.now c.loop-place.awake c.look.new.awake c.loop-place.invariant.wakes c.look.ensures;
}

pub returns : goal.returns
returns c = record { wakes = rw (take_all c.loop-place.place-index c.args.places.now (omega arith)) at c.loop-place.invariant.wakes }
