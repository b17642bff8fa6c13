-- The places at the node's gate are all that change with it, and if there are none nothing does.
use Rattle.std.proofs.Common.{refl, arith}
use Rattle.std.proofs.lemmas.Bool.{OnFalse_at}
use Rattle.switch_paths.specs.Switching.{state_at}
use Rattle.vicinity.specs.Lists.{places_of}
use Rattle.vicinity.proofs.FloodLemmas.{Wakes-none}
use Rattle.vicinity.proofs.LiveListsLemmas.{AreListsOf-ungated}
use Rattle.vicinity.proofs.TouchLemmas.{Touches-one}
use Rattle.vicinity.proofs.touching.take_state.Goals as goal

pub returns-then-not-may_gate-clause-lists : goal.returns-then-not-may_gate-clause-lists
returns-then-not-may_gate-clause-lists c =
    AreListsOf-ungated c.args.graph.now c.args.node c.args.value c.args.state.now c.args.lists.now (omega (arith, c.requires.inside, c.requires.counted))
    c.requires.lists (OnFalse_at c.if-not-may_gate.true c.may_gate.ensures)

pub returns-then-not-may_gate-clause-touches : goal.returns-then-not-may_gate-clause-touches
returns-then-not-may_gate-clause-touches c =
    let none = OnFalse_at c.if-not-may_gate.true c.may_gate.ensures in
    Touches-one c.args.graph.now c.args.state.now c.args.node (state_at c.args.state.now c.args.node) c.args.value (places_of c.args.lists.now.gates c.args.node)
    c.args.touched.now c.args.touched.now (λ place. c.requires.lists.gated c.args.node place) (omega (arith, c.requires.inside, c.requires.counted)) refl
    (Wakes-none c.args.graph.now _ c.args.touched.now (λ n (place, there, turns) storage. absurd (omega (arith, there.1, none))))

pub returns-clause-touches : goal.returns-clause-touches
returns-clause-touches c =
    Touches-one c.args.graph.now c.args.state.now c.args.node _ c.args.value c.gated.result.now c.args.touched.now c.touch_along.new.touched
    (λ place. rw c.gated.ensures (c.turn.ensures.gated c.args.node place))
    (omega (arith, c.requires.inside, c.requires.counted)) refl c.touch_along.ensures
