-- The switch changes: both its ends are touched.
use Rattle.std.proofs.Common.{◌≢◌, sym, ◌∙◌}
use Rattle.switch_paths.specs.Switching.{state_by}
use Rattle.vicinity.proofs.TouchLemmas.{Wakes-turns, apart_states}
use Rattle.vicinity.proofs.touching.touch_at.Goals as goal

pub returns : goal.returns
returns c =
    let kind = c.in-Some.switch.kind in
    let apart = apart_states c.switch_state.result c.switch_state-2.result (sym c.eq.ensures ∙ c.if-eq.false) in
    let differs : state_by kind c.args.now ≢ state_by kind c.args.was =
    λ e. apart (c.switch_state.ensures ∙ (sym e ∙ sym c.switch_state-2.ensures)) in
    Wakes-turns c.args.graph.now c.args.was c.args.now c.args.place c.in-Some.switch (sym c.switch_there.ensures.value ∙ c.in-Some.is) differs c.args.touched.now
    c.wake.new.awake c.wake-2.new.awake c.wake.ensures c.wake-2.ensures
