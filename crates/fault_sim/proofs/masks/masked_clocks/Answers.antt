use Rattle.std.proofs.Common.{◌∙◌, ℕ, List, map, ap, arith}
use Rattle.ternary.specs.declared.tern.Tern.{Tern}
use Rattle.fault_sim.specs.Masks.{state_for}
use Rattle.fault_sim.proofs.MaskLemmas.{changed_more}
use Rattle.fault_sim.proofs.masks.masked_clocks.Goals as goal

pub loop-name-preserved : goal.loop-name-preserved
loop-name-preserved c =
    let change : List ℕ × List Tern → List ℕ × List Tern = λ item. (item.0, map (state_for c.args.mask.now.circuit.now c.args.mask.now.stuck item.0) item.1) in
    let item = c.loop-name-item.result in
    let named = c.in_ok-from_slice.ensures ∙ c.items-in-loop-name.ensures in
    let given = c.in_ok-states.ensures ∙ ap (λ name. map (state_for c.args.mask.now.circuit.now c.args.mask.now.stuck name) item.1) c.items.ensures in
    changed_more change c.items-name-items.result.now c.loop-name.left c.push.new.self c.loop-name.name-index c.loop-name-item.result
    (c.in_ok-from_slice.field-0, c.in_ok-states.states) (omega arith) c.loop-name-item.is c.loop-name.invariant c.in_ok-push.ensures.ok
    (ap (λ name. (name, c.in_ok-states.states)) named ∙ ap (λ states. (item.0, states)) given)
