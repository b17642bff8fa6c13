use Rattle.std.proofs.Common.{◌∙◌, ℕ, List, ap, arith}
use Rattle.script_lang.specs.declared.value.Value.{Value}
use Rattle.fault_sim.specs.Masks.{set_value}
use Rattle.fault_sim.proofs.MaskLemmas.{changed_more}
use Rattle.fault_sim.proofs.masks.masked_assignments.Goals as goal

pub loop-name-preserved : goal.loop-name-preserved
loop-name-preserved c =
    let mask = c.args.mask.now in
    let change : List ℕ × Value → List ℕ × Value = λ item. (item.0, set_value mask.circuit.now mask.vectors.now mask.stuck item) in
    let item = c.loop-name-item.result in
    let named = c.in_ok-from_slice.ensures ∙ c.items-in-loop-name.ensures in
    let given = c.in_ok-value.ensures ∙ ap (λ name. set_value mask.circuit.now mask.vectors.now mask.stuck (name, item.1)) c.items.ensures in
    changed_more change c.items-name-items.result.now c.loop-name.left c.push.new.self c.loop-name.name-index item
    (c.in_ok-from_slice.field-0, c.in_ok-value.value) (omega arith) c.loop-name-item.is c.loop-name.invariant c.in_ok-push.ensures.ok
    (ap (λ name. (name, c.in_ok-value.value)) named ∙ ap (λ value. (item.0, value)) given)
