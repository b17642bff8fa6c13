use Rattle.std.proofs.Common.{◌∙◌, sym}
use Rattle.fault_sim.proofs.MaskLemmas.{charges_none, charges_one}
use Rattle.fault_sim.proofs.masks.put_other.Goals as goal

pub returns-then-charges_stuck : goal.returns-then-charges_stuck
returns-then-charges_stuck c =
    let mask = c.args.mask.now in
    charges_none mask.circuit.now mask.vectors.now mask.stuck (c.args.name.now, c.args.value.now) c.args.left.now
    (sym c.charges_stuck.ensures ∙ c.if-charges_stuck.true)

pub returns : goal.returns
returns c =
    let mask = c.args.mask.now in
    charges_one mask.circuit.now mask.vectors.now mask.stuck (c.args.name.now, c.args.value.now) c.args.left.now c.push.new.self
    c.in_ok-from_slice.field-0 c.in_ok-value.value (sym c.charges_stuck.ensures ∙ c.if-charges_stuck.false) c.in_ok-from_slice.ensures
    c.in_ok-value.ensures c.in_ok-push.ensures.ok
