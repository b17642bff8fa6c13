-- Each place can be lowered in turn, and after the last one the code is that of the formulas.
use Rattle.std.proofs.Common.{◌*◌, get_or, take, nat_eq, ap, arith}
use Rattle.std.specs.Map.{lookup}
use Rattle.std.proofs.lemmas.List.{take_more}
use Rattle.std.proofs.lemmas.List.Elements.{Contains-get_or}
use Rattle.indexmap.specs.IndexMap.{get}
use Rattle.formula_code.specs.Lowering.{AreLowered}
use Rattle.formula_code.proofs.PlaceLemmas.{AreReaching-inside}
use Rattle.formula_code.proofs.LoweringLemmas.{AreLowered-none}
use Rattle.formula_code.proofs.LinearLemmas.{AreLowered-all, operand_before, variable_below, pairs_noted, operations_exactly, program, means}
use Rattle.formula_code.proofs.linear.linearise.Goals.{In_ok-outputs}
use Rattle.formula_code.proofs.linear.linearise.Goals as goal

pub loop-place-init : goal.loop-place-init
loop-place-init c =
    AreLowered-none c.args.pool.now c.args.inputs c.new.result.items _ c.new.ensures.items (λ k. ap (lookup (nat_eq k)) c.new-2.ensures.empty)

pub lower-requires-clause-inside : goal.lower-requires-clause-inside
lower-requires-clause-inside c =
    let seen = c.deref-place-items.result.now in
    let each = rw (← c.deref-place-items.ensures.value) at c.in_ok-places.ensures.each in
    let index = c.loop-place.place-index in
    AreReaching-inside c.args.pool.now c.args.outs.now (get_or seen index 0) c.requires.formulas
    ((each (get_or seen index 0)).0 (Contains-get_or seen index 0 (omega arith)))

pub lower-requires-clause-operands : goal.lower-requires-clause-operands
lower-requires-clause-operands c = λ k before operand.
    let seen = c.deref-place-items.result.now in
    let rises = rw (← c.deref-place-items.ensures.value) at c.in_ok-places.ensures.ascending in
    let each = rw (← c.deref-place-items.ensures.value) at c.in_ok-places.ensures.each in
    c.loop-place.invariant.each k
    (operand_before c.args.pool.now c.args.outs.now seen rises each c.loop-place.place-index k (omega arith) before operand)

pub loop-place-preserved : goal.loop-place-preserved
loop-place-preserved c =
    let seen = c.deref-place-items.result.now in
    let rises = rw (← c.deref-place-items.ensures.value) at c.in_ok-places.ensures.ascending in
    let each = rw (← c.deref-place-items.ensures.value) at c.in_ok-places.ensures.each in
    let index = c.loop-place.place-index in
    let more = take_more seen index 0 (omega arith) in
    rw more
    (c.in_ok-lower.ensures c.args.inputs (take index seen)
    (λ v is. variable_below c.args.pool.now c.args.outs.now seen rises each (2 * c.args.inputs) (get_or seen index 0) v c.requires.variables
    (Contains-get_or seen index 0 (omega arith)) is)
    c.loop-place.invariant)

pub outputs-requires : goal.outputs-requires
outputs-requires c =
    let places = c.in_ok-places.places.items in
    let noted = get nat_eq c.loop-place.lowered.operands in
    let all = AreLowered-all c.args.pool.now c.args.inputs places c.deref-place-items.result.now c.loop-place.place-index _ noted
    c.deref-place-items.ensures.value (omega arith) c.loop-place.invariant in
    pairs_noted c.args.pool.now c.args.outs.now places c.in_ok-places.ensures.ascending c.in_ok-places.ensures.each noted all.each

-- all places are lowered
lowered_all : (c : In_ok-outputs) → AreLowered c.args.pool.now c.args.inputs c.in_ok-places.places.items
    c.loop-place.lowered.instructions.items (get nat_eq c.loop-place.lowered.operands)
lowered_all c =
    AreLowered-all c.args.pool.now c.args.inputs c.in_ok-places.places.items c.deref-place-items.result.now c.loop-place.place-index _ _
    c.deref-place-items.ensures.value (omega arith) c.loop-place.invariant

pub new-requires-3 : goal.new-requires-3
new-requires-3 c =
    let all = lowered_all (goal.at.new-requires-3 c).In_ok-outputs in
    rw c.in_ok-outputs.ensures
    (program c.args.pool.now c.args.outs.now c.in_ok-places.places.items c.in_ok-places.ensures.ascending c.in_ok-places.ensures.each c.args.inputs
    c.loop-place.lowered.instructions.items _ all)

pub returns-clause-means : goal.returns-clause-means
returns-clause-means c =
    let all = lowered_all (goal.at.returns-clause-means c).In_ok-outputs in
    rw (c.in_ok-code.ensures, c.in_ok-outputs.ensures)
    (means c.args.pool.now c.args.outs.now c.in_ok-places.places.items c.in_ok-places.ensures.ascending c.in_ok-places.ensures.each c.args.inputs
    c.loop-place.lowered.instructions.items _ all)

pub returns-clause-exact : goal.returns-clause-exact
returns-clause-exact c =
    let all = lowered_all (goal.at.returns-clause-exact c).In_ok-outputs in
    rw c.in_ok-code.ensures
    (operations_exactly c.args.pool.now c.args.outs.now c.in_ok-places.places.items c.in_ok-places.ensures.ascending c.in_ok-places.ensures.each c.args.inputs
    c.loop-place.lowered.instructions.items _ all)
