-- Nor has one part more.
use Rattle.std.proofs.Common.{◌≤◌, take, subst, arith}
use Rattle.std.proofs.lemmas.List.Elements.{All-more, All-weaker}
use Rattle.machine_parts.specs.declared.part.MachinePart.{MachinePart}
use Rattle.part_lists.proofs.lists.most_members.Goals as goal

pub loop-part-preserved : goal.loop-part-preserved
loop-part-preserved c =
    let parts = c.args.parts.now in
    let i = c.loop-part.part-index in
    let most = c.max-most.result in
    let up : c.loop-part.most ≤ most = omega (arith, c.max-most.ensures) in
    let here : c.part-item.result.members ≤ most = omega (arith, c.max-most.ensures) in
    All-more (λ (one : MachinePart). one.members ≤ most) parts i c.part-item.result c.loop-part-test.true
    (All-weaker (λ (one : MachinePart). one.members ≤ c.loop-part.most) (λ (one : MachinePart). one.members ≤ most) (λ one fits. omega (arith, fits, up)) (take i parts)
    c.loop-part.invariant)
    (subst (λ (one : MachinePart). one.members ≤ most) c.part-item.is here)
