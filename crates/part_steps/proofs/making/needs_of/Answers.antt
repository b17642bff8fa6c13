-- There is room for one part more.
use Rattle.std.proofs.Common.{◌≤◌, take, ap, subst, arith}
use Rattle.std.proofs.lemmas.List.Elements.{All-more, All-weaker}
use Rattle.std.proofs.lemmas.List.Sums.{sum_by_more}
use Rattle.std.specs.List.{sum_by}
use Rattle.std.proofs.lemmas.List.{take_all}
use Rattle.machine_parts.specs.Marking.{members_of}
use Rattle.machine_parts.specs.Making.{IsCodeRoom}
use Rattle.part_steps.proofs.making.needs_of.Goals as goal

pub loop-part-preserved : goal.loop-part-preserved
loop-part-preserved c =
    let parts = c.args.parts.now in
    let i = c.loop-part.part-index in
    let part = c.part-item.result in
    let test = c.loop-part-test.true in
    let is = c.part-item.is in
    let before = c.loop-part.needs in
    let so_far = c.loop-part.invariant in
    let values_up : before.values ≤ c.max.result = omega (arith, c.max.ensures) in
    let value_here : c.in_ok-values_of.field-0 ≤ c.max.result = omega (arith, c.max.ensures) in
    let sum = sum_by_more members_of parts i part test in
    let last = ap members_of is in
    record {
      values = All-more (IsCodeRoom c.max.result) parts i part test
          (All-weaker (IsCodeRoom before.values) (IsCodeRoom c.max.result) (λ one room code has. omega (arith, room code has, values_up)) (take i parts)
          so_far.values)
          (subst (IsCodeRoom c.max.result) is (λ code has. omega (arith, c.in_ok-values_of.ensures.some code has, value_here)));
      changes = omega (arith, sum, last, so_far.changes, c.in_ok-needs.ensures.1);
    }

pub returns-clause-changes : goal.returns-clause-changes
returns-clause-changes c =
    let all = take_all c.loop-part.part-index c.args.parts.now (omega (arith, c.loop-part-test.false)) in
    omega (arith, ap (sum_by members_of) all, c.loop-part.invariant.changes)
