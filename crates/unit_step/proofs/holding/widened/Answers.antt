-- Where such groups are known there is room for a change of each node.
use Rattle.std.proofs.Common.{◌≡◌, ℕ, ◌≤◌, Option, None, Some, false, arith}
use Rattle.std.specs.Prelude.{IfSome, is_some, vec_capacity}
use Rattle.vicinity.specs.Wides.{WideData}
use Rattle.wide_groups.specs.Staying.{GrowsIn}
use Rattle.unit_step.proofs.holding.widened.Goals as goal

none_grows : (count : ℕ) (wide : Option WideData) → is_some wide ≡ false → GrowsIn count wide None
none_grows count None is = tt
none_grows count (Some wide) is = absurd cc

if_some : (X : Type 0) (o : Option X) (P : Type 0) → P → IfSome o (λ _. P)
if_some X None P holds = tt
if_some X (Some x) P holds = holds

pub returns-then-is_none-clause-grows : goal.returns-then-is_none-clause-grows
returns-then-is_none-clause-grows c = none_grows c.args.count c.args.known (rw c.if-is_none.true at c.is_none.ensures)

pub returns-clause-room : goal.returns-clause-room
returns-clause-room c =
    let room : c.args.count ≤ vec_capacity c.reserve.new.self = omega (arith, c.in_ok-reserve.ensures.ok) in
    if_some WideData c.in_ok-wide.wide _ room
