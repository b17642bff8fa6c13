-- At the start each node is uneven.
use Rattle.std.proofs.Common.{◌≡◌, false, length, ap, ◌∙◌, arith}
use Rattle.std.proofs.lemmas.List.{length-replicate}
use Rattle.column_machines.proofs.TurnLemmas.{IsTurning-start}
use Rattle.column_machines.proofs.turns.TurnMachine.of.Goals as goal

pub invariant_of-result : goal.invariant_of-result
invariant_of-result c =
    let count = length c.args.hi.now in
    let uneven : length c.in_ok-uneven.uneven.inside ≡ count = ap length c.in_ok-uneven.ensures.inside ∙ length-replicate count false in
    let spare : length c.in_ok-spare.spare.inside ≡ count = ap length c.in_ok-spare.ensures.inside ∙ length-replicate count false in
    rw (c.in_ok-highs.ensures.items, c.in_ok-lows.ensures.items)
    (IsTurning-start c.used_columns.result c.put_each.new.set.inside c.in_ok-spare.spare.inside
    (record { columns = c.args.columns; machine = c.args.machine; hi = c.args.hi.now; lo = c.args.lo.now }) c.requires.is c.used_columns.ensures
    (c.put_each.ensures.count ∙ uneven) spare (λ node inside. c.put_each.ensures.each node (omega (arith, inside, uneven))))
