-- Each of the two additions adds so much to all that was added.
use Rattle.std.proofs.Common.{◌≡◌, ◌+◌, ap, ◌∙◌, arith}
use Rattle.sim_read.specs.Capacitances.{all_added}
use Rattle.sim_read.proofs.SumLemmas.{all_added-with_more}
use Rattle.sim_read.proofs.sums.Sums.add_both.Goals as goal

pub add-requires-then-ne : goal.add-requires-then-ne
add-requires-then-ne c =
    let one : all_added c.add.new.self ≡ all_added c.args.self.now + c.args.more =
    ap all_added c.in_ok-add.ensures.ok ∙ all_added-with_more c.args.self.now c.args.first.now c.args.more in
    omega arith

pub returns-in_err-add-2-clause-bound : goal.returns-in_err-add-2-clause-bound
returns-in_err-add-2-clause-bound c =
    let one : all_added c.add.new.self ≡ all_added c.args.self.now + c.args.more =
    ap all_added c.in_ok-add.ensures.ok ∙ all_added-with_more c.args.self.now c.args.first.now c.args.more in
    let same : all_added c.add-then-ne.new.self ≡ all_added c.add.new.self = ap all_added c.in_err-add-2.ensures.err in
    omega arith

pub returns-in_ok-add-2-clause-bound : goal.returns-in_ok-add-2-clause-bound
returns-in_ok-add-2-clause-bound c =
    let one : all_added c.add.new.self ≡ all_added c.args.self.now + c.args.more =
    ap all_added c.in_ok-add.ensures.ok ∙ all_added-with_more c.args.self.now c.args.first.now c.args.more in
    let two : all_added c.add-then-ne.new.self ≡ all_added c.add.new.self + c.args.more =
    ap all_added c.in_ok-add-2.ensures.ok ∙ all_added-with_more c.add.new.self c.args.second.now c.args.more in
    omega arith

pub returns-else-ne-clause-bound : goal.returns-else-ne-clause-bound
returns-else-ne-clause-bound c =
    let one : all_added c.add.new.self ≡ all_added c.args.self.now + c.args.more =
    ap all_added c.in_ok-add.ensures.ok ∙ all_added-with_more c.args.self.now c.args.first.now c.args.more in
    omega arith
