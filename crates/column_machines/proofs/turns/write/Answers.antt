-- One node more is written.
use Rattle.std.proofs.Common.{◌≡◌, ◌<◌, ℕ, List, length, take, get_or, sym, subst, ◌∙◌, arith}
use Rattle.std.specs.Prelude.{Contains}
use Rattle.std.proofs.lemmas.List.{take_all}
use Rattle.ternary.specs.Tern.{may_one, may_zero}
use Rattle.column_machines.proofs.TurnLemmas.{WritesAt-none, WritesAt-as, WritesRailAt-more}
use Rattle.column_machines.proofs.turns.write.Goals as goal

pub loop-node-init : goal.loop-node-init
loop-node-init c = WritesAt-none c.args.column c.args.state.now c.args.hi.now c.args.lo.now

pub loop-node-preserved : goal.loop-node-preserved
loop-node-preserved c =
    let so_far = c.loop-node.invariant in
    let list = c.nodes_in-nodes.result.now in
    let i = c.loop-node.node-index in
    let below : get_or list i 0 < length c.args.hi.now = omega (arith, c.nodes_in-nodes.ensures.within i 0 c.loop-node-test.true, c.requires.inside) in
    record {
      ones = WritesRailAt-more may_one c.args.column list i c.loop-node-test.true c.args.state.now c.args.hi.now c.loop-node.hi c.with_bit.result so_far.ones
          (omega (arith, below, so_far.ones.counted)) (c.with_bit.ensures.here ∙ c.may_one.ensures) c.with_bit.ensures.other;
      zeros = WritesRailAt-more may_zero c.args.column list i c.loop-node-test.true c.args.state.now c.args.lo.now c.loop-node.lo c.with_bit-in-loop-node.result so_far.zeros
          (omega (arith, below, so_far.zeros.counted, c.requires.even)) (c.with_bit-in-loop-node.ensures.here ∙ c.may_zero.ensures)
          c.with_bit-in-loop-node.ensures.other;
    }

pub returns : goal.returns
returns c =
    let list = c.nodes_in-nodes.result.now in
    let i = c.loop-node.node-index in
    let all : take i list ≡ c.args.these.now.list = take_all i list (omega (arith, c.loop-node-test.false)) ∙ c.nodes_in-nodes.ensures.value in
    WritesAt-as c.args.column c.args.state.now c.args.hi.now c.args.lo.now c.loop-node.hi c.loop-node.lo
    (λ node is. subst (λ (xs : List ℕ). Contains xs node) (sym all) (c.lists_what_is_in_it.ensures.listed node is))
    (λ node there. c.lists_what_is_in_it.ensures.only node (subst (λ (xs : List ℕ). Contains xs node) all there)) c.loop-node.invariant
