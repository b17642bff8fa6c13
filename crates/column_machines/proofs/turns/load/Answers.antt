-- One node more is loaded.
use Rattle.std.proofs.Common.{◌≡◌, ◌<◌, ℕ, List, length, take, get_or, sym, subst, ◌∙◌, arith}
use Rattle.std.specs.Prelude.{Contains}
use Rattle.std.proofs.lemmas.List.{take_all}
use Rattle.switch_paths.specs.Switching.{state_at}
use Rattle.column_machines.specs.Columns.{column_states}
use Rattle.column_machines.proofs.ColumnLemmas.{column_states-at}
use Rattle.column_machines.proofs.TurnLemmas.{IsLoaded-none, IsLoaded-more, IsLoaded-as}
use Rattle.column_machines.proofs.turns.load.Goals as goal

pub loop-node-init : goal.loop-node-init
loop-node-init c = IsLoaded-none c.args.graph.now c.args.column c.args.hi.now c.args.lo.now c.args.machine.now

pub loop-node-preserved : goal.loop-node-preserved
loop-node-preserved c =
    let hi = c.args.hi.now in
    let lo = c.args.lo.now in
    let column = c.args.column in
    let node = get_or c.nodes_in-nodes.result.now c.loop-node.node-index 0 in
    let below : node < length hi = omega (arith, c.nodes_in-nodes.ensures.within c.loop-node.node-index 0 c.loop-node-test.true, c.requires.inside) in
    let is : c.state_in.result ≡ state_at (column_states column hi lo) node =
    c.state_in.ensures ∙ sym (column_states-at column hi lo c.requires.even node below) in
    IsLoaded-more c.args.graph.now column c.nodes_in-nodes.result.now c.loop-node.node-index c.loop-node-test.true hi lo c.args.machine.now c.loop-node.machine
    c.put.new.machine c.state_in.result c.loop-node.invariant (omega (arith, below, c.loop-node.invariant.nodes, c.requires.counted)) is c.put.ensures.nodes
    c.put.ensures.here c.put.ensures.rails c.put.ensures.fits

pub returns : goal.returns
returns c =
    let list = c.nodes_in-nodes.result.now in
    let i = c.loop-node.node-index in
    let all : take i list ≡ c.args.these.now.list = take_all i list (omega (arith, c.loop-node-test.false)) ∙ c.nodes_in-nodes.ensures.value in
    IsLoaded-as c.args.graph.now c.args.column c.args.hi.now c.args.lo.now c.args.machine.now c.loop-node.machine
    (λ node is. subst (λ (xs : List ℕ). Contains xs node) (sym all) (c.lists_what_is_in_it.ensures.listed node is))
    (λ node there. c.lists_what_is_in_it.ensures.only node (subst (λ (xs : List ℕ). Contains xs node) all there)) c.loop-node.invariant
