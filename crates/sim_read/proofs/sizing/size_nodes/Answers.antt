-- One node more has its level after the sizing.
use Rattle.std.proofs.Common.{◌≡◌, ◌<◌, length, ap, subst, ◌∙◌, arith}
use Rattle.std.proofs.lemmas.List.{get_or_read}
use Rattle.switch_paths.specs.Graphs.{nodes}
use Rattle.sim_read.specs.Drafts.{DraftData, capacitance}
use Rattle.sim_read.proofs.SizingLemmas.{IsSizedUpTo, sized_all, sized_more}
use Rattle.sim_read.proofs.sizing.size_nodes.Goals as goal

pub loop-node-preserved : goal.loop-node-preserved
loop-node-preserved c =
    let d : DraftData =
    record { circuit = c.args.circuit.now; thresholds = c.args.thresholds.now; sums = c.args.sums.now; marks = c.args.marks.now } in
    let node = c.loop-node.node in
    let items = c.in_ok-capacitances.capacitances.items in
    let end : c.nodes-node-end.result ≡ nodes c.args.circuit.now.graph = c.nodes-node-end.ensures ∙ ap nodes c.graph.ensures.value in
    let inside : node < nodes c.args.circuit.now.graph = omega arith in
    let within : node < length items = omega (arith, c.in_ok-capacitances.ensures.count) in
    let by_caps : c.index.result.now ≡ capacitance d node =
    get_or_read items node c.index.result.now within c.index.ensures 0 ∙ c.in_ok-capacitances.ensures.sums node inside in
    sized_more d node c.index.result.now c.loop-node.circuit c.size_node.new.circuit c.loop-node.invariant inside by_caps c.size_node.ensures

pub returns : goal.returns
returns c =
    let d : DraftData =
    record { circuit = c.args.circuit.now; thresholds = c.args.thresholds.now; sums = c.args.sums.now; marks = c.args.marks.now } in
    let end : c.nodes-node-end.result ≡ nodes c.args.circuit.now.graph = c.nodes-node-end.ensures ∙ ap nodes c.graph.ensures.value in
    let all : c.loop-node.node ≡ nodes c.args.circuit.now.graph = omega (arith, c.loop-node.auto.node-end, c.loop-node-test.false) in
    sized_all d c.loop-node.circuit (subst (λ n. IsSizedUpTo d n c.loop-node.circuit) all c.loop-node.invariant)
