-- One hop more.
use Rattle.std.proofs.Common.{◌+◌, ◌++◌, ◌∷◌, [], get_or}
use Rattle.switch_paths.specs.Walks.{stand_of}
use Rattle.switch_paths.specs.Path.{Hop, at_root}
use Rattle.netlist.specs.Circuits.{called}
use Rattle.why_path.proofs.BlockingLemmas.{led, led_on}
use Rattle.why_path.proofs.LineLemmas.{hops_text-more, AreTold-next}
use Rattle.why_path.proofs.line.append_hops.Goals as goal

pub unreachable-requires : goal.unreachable-requires
unreachable-requires c =
    let leads = c.loop-place.invariant.leads in
    let next = led c.args.circuit.now.graph c.args.state.now (stand_of c.loop-place.facts) leads.0 c.deref-place-items.result.now
    c.loop-place.place-index c.loop-place-test.true leads.1 in
    let none = rw c.graph-graph.ensures.value at c.in_default.ensures.facts in
    none next.0 next.1

pub loop-place-preserved : goal.loop-place-preserved
loop-place-preserved c =
    let circuit = c.args.circuit.now in
    let state = c.args.state.now in
    let hops = c.deref-place-items.result.now in
    let k = c.loop-place.place-index in
    let here = stand_of c.loop-place.facts in
    let next = stand_of c.in-Some.next in
    let hop : Hop circuit.graph state here (get_or hops k 0) next = rw c.graph-graph.ensures.value at c.in-Some.ensures.facts in
    let so_far = c.loop-place.invariant.told in
    let rest = c.loop-place.invariant.leads in
    record {
      told = (
        so_far.0 ++ (get_or hops k 0 + 1, called circuit next.node) ∷ [],
        AreTold-next circuit state hops k (at_root circuit.graph c.args.walk.now.root) here next so_far.0 c.loop-place-test.true
            so_far.1 hop,
        hops_text-more c.args.line.now.items c.loop-place.line.items c.append_hop.new.line.items so_far.0 (get_or hops k 0 + 1)
            (called circuit next.node) so_far.2 c.in_ok-append_hop.ensures,
      );
      leads = (rest.0, led_on circuit.graph state here next rest.0 hops k c.loop-place-test.true rest.1 hop);
    }
