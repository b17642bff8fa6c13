-- The pieces of the line, in order.
use Rattle.std.proofs.Common.{◌≡◌, ap, refl, List, ℕ, Option}
use Rattle.std.specs.Prelude.{unwrap_or, []}
use Rattle.switch_paths.specs.Graphs.{GraphData}
use Rattle.switch_paths.specs.Walks.{stand_of}
use Rattle.switch_paths.specs.Path.{LivePath, at_root}
use Rattle.switch_paths.proofs.PathLemmas.{Leads-unique}
use Rattle.netlist.specs.Circuits.{called}
use Rattle.why_path.proofs.LineLemmas.{AreTold-leads}
use Rattle.why_path.proofs.line.walk_line.Goals as goal

pub returns : goal.returns
returns c =
    let circuit = c.args.circuit.now in
    let g : GraphData = circuit.graph in
    let state = c.args.state.now in
    let root = c.args.walk.now.root in
    let hops = c.args.walk.now.hops.items in
    let path : LivePath g state root hops (stand_of c.in-Some.facts) = rw c.graph.ensures.value at c.in-Some.ensures in
    let told = c.in_ok-append_hops.ensures in
    let same : told.0 ≡ stand_of c.in-Some.facts =
    Leads-unique g state hops (at_root g root) told.0 (stand_of c.in-Some.facts)
    (AreTold-leads circuit state hops (at_root g root) told.0 told.1 told.2) path.leads in
    let name : called circuit root ≡ c.name_of.result.now = ap (λ (o : Option (List ℕ)). unwrap_or o []) c.name_of.ensures.name in
    record {
      there = told.0;
      hops = told.1;
      told = told.2;
      text = rw (
        same,
        name,
        c.in_ok-extend_from_slice-7.ensures.items,
        told.3,
        c.in_ok-extend_from_slice-6.ensures.items,
        c.in_ok-extend_from_slice-5.ensures.items,
        c.in_ok-extend_from_slice-4.ensures.items,
        c.sort_word.ensures,
        c.in_ok-extend_from_slice-3.ensures.items,
        c.in_ok-append_number.ensures,
        c.in_ok-extend_from_slice-2.ensures.items,
        c.in_ok-extend_from_slice.ensures.items,
        c.rail_word.ensures,
        c.new-line.ensures.items,
        c.from.ensures,
      ) refl;
    }
