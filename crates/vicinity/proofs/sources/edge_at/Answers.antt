-- If no arm leads to a node nothing comes; and what comes over one is what a path brings.
use Rattle.std.proofs.Common.{◌≡◌, min, inl, inr, sym, ◌∙◌, subst, arith}
use Rattle.strength_order.specs.declared.TheConstants.{INPUT_LEVEL}
use Rattle.switch_paths.specs.Switching.{state_at}
use Rattle.switch_paths.specs.Graphs.{level_of}
use Rattle.group_meaning.proofs.LinkLemmas.{Joins-sym}
use Rattle.vicinity.specs.Arms.{LeadsTo}
use Rattle.vicinity.specs.Entries.{IsWay, own_strength}
use Rattle.vicinity.proofs.CarriedPaths.{storage_or_input}
use Rattle.vicinity.proofs.WayLemmas.{crosses_live, crosses_arm, way_edge}
use Rattle.vicinity.proofs.sources.edge_at.Goals as goal

pub returns-in_default-clause-edge : goal.returns-in_default-clause-edge
returns-in_default-clause-edge c = λ other switch stands joins input cross above.
    let leads : LeadsTo c.args.graph.now c.args.state.now c.args.place c.args.node other = record {
      switch = switch;
      at_place = stands;
      joins = Joins-sym switch other c.args.node joins;
      live = crosses_live c.args.pass _ cross;
    } in
    absurd (c.arm_at.ensures.some other leads c.in_default.is)

pub returns-clause-way : goal.returns-clause-way
returns-clause-way c = λ positive.
    let g = c.args.graph.now in
    let state = c.args.state.now in
    let arm = c.in-Some.ensures.arm in
    let other = c.in-Some.arm.other in
    let (is, above) = c.above.ensures.only positive in
    let input : level_of g other ≡ INPUT_LEVEL =
    elim (storage_or_input g c.graphs_are_wired.ensures other c.in-Some.ensures.within) [
      | inl storage ↦ let yes = c.is_storage.ensures.1 storage in absurd (cc)
      | inr input ↦ input
    ] in
    let cross = crosses_arm c.args.pass _ c.in-Some.arm.closed arm.live arm.closed (sym c.is_crossed.ensures ∙ c.if-not-is_crossed.false) in
    let same : c.above.result ≡ min (own_strength c.args.pass (state_at state other) INPUT_LEVEL) arm.switch.level =
    omega (arith, is, c.min-strength.ensures, c.own_strength.ensures, arm.level) in
    subst (IsWay c.args.pass g state c.args.node) (sym same)
    (way_edge g state c.graphs_are_wired.ensures c.args.pass other c.args.node c.args.floor c.args.place arm.switch arm.at_place
    (Joins-sym arm.switch c.args.node other arm.joins) c.in-Some.ensures.within input cross c.requires.floor (omega (arith, same, above, is)) (omega (arith, same, positive)))
