-- The local reason stands for one of the whole graph.
use Rattle.std.proofs.Common.{◌≡◌, ℕ, List, Option, ◌∙◌, refl, sym, ap, subst, arith, length, map}
use Rattle.std.specs.Prelude.{option_map}
use Rattle.std.proofs.lemmas.List.{length-map}
use Rattle.switch_paths.specs.declared.walks.Walk.{Walk}
use Rattle.switch_paths.specs.Switching.{state_at}
use Rattle.switch_paths.specs.Graphs.{GraphData, IsStorage, nodes, place_at}
use Rattle.switch_paths.specs.Path.{at_root}
use Rattle.switch_paths.specs.Spread.{rail_of}
use Rattle.group_meaning.specs.Groups.{Group, IsGroup}
use Rattle.group_text.specs.Texts.{GroupTextData, local_nodes, local_graph, local_state, local_switch}
use Rattle.group_text.proofs.LocalEdges.{nodes_local}
use Rattle.group_text.proofs.LocalRanges.{locals_inside}
use Rattle.why_path.specs.Reasons.{Explains, IsBestReason}
use Rattle.why_path.proofs.NearLemmas.{hops_inside, whole_best, whole_none, Explains-same}
use Rattle.why_path.proofs.near.near_reason.Goals.{After-deref, In_ok-walk, In-Some}
use Rattle.why_path.proofs.near.near_reason.Goals as goal

-- the group that is near
abbrev near : List ℕ → List ℕ → Group
near members switches = record { members = members; switches = switches }

-- it is a group of the graph
is_group : (c : After-deref) → IsGroup c.args.graph.now (near c.args.members.now c.args.switches.now)
is_group c =
    let storage : IsStorage c.args.graph.now c.args.node = record {
      inside = c.requires.node;
      below = omega (arith, c.level.ensures.value, c.level.ensures.level.high, c.if-level-eq-INPUT_LEVEL.false);
    } in
    (c.requires.near storage).0

-- and the nodes that its text's nodes stand for are listed
locals_are : (c : After-deref) → c.deref.result.now ≡ local_nodes c.args.graph.now (near c.args.members.now c.args.switches.now)
locals_are c = c.deref.ensures.value ∙ c.in_ok-text.ensures.locals

-- what was found explains the rail over the group's local graph
explained : (c : In_ok-walk) (group : Group) → group ≡ near c.args.members.now c.args.switches.now →
    c.deref.result.now ≡ local_nodes c.args.graph.now group →
    Explains (rail_of c.args.one) (local_graph c.args.graph.now group) (local_state (local_nodes c.args.graph.now group) c.args.state.now)
    c.place_of-local.result c.in_ok-walk.field-0
explained c group is locals =
    let g : GraphData = c.args.graph.now in
    let graph : c.graph.result.now ≡ local_graph g group =
    c.graph.ensures.value ∙ ap (λ (text : GroupTextData). text.graph) c.in_ok-text.ensures.text ∙ ap (local_graph g) (sym is) in
    let states : c.deref-3.result.now ≡ local_state (local_nodes g group) c.args.state.now =
    c.deref-3.ensures.value ∙ c.in_ok-local_state.ensures ∙ ap (map (state_at c.args.state.now)) locals in
    Explains-same (rail_of c.args.one) c.graph.result.now (local_graph g group) c.deref-3.result.now
    (local_state (local_nodes g group) c.args.state.now) c.place_of-local.result c.in_ok-walk.field-0 graph states c.in_ok-walk.ensures

-- so the walk is a best reason there
best : (c : In-Some) (group : Group) →
    Explains (rail_of c.args.one) (local_graph c.args.graph.now group) (local_state (local_nodes c.args.graph.now group) c.args.state.now)
    c.place_of-local.result c.in_ok-walk.field-0 →
    IsBestReason (rail_of c.args.one) (local_graph c.args.graph.now group) (local_state (local_nodes c.args.graph.now group) c.args.state.now)
    c.place_of-local.result c.in-Some.walk.root c.in-Some.walk.hops.items
best c group found =
    let g : GraphData = c.args.graph.now in
    subst (λ (o : Option Walk). Explains (rail_of c.args.one) (local_graph g group) (local_state (local_nodes g group) c.args.state.now)
    c.place_of-local.result o) c.in-Some.is found

pub states_at-requires : goal.states_at-requires
states_at-requires c =
    let begin = (goal.at.states_at-requires c).After-deref in
    let group = near c.args.members.now c.args.switches.now in
    rw (locals_are begin, c.requires.state) (locals_inside c.args.graph.now c.graphs_are_wired.ensures group (is_group begin))

pub reason_from-requires-clause-roots : goal.reason_from-requires-clause-roots
reason_from-requires-clause-roots c =
    let begin = (goal.at.reason_from-requires-clause-roots c).After-deref in
    let g : GraphData = c.args.graph.now in
    let group = near c.args.members.now c.args.switches.now in
    let graph : c.graph.result.now ≡ local_graph g group =
    c.graph.ensures.value ∙ ap (λ (text : GroupTextData). text.graph) c.in_ok-text.ensures.text in
    let locals : c.deref-2.result.now ≡ local_nodes g group = c.deref-2.ensures.value ∙ c.in_ok-text.ensures.locals in
    let count : length c.deref-2.result.now ≡ nodes c.graph.result.now =
    ap length locals ∙ sym (ap nodes graph ∙ nodes_local g group (is_group begin)) in
    rw (c.deref-4.ensures.value, ← count) c.in_ok-roots.ensures

pub whole_walk-requires-clause-hops : goal.whole_walk-requires-clause-hops
whole_walk-requires-clause-hops c =
    let at_walk = goal.at.whole_walk-requires-clause-hops c in
    let g : GraphData = c.args.graph.now in
    let group = near c.args.members.now c.args.switches.now in
    let found = best at_walk.In-Some group (explained at_walk.In_ok-walk group refl (locals_are at_walk.After-deref)) in
    let walk = c.in-Some.walk in
    let inside = hops_inside (local_graph g group) (local_state (local_nodes g group) c.args.state.now) walk.hops.items
    (at_root (local_graph g group) walk.root) found.reason.there found.reason.path.leads in
    rw (length-map group.switches (λ place. option_map (local_switch (local_nodes g group)) (place_at g.places place))) at inside

pub returns-in-Some : goal.returns-in-Some
returns-in-Some c =
    let at_end = goal.at.returns-in-Some c in
    let group = near c.args.members.now c.args.switches.now in
    let found = best at_end.In-Some group (explained at_end.In_ok-walk group refl (locals_are at_end.After-deref)) in
    let ends : c.deref-in-Some.result.now ≡ local_nodes c.args.graph.now group = c.deref-in-Some.ensures.value ∙ c.in_ok-text.ensures.locals in
    let whole = whole_best (rail_of c.args.one) c.args.graph.now c.graphs_are_wired.ensures group (is_group at_end.After-deref) c.args.state.now
    c.place_of-local.result c.place_of-local.ensures.inside c.in-Some.walk.root c.in-Some.walk.hops.items found in
    rw (c.in_ok-whole_walk-in-Some.ensures.root, c.in_ok-whole_walk-in-Some.ensures.hops, ends, ← c.place_of-local.ensures.named) whole

pub returns : goal.returns
returns c =
    let at_end = goal.at.returns c in
    let g : GraphData = c.args.graph.now in
    let group = near c.args.members.now c.args.switches.now in
    let found = explained at_end.In_ok-walk group refl (locals_are at_end.After-deref) in
    let none = subst (λ (o : Option Walk). Explains (rail_of c.args.one) (local_graph g group) (local_state (local_nodes g group) c.args.state.now)
    c.place_of-local.result o) c.in-None.is found in
    rw (← c.place_of-local.ensures.named)
    (whole_none (rail_of c.args.one) g c.graphs_are_wired.ensures group (is_group at_end.After-deref) c.args.state.now
    c.place_of-local.result c.place_of-local.ensures.inside none)
