-- The machine with its new nodes loses the parts that have the changed nodes, and gets new stale ones.
use Rattle.std.proofs.Common.{◌≡◌, ◌++◌, ◌+◌, ◌*◌, ◌≤◌, ℕ, List, Option, Some, None, length, sym, ap, subst, ◌∙◌, arith}
use Rattle.std.specs.Prelude.{◌↔◌, Contains}
use Rattle.switch_paths.specs.Graphs.{nodes}
use Rattle.channel_groups.specs.Changes.{undo, nodes_before, nodes_after, touched_size}
use Rattle.group_meaning.specs.Groups.{Group, AreGroups}
use Rattle.channel_groups.specs.Grouping.{GroupsData}
use Rattle.unit_step.specs.contracts.machine.Machine.{the_view}
use Rattle.wide_groups.specs.Staying.{GrowsIn}
use Rattle.machine_laws.specs.Machines.{MachineData, groups_in}
use Rattle.machine_laws.specs.Editing.{with_new_nodes, Edits}
use Rattle.machine_laws.specs.Seating.{Clears, IsWithAny, RenewsAll}
use Rattle.machine_laws.proofs.CoveringLemmas.{few_before, counted_grown, grown_again, member_below, follows}
use Rattle.unit_step.proofs.machine.Machine.follow.Given.{Over}
use Rattle.unit_step.proofs.machine.Machine.follow.Goals.{In-Some}
use Rattle.unit_step.proofs.machine.Machine.follow.Goals as goal

-- the machine with its new nodes
grown : (g : Over) (c : In-Some g) → the_view c.self-2.inside ≡ record c.args.self.now {
  state = with_new_nodes c.args.self.now.state (nodes c.args.graph.now);
  spare = c.add_nodes.new.self.spare;
  wide = c.add_nodes.new.self.wide;
}
grown g c =
    c.self-2.view_is ∙ c.in_ok-add_nodes.ensures.ok
    ∙ ap (λ n. record c.args.self.now { state = with_new_nodes c.args.self.now.state n; spare = c.add_nodes.new.self.spare; wide = c.add_nodes.new.self.wide })
    c.nodes.ensures

-- its states are those that are to be
state_grown : (g : Over) (c : In-Some g) → c.self-2.inside.body.state.items ≡ with_new_nodes c.args.self.now.state (nodes c.args.graph.now)
state_grown g c = ap (λ (m : MachineData). m.state) (grown g c)

state_again : (g : Over) (c : In-Some g) →
    with_new_nodes c.self-2.inside.body.state.items (nodes c.args.graph.now) ≡ with_new_nodes c.args.self.now.state (nodes c.args.graph.now)
state_again g c = grown_again c.args.self.now.state c.self-2.inside.body.state.items (nodes c.args.graph.now) (state_grown g c)

-- the groups that are regrouped are those that the machine had
held_before : (g : Over) (c : In-Some g) → Some c.in-Some.groups ≡ c.args.self.now.groups
held_before g c = c.in-Some.ensures.value ∙ ap (λ (m : MachineData). m.groups) (grown g c)

held_in : (held : GroupsData) (old : Option GroupsData) → Some held ≡ old → held.groups ≡ groups_in old
held_in held old is = ap groups_in is

-- so what is bounded by them is bounded by the groups that the machine had
ticks : (g : Over) (c : In-Some g) (steps : ℕ) →
    ((found : List Group) → AreGroups c.args.graph.now found →
    steps ≤ c.args.steps.now + 8 * touched_size c.args.graph.now c.args.change.now c.in-Some.groups.groups found) →
    (found : List Group) → AreGroups c.args.graph.now found →
    steps ≤ c.args.steps.now + 8 * touched_size c.args.graph.now c.args.change.now (groups_in c.args.self.now.groups) found
ticks g c steps most found are =
    subst (λ (groups : List Group). steps ≤ c.args.steps.now + 8 * touched_size c.args.graph.now c.args.change.now groups found)
    (held_in c.in-Some.groups c.args.self.now.groups (held_before g c)) (most found are)

pub returns-in_err-nodes_before-clause-state : goal.returns-in_err-nodes_before-clause-state
returns-in_err-nodes_before-clause-state g c = state_again g (goal.at.returns-in_err-nodes_before-clause-state g c).In-Some

pub returns-in_err-nodes-clause-state : goal.returns-in_err-nodes-clause-state
returns-in_err-nodes-clause-state g c = state_again g (goal.at.returns-in_err-nodes-clause-state g c).In-Some

pub returns-in_err-regroup-clause-state : goal.returns-in_err-regroup-clause-state
returns-in_err-regroup-clause-state g c = state_again g (goal.at.returns-in_err-regroup-clause-state g c).In-Some

pub returns-in_err-nodes_after-clause-state : goal.returns-in_err-nodes_after-clause-state
returns-in_err-nodes_after-clause-state g c = state_again g (goal.at.returns-in_err-nodes_after-clause-state g c).In-Some

pub returns-in_err-extend_from_slice-clause-state : goal.returns-in_err-extend_from_slice-clause-state
returns-in_err-extend_from_slice-clause-state g c = state_again g (goal.at.returns-in_err-extend_from_slice-clause-state g c).In-Some

pub returns-in_err-vacate_all-clause-state : goal.returns-in_err-vacate_all-clause-state
returns-in_err-vacate_all-clause-state g c =
    grown_again c.args.self.now.state c.vacate_all.new.self.state (nodes c.args.graph.now)
    (c.vacate_all.ensures.state ∙ state_grown g (goal.at.returns-in_err-vacate_all-clause-state g c).In-Some)

pub returns-in_err-renew_all-clause-state : goal.returns-in_err-renew_all-clause-state
returns-in_err-renew_all-clause-state g c =
    grown_again c.args.self.now.state c.renew_all.new.self.state (nodes c.args.graph.now)
    (c.renew_all.ensures.state ∙ c.vacate_all.ensures.state ∙ state_grown g (goal.at.returns-in_err-renew_all-clause-state g c).In-Some)

pub returns-clause-state : goal.returns-clause-state
returns-clause-state g c =
    grown_again c.args.self.now.state _ (nodes c.args.graph.now)
    (ap (λ (m : MachineData). m.state) c.self-3.view_is ∙ c.renew_all.ensures.state ∙ c.vacate_all.ensures.state
    ∙ state_grown g (goal.at.returns-clause-state g c).In-Some)

-- there are no fewer nodes than before
pub add_nodes-requires-clause-more : goal.add_nodes-requires-clause-more
add_nodes-requires-clause-more g c =
    omega (arith, few_before c.args.graph.now c.args.change.now, c.requires.covers.counted, c.nodes.ensures)

pub members_with-requires-clause-below : goal.members_with-requires-clause-below
members_with-requires-clause-below g c = λ group node there member.
    let covers = c.requires.covers in
    let held : Some c.in-Some.groups ≡ Some covers.groups = held_before g (goal.at.members_with-requires-clause-below g c).In-Some ∙ covers.kept in
    let same : c.in-Some.groups ≡ covers.groups = cc in
    let below = member_below (undo c.args.graph.now c.args.change.now) covers.groups.groups c.in-Some.groups.groups covers.are.are
    (ap (λ (groups : GroupsData). groups.groups) same) group node there member in
    omega (arith, below, covers.counted, c.len-before.ensures, ap (λ (m : MachineData). length m.state) c.self.view_is, c.self.inside.body.state.ok.0)

pub renew_all-requires-clause-counted : goal.renew_all-requires-clause-counted
renew_all-requires-clause-counted g c =
    ap length (c.vacate_all.ensures.state ∙ state_grown g (goal.at.renew_all-requires-clause-counted g c).In-Some)
    ∙ counted_grown c.args.graph.now c.args.change.now c.args.self.now.state c.requires.covers.counted

pub renew_all-requires-clause-free : goal.renew_all-requires-clause-free
renew_all-requires-clause-free g c = λ k node there.
    c.in_ok-vacate_all.ensures.ok.none k node (subst (λ list. Contains list node) (c.deref-4.ensures.value ∙ sym c.deref-3.ensures.value) there)

pub returns-clause-ok : goal.returns-clause-ok
returns-clause-ok g c =
    let graph = c.args.graph.now in
    let change = c.args.change.now in
    let old = c.args.self.now in
    let covers = c.requires.covers in
    let now = c.regroup.new.self in
    let cleared = c.vacate_all.new.self in
    let made = c.renew_all.new.self in
    let spare = c.add_nodes.new.self.spare in
    let begin = (goal.at.returns-clause-ok g c).In-Some in
    let held : Some c.in-Some.groups ≡ Some covers.groups = held_before g begin ∙ covers.kept in
    let same : c.in-Some.groups ≡ covers.groups = cc in
    let found = c.in_ok-nodes.nodes.items in
    let all = c.extend_from_slice.new.self.items in
    let before_are = c.deref.ensures.value ∙ c.in_ok-nodes_before.ensures in
    let found_are : (node : ℕ) → Contains found node ↔ IsWithAny covers.groups.groups (nodes_before change) node =
    λ node.
    subst (λ list. Contains found node ↔ IsWithAny covers.groups.groups list node) before_are
    (subst (λ (groups : GroupsData). Contains found node ↔ IsWithAny groups.groups c.deref.result.now node) same (c.in_ok-nodes.ensures node)) in
    let nodes_are : all ≡ found ++ nodes_after graph change =
    c.in_ok-extend_from_slice.ensures.items ∙ ap (λ list. found ++ list) (c.deref-2.ensures.value ∙ c.in_ok-nodes_after.ensures) in
    let begun = c.add_nodes.new.self.wide in
    let begins = ap (λ (m : MachineData). record m { groups = c.replace.new.dest }) (grown g begin)
    ∙ ap (λ (groups : Option GroupsData). record old { groups = groups; state = with_new_nodes old.state (nodes graph); spare = spare; wide = begun })
    c.replace.ensures.after in
    let clears : Clears all (record old { groups = None; state = with_new_nodes old.state (nodes graph); spare = spare; wide = begun }) cleared =
    subst (λ list. Clears list (record old { groups = None; state = with_new_nodes old.state (nodes graph); spare = spare; wide = begun }) cleared)
    c.deref-3.ensures.value (subst (λ m. Clears c.deref-3.result.now m cleared) begins c.in_ok-vacate_all.ensures.ok) in
    let grows : GrowsIn (nodes graph) old.wide begun = subst (λ n. GrowsIn n old.wide begun) c.nodes.ensures c.in_ok-add_nodes.ensures.wide in
    let renews : RenewsAll now.groups all cleared made = subst (λ list. RenewsAll now.groups list cleared made) c.deref-4.ensures.value c.in_ok-renew_all.ensures.ok in
    subst (Edits graph change old) (ap (λ (m : MachineData). record m { groups = Some now }) (sym c.self-3.view_is))
    (follows graph change old covers c.requires.wired c.graphs_are_wired.ensures now c.in_ok-regroup.ensures.ok spare begun grows found all found_are nodes_are
    cleared made clears renews c.stale_parts_are_marked.ensures.apart c.stale_parts_are_marked.ensures.waits)

pub returns-in_err-regroup-clause-ticks : goal.returns-in_err-regroup-clause-ticks
returns-in_err-regroup-clause-ticks g c = ticks g (goal.at.returns-in_err-regroup-clause-ticks g c).In-Some c.regroup.new.steps c.regroup.ensures.step

pub returns-in_err-nodes_after-clause-ticks : goal.returns-in_err-nodes_after-clause-ticks
returns-in_err-nodes_after-clause-ticks g c = ticks g (goal.at.returns-in_err-nodes_after-clause-ticks g c).In-Some c.regroup.new.steps c.regroup.ensures.step

pub returns-in_err-extend_from_slice-clause-ticks : goal.returns-in_err-extend_from_slice-clause-ticks
returns-in_err-extend_from_slice-clause-ticks g c = ticks g (goal.at.returns-in_err-extend_from_slice-clause-ticks g c).In-Some c.regroup.new.steps c.regroup.ensures.step

pub returns-in_err-renew_all-clause-ticks : goal.returns-in_err-renew_all-clause-ticks
returns-in_err-renew_all-clause-ticks g c = ticks g (goal.at.returns-in_err-renew_all-clause-ticks g c).In-Some c.regroup.new.steps c.regroup.ensures.step

pub returns-clause-ticks : goal.returns-clause-ticks
returns-clause-ticks g c = ticks g (goal.at.returns-clause-ticks g c).In-Some c.regroup.new.steps c.regroup.ensures.step
