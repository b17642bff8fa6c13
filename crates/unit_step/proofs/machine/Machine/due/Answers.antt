-- The parts that wait are found by their least members.
use Rattle.std.proofs.Common.{◌≡◌, ℕ, ◌⊎◌, inl, inr, List, map, All, None, Some, refl, sym, ap, subst, ◌∙◌}
use Rattle.std.specs.Prelude.{Contains, IfOk}
use Rattle.std.proofs.lemmas.Option.{slice_get_within, get_or_from_slice_get}
use Rattle.group_meaning.specs.Groups.{Group}
use Rattle.group_meaning.proofs.UniqueGroups.{unique}
use Rattle.channel_groups.specs.declared.group.GroupId.{GroupId}
use Rattle.channel_groups.specs.Grouping.{GroupsData, IsId}
use Rattle.circuit_texts.specs.declared.sizes.GroupSizes.{GroupSizes}
use Rattle.circuit_texts.specs.declared.texts.BuildFault.TheVariants.{NoMemory}
use Rattle.circuit_texts.specs.Sizes.{refused_in, IsFirstRefused, NoneRefused, TellsRefused}
use Rattle.circuit_texts.specs.Told.{with_text, without_text}
use Rattle.circuit_texts.specs.Choosing.{chosen}
use Rattle.unit_step.specs.contracts.machine.Machine.{the_view}
use Rattle.machine_parts.specs.Parts.{IsStale}
use Rattle.machine_laws.specs.Machines.{MachineData}
use Rattle.machine_laws.specs.Fitting.{Covers}
use Rattle.machine_laws.specs.Finishing.{first_node}
use Rattle.machine_laws.proofs.ClearingLemmas.{on_ok}
use Rattle.machine_laws.proofs.FinishingWaiting.{nodes_are_ids, waiting_groups, waits_now, chosen_waiting, slot_now, due_now, TellsRefused-waiting, none_refused}
use Rattle.unit_step.specs.Holding.{IsPassed}
use Rattle.unit_step.specs.Waking.{AreDue}
use Rattle.unit_step.proofs.DueLemmas.{if_ok, if_err, both_ok, passed_fits, AreDue-found}
use Rattle.unit_step.proofs.machine.Machine.due.Goals.{In_ok-nodes}
use Rattle.unit_step.proofs.machine.Machine.due.Goals as goal

-- the machine covers the graph
covers_in : (c : In_ok-nodes) → Covers c.args.graph.now (the_view c.self.inside)
covers_in c = subst (Covers c.args.graph.now) (sym c.self.view_is) c.requires.covers

-- which groups are passed over
abbrev passed_in : In_ok-nodes → ℕ → Type 0
passed_in c = IsPassed c.args.large c.self.inside.body.wide

-- the nodes are the first ones of the stale parts that aren't
nodes_all : (c : In_ok-nodes) (k : ℕ) → IsStale c.self.inside.body.parts.items k →
    Contains c.in_ok-nodes.nodes.items (first_node c.self.inside.body.parts.items k) ⊎ passed_in c (first_node c.self.inside.body.parts.items k)
nodes_all c k stale =
    subst (λ parts. Contains c.in_ok-nodes.nodes.items (first_node parts k) ⊎ passed_in c (first_node parts k)) c.deref.ensures.value
    (c.in_ok-nodes.ensures.all k (c.self.invariant.0.runs.stale k stale))

nodes_only : (c : In_ok-nodes) (node : ℕ) → Contains c.in_ok-nodes.nodes.items node →
    (k : ℕ) × IsStale c.self.inside.body.parts.items k × (first_node c.self.inside.body.parts.items k ≡ node)
nodes_only c node there =
    let (k, waits, first) = c.in_ok-nodes.ensures.only node there in
    (k, c.self.invariant.0.runs.waits k waits, subst (λ parts. first_node parts k ≡ node) c.deref.ensures.value first)

-- the groups that the machine has are those of the graph
groups_are : (c : In_ok-nodes) → c.in-Some.groups ≡ (covers_in c).groups
groups_are c =
    let both : Some c.in-Some.groups ≡ Some (covers_in c).groups = sym c.in-Some.is ∙ (covers_in c).kept in
    cc

-- the groups whose parts wait
abbrev some_in : In_ok-nodes → List Group
some_in c =
    waiting_groups c.args.graph.now (the_view c.self.inside) (covers_in c) _ c.self.inside.body.owners.items c.self.invariant.0.own c.in_ok-nodes.nodes.items
    c.in_ok-nodes.ensures.ascending (passed_in c) (nodes_all c) (nodes_only c)

-- the groups with the ids of these nodes are theirs
chosen_are : (c : In_ok-nodes) (ids read : List GroupId) → read ≡ ids → map (λ (id : GroupId). id.node) ids ≡ c.in_ok-nodes.nodes.items →
    chosen c.in-Some.groups.groups read ≡ some_in c
chosen_are c ids read read_is are =
    ap (λ (held : GroupsData). chosen held.groups read) (groups_are c)
    ∙ (ap (chosen (covers_in c).groups.groups) read_is
    ∙ chosen_waiting c.args.graph.now (the_view c.self.inside) (covers_in c) _ c.self.inside.body.owners.items c.self.invariant.0.own c.in_ok-nodes.nodes.items
    c.in_ok-nodes.ensures.ascending (passed_in c) (nodes_all c) (nodes_only c) ids are)

pub ids_at-requires-clause-ids : goal.ids_at-requires-clause-ids
ids_at-requires-clause-ids c =
    let begin = (goal.at.ids_at-requires-clause-ids c).In_ok-nodes in
    let nodes = c.in_ok-nodes.nodes.items in
    let are = nodes_are_ids c.args.graph.now _ (covers_in begin) _ c.self.inside.body.owners.items c.self.invariant.0.own nodes c.in_ok-nodes.ensures.ascending
    (passed_in begin) (nodes_all begin) (nodes_only begin) in
    let there : All (IsId c.in-Some.groups.groups) nodes = subst (λ (held : GroupsData). All (IsId held.groups) nodes) (sym (groups_are begin)) are in
    subst (All (IsId c.in-Some.groups.groups)) (sym c.deref-2.ensures.value) there

pub sizes_at-requires : goal.sizes_at-requires
sizes_at-requires c =
    subst (All (λ (id : GroupId). IsId c.in-Some.groups.groups id.node)) (sym c.deref-3.ensures.value) c.in_ok-waiting.ensures.all

-- the first group that is refused is told
pub returns-clause-refused : goal.returns-clause-refused
returns-clause-refused c =
    let at = goal.at.returns-clause-refused c in
    let begin = at.In_ok-nodes in
    let g = c.args.graph.now in
    let large = c.args.large in
    let covers = covers_in begin in
    if_err c.sizes_at.result (λ fault. (fault ≡ NoMemory) ⊎ IsFirstRefused large (chosen c.in-Some.groups.groups c.deref-3.result.now) fault)
    (λ fault. (fault ≡ NoMemory) ⊎ TellsRefused large g fault)
    (λ fault told.
    elim told [
      | inl want ↦ inl want
      | inr first ↦
          inr (TellsRefused-waiting g (the_view c.self.inside) covers _ c.self.inside.body.owners.items c.self.invariant.0.own c.in_ok-nodes.nodes.items
          c.in_ok-nodes.ensures.ascending (passed_in begin) (nodes_all begin) (nodes_only begin) large
          (passed_fits g (the_view c.self.inside) covers large) fault
          (subst (λ (groups : List Group). IsFirstRefused large groups fault) (chosen_are begin c.in_ok-waiting.waiting.items c.deref-3.result.now c.deref-3.ensures.value (c.in_ok-waiting.ensures.ids ∙ c.deref-2.ensures.value)) first))
    ]) c.sizes_at.ensures.refused

pub returns-clause-few : goal.returns-clause-few
returns-clause-few c =
    let at = goal.at.returns-clause-few c in
    let begin = at.In_ok-nodes in
    let g = c.args.graph.now in
    let large = c.args.large in
    let covers = covers_in begin in
    on_ok _ (NoneRefused large g) c.sizes_at.result
    (λ fit groups are k group stands.
    let fits = none_refused g (the_view c.self.inside) covers _ c.self.inside.body.owners.items c.self.invariant.0.own c.in_ok-nodes.nodes.items
    c.in_ok-nodes.ensures.ascending (passed_in begin) (nodes_all begin) (nodes_only begin) large
    (passed_fits g (the_view c.self.inside) covers large)
    (subst (All (λ one. refused_in large one ≡ None)) (chosen_are begin c.in_ok-waiting.waiting.items c.deref-3.result.now c.deref-3.ensures.value (c.in_ok-waiting.ensures.ids ∙ c.deref-2.ensures.value)) fit) in
    let all = subst (All (λ one. refused_in large one ≡ None)) (unique g covers.groups.groups groups covers.are.are are) fits in
    subst (λ one. refused_in large one ≡ None) (get_or_from_slice_get groups k group group stands) (all k group (slice_get_within groups k group stands)))
    c.sizes_at.ensures.fits

pub returns-clause-due : goal.returns-clause-due
returns-clause-due c =
    let at = goal.at.returns-clause-due c in
    let begin = at.In_ok-nodes in
    let g = c.args.graph.now in
    let v = the_view c.self.inside in
    let covers = covers_in begin in
    let nodes = c.in_ok-nodes.nodes.items in
    let own = c.self.invariant.0.own in
    let owners = c.self.inside.body.owners.items in
    let result = c.sizes_at.result in
    let waiting = chosen_are begin c.in_ok-waiting.waiting.items c.deref-3.result.now c.deref-3.ensures.value
    (c.in_ok-waiting.ensures.ids ∙ c.deref-2.ensures.value) in
    let same : c.in-Some.groups.groups ≡ covers.groups.groups = ap (λ (held : GroupsData). held.groups) (groups_are begin) in
    let due = waits_now g v covers _ owners own nodes c.in_ok-nodes.ensures.ascending (passed_in begin) (nodes_all begin) (nodes_only begin) in
    let Told : GroupSizes → Type 0 = λ sizes. chosen c.in-Some.groups.groups sizes.told.items ≡ with_text (chosen c.in-Some.groups.groups c.deref-3.result.now) in
    let Large : GroupSizes → Type 0 = λ sizes. chosen c.in-Some.groups.groups sizes.large.items ≡ without_text (chosen c.in-Some.groups.groups c.deref-3.result.now) in
    let ToldIds : GroupSizes → Type 0 = λ sizes. All (λ (id : GroupId). IsId c.in-Some.groups.groups id.node) sizes.told.items in
    subst (λ (m : MachineData). IfOk result (AreDue g m c.args.large)) c.self.view_is
    (if_ok result (λ sizes. Told sizes × (Large sizes × ToldIds sizes)) (AreDue g v c.args.large)
    (λ sizes facts.
    AreDue-found g v covers c.args.large sizes due
    (ap (λ all. chosen all sizes.told.items) (sym same) ∙ (facts.0 ∙ ap with_text waiting))
    (ap (λ all. chosen all sizes.large.items) (sym same) ∙ (facts.1.0 ∙ ap without_text waiting))
    (subst (λ all. All (λ (id : GroupId). IsId all id.node) sizes.told.items) same facts.1.1)
    (slot_now g v covers _ owners own nodes c.in_ok-nodes.ensures.ascending (passed_in begin) (nodes_all begin) (nodes_only begin))
    (due_now g v covers _ owners own nodes c.in_ok-nodes.ensures.ascending (passed_in begin) (nodes_all begin) (nodes_only begin)) refl)
    (both_ok result Told (λ sizes. Large sizes × ToldIds sizes) c.sizes_at.ensures.told
    (both_ok result Large ToldIds c.sizes_at.ensures.large c.sizes_at.ensures.told_ids)))
