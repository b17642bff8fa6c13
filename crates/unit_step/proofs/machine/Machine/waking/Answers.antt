-- Those of the due groups that have a text, and their parts.
use Rattle.std.proofs.Common.{◌≡◌, ◌≢◌, ℕ, List, [], ◌∷◌, map, filter, true, All, Some, None, refl, sym, ap, subst, ◌∙◌, rules, arith, length, inl, inr}
use Rattle.std.specs.Prelude.{Contains, slice_index_or}
use Rattle.std.specs.List.{AllZip}
use Rattle.std.proofs.lemmas.List.{get_or-map, length-map}
use Rattle.group_meaning.specs.Groups.{Group, id_of}
use Rattle.group_text.specs.Texts.{text_of_group, local_nodes}
use Rattle.channel_groups.specs.declared.group.GroupId.{GroupId}
use Rattle.channel_groups.specs.Grouping.{IsId}
use Rattle.circuit_texts.specs.declared.texts.BuildFault.TheVariants.{NoMemory}
use Rattle.circuit_texts.specs.Sizes.{IsFirstTooLarge}
use Rattle.circuit_texts.specs.Told.{with_text}
use Rattle.circuit_texts.specs.Choosing.{chosen}
use Rattle.circuit_texts.specs.Reading.{AreReads}
use Rattle.circuit_texts.proofs.ChosenLemmas.{chosen-ids}
use Rattle.circuit_texts.proofs.SizeLemmas.{none_too_large}
use Rattle.circuit_texts.proofs.ToldLemmas.{with_text_fits}
use Rattle.unit_step.specs.declared.waking.Waking.{Waking}
use Rattle.machine_parts.specs.Running.{AreOwners}
use Rattle.machine_laws.specs.Machines.{MachineData, groups_in}
use Rattle.machine_laws.specs.Finishing.{IsSlotOf}
use Rattle.machine_laws.proofs.FinishingWaiting.{told_owned, AreWaiting-found}
use Rattle.unit_step.specs.Holding.{IsPassed}
use Rattle.unit_step.specs.Waking.{AreDue, IsWaking}
use Rattle.unit_step.proofs.DueLemmas.{passed_told}
use Rattle.unit_step.proofs.machine.Machine.waking.Goals.{In-Some}
use Rattle.unit_step.proofs.machine.Machine.waking.Goals as goal

-- the groups that are due
due_in : (c : In-Some) → AreDue c.args.graph.now c.args.self.now c.requires.due.0 c.args.sizes.now
due_in c = c.requires.due.1

-- the groups that the machine has are those of the graph
held_groups : (c : In-Some) → c.in-Some.groups.groups ≡ groups_in c.args.self.now.groups
held_groups c = ap groups_in (sym c.in-Some.is ∙ ap (λ (m : MachineData). m.groups) c.self.view_is)

covers_groups : (c : In-Some) → groups_in c.args.self.now.groups ≡ c.requires.covers.groups.groups
covers_groups c = ap groups_in c.requires.covers.kept

-- those of them that have a text
abbrev told_in : In-Some → List Group
told_in c = with_text (filter (due_in c).due c.requires.covers.groups.groups)

chosen_told : (c : In-Some) → chosen c.in-Some.groups.groups c.args.sizes.now.told.items ≡ told_in c
chosen_told c =
    ap (λ groups. chosen groups c.args.sizes.now.told.items) (held_groups c)
    ∙ ((due_in c).told ∙ ap (λ groups. with_text (filter (due_in c).due groups)) (covers_groups c))

told_each : (c : In-Some) → All (λ (id : GroupId). IsId c.in-Some.groups.groups id.node) c.args.sizes.now.told.items
told_each c =
    subst (λ groups. All (λ (id : GroupId). IsId groups id.node) c.args.sizes.now.told.items) (sym (held_groups c)) (due_in c).told_ids

told_ids : (c : In-Some) → map id_of (told_in c) ≡ map (λ (id : GroupId). id.node) c.args.sizes.now.told.items
told_ids c = ap (map id_of) (sym (chosen_told c)) ∙ chosen-ids c.in-Some.groups.groups c.args.sizes.now.told.items (told_each c)

-- the owners of the nodes
own_in : (c : In-Some) → AreOwners c.args.self.now.parts (length c.self.inside.body.state.items) c.self.inside.body.owners.items
own_in c =
    subst (λ (m : MachineData). AreOwners m.parts (length c.self.inside.body.state.items) c.self.inside.body.owners.items) c.self.view_is c.self.invariant.0.own

-- each due group has its slot
slots_in : (c : In-Some) (group : Group) → Contains c.requires.covers.groups.groups group → (due_in c).due group ≡ true →
    (k : ℕ) × IsSlotOf c.args.graph.now c.args.self.now.parts group k
slots_in c group there is = (due_in c).slot group (subst (λ groups. Contains groups group) (sym (covers_groups c)) there) is

-- what holds of what is made of each item holds of what is made of it
all_back : {X Y : Type 0} (P : Y → Type 0) (f : X → Y) (xs : List X) → All P (map f xs) → All (λ x. P (f x)) xs
all_back P f xs all i d inside =
    subst P (get_or-map f xs i d (f d) inside) (all i (f d) (omega (arith, inside, length-map xs f)))

map_twice : {X Y Z : Type 0} (f : X → Y) (h : Y → Z) (xs : List X) → map (λ x. h (f x)) xs ≡ map h (map f xs)
map_twice f h [] = refl
map_twice f h (x ∷ xs) = ap (λ rest. h (f x) ∷ rest) (map_twice f h xs)

pub owners_of-requires : goal.owners_of-requires
owners_of-requires c =
    let at = (goal.at.owners_of-requires c).In-Some in
    let told = c.args.sizes.now.told.items in
    let owners = c.self.inside.body.owners.items in
    rw (c.deref.ensures.value, c.deref-2.ensures.value)
    (record {
      owned = all_back (λ node. slice_index_or owners node None ≢ None) (λ (id : GroupId). id.node) told
          (told_owned c.args.graph.now c.args.self.now c.requires.covers _ owners (own_in at) (due_in at).due (slots_in at)
          (IsPassed c.requires.due.0 c.args.self.now.wide) (due_in at).all (map (λ (id : GroupId). id.node) told) (told_ids at));
    })

-- those that have a text aren't too large for one
pub returns-in_err-texts-clause-refused : goal.returns-in_err-texts-clause-refused
returns-in_err-texts-clause-refused c =
    let at = (goal.at.returns-in_err-texts-clause-refused c).In-Some in
    let fault = c.in_err-texts.field-0.0 in
    let chosen_are = ap (chosen c.in-Some.groups.groups) c.deref-3.ensures.value ∙ chosen_told at in
    let told : fault ≡ NoMemory =
    elim c.in_err-texts.ensures.too_large [
      | inl want ↦ want
      | inr first ↦
          absurd (none_too_large (told_in at) fault (with_text_fits (filter (due_in at).due c.requires.covers.groups.groups))
          (subst (λ (groups : List Group). IsFirstTooLarge groups fault) chosen_are first))
    ] in
    search rules

pub texts_at-requires-clause-ids : goal.texts_at-requires-clause-ids
texts_at-requires-clause-ids c =
    subst (All (λ (id : GroupId). IsId c.in-Some.groups.groups id.node)) (sym c.deref-3.ensures.value) (told_each (goal.at.texts_at-requires-clause-ids c).In-Some)

pub reads_at-requires-clause-ids : goal.reads_at-requires-clause-ids
reads_at-requires-clause-ids c =
    subst (All (λ (id : GroupId). IsId c.in-Some.groups.groups id.node)) (sym c.deref-4.ensures.value) (told_each (goal.at.reads_at-requires-clause-ids c).In-Some)

pub returns-clause-waking : goal.returns-clause-waking
returns-clause-waking c =
    let at = (goal.at.returns-clause-waking c).In-Some in
    let g = c.args.graph.now in
    let m = c.args.self.now in
    let covers = c.requires.covers in
    let owners = c.self.inside.body.owners.items in
    let told = c.args.sizes.now.told.items in
    let told_nodes = map (λ (id : GroupId). id.node) told in
    let slots_are : map Some c.in_ok-slots.slots.items ≡ map (λ node. slice_index_or owners node None) told_nodes =
    rw (c.deref.ensures.value, c.deref-2.ensures.value) at c.in_ok-slots.ensures
    ∙ map_twice (λ (id : GroupId). id.node) (λ node. slice_index_or owners node None) told in
    let chosen_texts = ap (chosen c.in-Some.groups.groups) c.deref-3.ensures.value ∙ chosen_told at in
    let chosen_reads = ap (chosen c.in-Some.groups.groups) c.deref-4.ensures.value ∙ chosen_told at in
    let made : Waking = record {
      slots = c.in_ok-slots.slots;
      texts = c.in_ok-texts.field-0.texts;
      maps = c.in_ok-texts.field-0.maps;
      reads = c.in_ok-reads.reads;
    } in
    let waking : IsWaking g m made = record {
      of = record {
        groups = covers.groups.groups;
        are = covers.are.are;
        some = told_in at;
        waiting = AreWaiting-found g m covers _ owners (own_in at) (due_in at).due (slots_in at) (IsPassed c.requires.due.0 m.wide) (due_in at).all
            (passed_told g m covers c.requires.due.0) told_nodes c.in_ok-slots.slots.items (told_ids at) slots_are;
        fit = with_text_fits (filter (due_in at).due covers.groups.groups);
        texts = c.in_ok-texts.ensures.texts ∙ ap (map (text_of_group g)) chosen_texts;
      };
      maps = c.in_ok-texts.ensures.maps ∙ ap (map (local_nodes g)) chosen_texts;
      reads = subst (λ (groups : List Group). AllZip (λ group list. AreReads g group list.items) groups c.in_ok-reads.reads.items) chosen_reads
          c.in_ok-reads.ensures;
    } in
    waking
