-- The groups whose parts wait, found by the least members of these parts.
use Rattle.std.proofs.Common.{◌≡◌, ◌≢◌, ℕ, zero, suc, ◌<◌, Bool, true, false, cond, ◌&&◌, eqb, inl, inr, ◌⊎◌, List, [], ◌∷◌, length, map, filter, get_or, All, Option, Some, None, refl, sym, ap, subst, ◌∙◌, arith, true≢false, eq-eqb}
use Rattle.std.specs.Prelude.{Contains, is_some, slice_get, slice_index, slice_index_or}
use Rattle.std.specs.List.{AllZip, filter_map, cons_option}
use Rattle.std.specs.List.Sorted.{IsStrictlyIncreasing}
use Rattle.std.proofs.lemmas.Bool.{cases_Bool}
use Rattle.std.proofs.lemmas.Bool.Decides.{Decides-eqb}
use Rattle.std.proofs.lemmas.List.{get_or_default, get_or-take, get_or-map, length-map}
use Rattle.std.proofs.lemmas.List.Elements.{Contains-append_right}
use Rattle.std.proofs.lemmas.List.Kept.{AllPairs-from_increasing, IsStrictlyIncreasing-filter}
use Rattle.std.proofs.lemmas.Option.{slice_get_read, slice_get_within, get_or_from_slice_get}
use Rattle.switch_paths.specs.Graphs.{GraphData}
use Rattle.group_meaning.specs.Groups.{Group, IsGroup, id_of}
use Rattle.group_meaning.proofs.AscendingLists.{same_ascending}
use Rattle.group_meaning.proofs.MappedLists.{contains-map, contains-from_map}
use Rattle.group_meaning.proofs.UniqueGroups.{id_member, same_by_member}
use Rattle.channel_groups.specs.declared.group.GroupId.{GroupId}
use Rattle.channel_groups.specs.Grouping.{group_with, IsId}
use Rattle.circuit_texts.specs.Choosing.{chosen}
use Rattle.circuit_texts.proofs.PairedLists.{partner_first}
use Rattle.circuit_texts.specs.declared.texts.BuildFault.{BuildFault}
use Rattle.circuit_texts.specs.Sizes.{fault_in, refused_in, IsFirstRefused, TellsRefused}
use Rattle.circuit_texts.specs.Told.{has_text, with_text}
use Rattle.circuit_texts.proofs.SizeLemmas.{fits_any}
use Rattle.circuit_texts.proofs.ToldLemmas.{text_from_fit, ascending-filter}
use Rattle.machine_parts.specs.declared.part.MachinePart.{MachinePart}
use Rattle.machine_parts.specs.Parts.{Stands, HasMember, IsStale}
use Rattle.machine_laws.specs.Machines.{MachineData}
use Rattle.machine_parts.specs.Marking.{AreOnce}
use Rattle.machine_parts.specs.Running.{AreOwners}
use Rattle.machine_laws.specs.Fitting.{IsPartOf, Covers}
use Rattle.machine_laws.specs.Finishing.{IsSlotOf, HasText, AreWaiting, first_node}
use Rattle.machine_laws.proofs.FilterLemmas.{filter_has, filter_keeps, filter_both}
use Rattle.machine_laws.proofs.HeldLemmas.{known_or_not}
use Rattle.machine_laws.proofs.KeptLemmas.{group_there}
use Rattle.machine_parts.proofs.PartLemmas.{same_part}
use Rattle.machine_laws.proofs.PartGroups.{one_group, member_of_part, some_members}
use Rattle.machine_laws.proofs.FinishingTexts.{first_waiting}
use Rattle.machine_laws.proofs.FinishingGroups.{found_by}
use Rattle.machine_parts.proofs.NumberLists.{is_one_of, one_of-Contains, one_of-from}

-- a test of what is made of the items
map_filter : {X : Type 0} (f : X → ℕ) (p : ℕ → Bool) (xs : List X) → map f (filter (λ x. p (f x)) xs) ≡ filter p (map f xs)
map_filter f p [] = refl
map_filter f p (x ∷ xs) = by (map_filter f p xs) (p (f x))
  where
    by : map f (filter (λ x. p (f x)) xs) ≡ filter p (map f xs) → (b : Bool) →
        map f (cond b (x ∷ filter (λ y. p (f y)) xs) (filter (λ y. p (f y)) xs)) ≡ cond b (f x ∷ filter p (map f xs)) (filter p (map f xs))
    by later true = ap (λ rest. f x ∷ rest) later
    by later false = later

-- each of some groups is found by its id
pick-own : (groups some : List Group) → ((group : Group) → Contains some group → group_with groups (id_of group) ≡ Some group) →
    filter_map (group_with groups) (map id_of some) ≡ some
pick-own groups [] each = refl
pick-own groups (group ∷ some) each =
    let first : group_with groups (id_of group) ≡ Some group = each group (0, omega arith, refl) in
    let later = pick-own groups some (λ other there. each other (Contains-append_right (group ∷ []) some other there)) in
    rw first (ap (λ rest. group ∷ rest) later)

-- the groups with these ids, by their nodes
chosen-nodes : (groups : List Group) (ids : List GroupId) → chosen groups ids ≡ filter_map (group_with groups) (map (λ id. id.node) ids)
chosen-nodes groups [] = refl
chosen-nodes groups (id ∷ ids) = ap (cons_option (group_with groups id.node)) (chosen-nodes groups ids)

-- numbers that are the owners of nodes
some_back : (slots : List ℕ) (k : ℕ) → Contains (map Some slots) (Some k) → Contains slots k
some_back [] k there = absurd (omega (arith, there.1))
some_back (x ∷ slots) k (zero, inside, here) =
    let same : x ≡ k = cc in
    (0, omega arith, same)
some_back (x ∷ slots) k (suc i, inside, here) = Contains-append_right (x ∷ []) slots k (some_back slots k (i, omega (arith, inside), here))

-- the slot of each of some groups
record HasSlot (g : GraphData) (parts : List MachinePart) (owners : List (Option ℕ)) (group : Group) : Type 0 where
  pub k : ℕ
  pub owner : slice_index_or owners (id_of group) None ≡ Some k
  pub slot : IsSlotOf g parts group k

zip_slots : (g : GraphData) (parts : List MachinePart) (owners : List (Option ℕ)) (some : List Group) (slots : List ℕ) →
    ((group : Group) → Contains some group → HasSlot g parts owners group) →
    map Some slots ≡ map (λ node. slice_index_or owners node None) (map id_of some) → AllZip (IsSlotOf g parts) some slots
zip_slots g parts owners [] [] each are = tt
zip_slots g parts owners [] (k ∷ slots) each are = absurd cc
zip_slots g parts owners (group ∷ some) [] each are = absurd cc
zip_slots g parts owners (group ∷ some) (k ∷ slots) each are =
    let has = each group (0, omega arith, refl) in
    let first : Some k ≡ slice_index_or owners (id_of group) None = cc in
    let both : Some k ≡ Some has.k = first ∙ has.owner in
    let same : has.k ≡ k = cc in
    let rest : map Some slots ≡ map (λ node. slice_index_or owners node None) (map id_of some) = cc in (
      subst (IsSlotOf g parts group) same has.slot,
      zip_slots g parts owners some slots (λ other there. each other (Contains-append_right (group ∷ []) some other there)) rest,
    )

-- the first node of the part of a group is the group's least one
pub first_is : (g : GraphData) (parts : List MachinePart) (k : ℕ) (part : MachinePart) → Stands parts k part → (group : Group) →
    IsPartOf g group part →
    first_node parts k ≡ id_of group
first_is g parts k part stands group is_part =
    let some = is_part.is_group.some in
    let within : 0 < part.members = omega (arith, is_part.count, some) in
    ap (λ nodes. slice_index nodes 0)
    (get_or-map (λ (one : MachinePart). one.map.items) parts k part [] stands.inside ∙ ap (λ (one : MachinePart). one.map.items) stands.here)
    ∙ (sym (get_or-take part.members part.map.items 0 0 within) ∙ ap (λ nodes. slice_index nodes 0) is_part.members)

-- a group of the machine has a text, if its part has one as soon as it is stale
pub text_there : (g : GraphData) (m : MachineData) (covers : Covers g m) (group : Group) → Contains covers.groups.groups group →
    ((k : ℕ) (part : MachinePart) → Stands m.parts k part → part.code ≡ None → IsPartOf g group part → slice_index_or m.uses k None ≢ None) →
    HasText g m.parts m.uses group
text_there g m covers group (i, inside, here) told =
    let groups = covers.groups.groups in
    let has = covers.each i group (slice_get_read groups (length groups) i group refl inside (sym here)) in
    record {
      k = has.k;
      part = has.part;
      stands = has.stands;
      is_part = has.is_part;
      numbered =
          elim (known_or_not has.part.code) [
            | inl (code, is) ↦ covers.numbered has.k has.part has.stands (some_members has.is_part) (λ none. absurd (cc (none, is)))
            | inr none ↦ told has.k has.part has.stands none has.is_part
          ];
    }

module _ (g : GraphData) (m : MachineData) (covers : Covers g m) (count : ℕ) (owners : List (Option ℕ)) (own : AreOwners m.parts count owners) where
  abbrev all_groups : List Group
  all_groups = covers.groups.groups

  -- a stale part is the slot of a group, which is found by the part's first node
  pub record Waits (k : ℕ) : Type 0 where
    pub group : Group
    pub there : Contains all_groups group
    pub is_group : IsGroup g group
    pub slot : IsSlotOf g m.parts group k
    pub least : first_node m.parts k ≡ id_of group
    pub owner : slice_index_or owners (id_of group) None ≡ Some k

  pub waits_at : (k : ℕ) → IsStale m.parts k → Waits k
  waits_at k stale =
      let (group, is_part) = covers.whole k stale.part stale.stands stale.some in
      let (i, inside, at) = group_there g all_groups covers.are.are group is_part.is_group in
      let (place, member) = member_of_part g group stale.part is_part (id_of group) (id_member g group is_part.is_group) in
      let has : HasMember m.parts k (id_of group) = record { part = stale.part; stands = stale.stands; place = place; member = member } in
      record {
        group = group;
        there = (i, inside, get_or_from_slice_get all_groups i group group at);
        is_group = is_part.is_group;
        slot = record { part = stale.part; stands = stale.stands; stale = stale.none; is_part = is_part };
        least = first_is g m.parts k stale.part stale.stands group is_part;
        owner = own.owner (id_of group) k has;
      }

  -- a group is found by its id
  pub own_id : (group : Group) → Contains all_groups group → group_with all_groups (id_of group) ≡ Some group
  own_id group (k, inside, here) =
      let is_group : IsGroup g group = subst (IsGroup g) here (covers.are.are.each k group inside) in
      let at = found_by (λ other. eqb (id_of other) (id_of group)) all_groups k group inside here (eq-eqb (id_of group) (id_of group) refl) in
      let other : IsGroup g at.x = subst (IsGroup g) at.here (covers.are.are.each at.k at.x at.inside) in
      let same : id_of at.x ≡ id_of group = (Decides-eqb (id_of at.x) (id_of group)).0 at.passes in
      let member : Contains at.x.members (id_of group) = subst (Contains at.x.members) same (id_member g at.x other) in
      let one : at.x ≡ group = same_by_member g at.x group other is_group (id_of group) member (id_member g group is_group) in
      at.is ∙ ap Some one

  -- the least nodes of the groups of some of the stale parts
  module _ (nodes : List ℕ) (ascending : IsStrictlyIncreasing nodes) (Passed : ℕ → Type 0)
      (all : (k : ℕ) → IsStale m.parts k → Contains nodes (first_node m.parts k) ⊎ Passed (first_node m.parts k))
      (only : (node : ℕ) → Contains nodes node → (k : ℕ) × IsStale m.parts k × (first_node m.parts k ≡ node)) where
    -- each of these nodes is the least one of a group whose part waits
    waits_by : (node : ℕ) → Contains nodes node → (k : ℕ) × (waits : Waits k) × (id_of waits.group ≡ node)
    waits_by node there =
        let (k, stale, first) = only node there in
        let waits = waits_at k stale in
        (k, waits, sym waits.least ∙ first)

    pub nodes_are_ids : All (IsId all_groups) nodes
    nodes_are_ids i d inside =
        let node = get_or nodes i d in
        let (k, waits, same) = waits_by node (i, inside, get_or_default nodes i node d inside) in
        subst (IsId all_groups) same (ap is_some (own_id waits.group waits.there))

    abbrev pub waits_now : Group → Bool
    waits_now group = is_one_of nodes (id_of group)

    abbrev pub waiting_groups : List Group
    waiting_groups = filter waits_now all_groups

    -- their least nodes are these
    waiting_ids : map id_of waiting_groups ≡ nodes
    waiting_ids =
        map_filter id_of (is_one_of nodes) all_groups
        ∙ same_ascending (filter (is_one_of nodes) (map id_of all_groups)) nodes
        (IsStrictlyIncreasing-filter (is_one_of nodes) (map id_of all_groups) covers.are.are.ascending) ascending
        (λ n there. one_of-Contains nodes n (filter_has (is_one_of nodes) (map id_of all_groups) n there).1)
        (λ n there.
        let (k, waits, same) = waits_by n there in
        let (i, inside, here) = waits.there in
        let is_id : Contains (map id_of all_groups) n = subst (Contains (map id_of all_groups)) same (contains-map id_of all_groups i waits.group inside here) in
        filter_keeps (is_one_of nodes) (map id_of all_groups) n is_id (one_of-from nodes n there))

    -- the groups with these ids are those that wait
    pub chosen_waiting : (ids : List GroupId) → map (λ (id : GroupId). id.node) ids ≡ nodes → chosen all_groups ids ≡ waiting_groups
    chosen_waiting ids are =
        chosen-nodes all_groups ids
        ∙ (ap (filter_map (group_with all_groups)) (are ∙ sym waiting_ids)
        ∙ pick-own all_groups waiting_groups (λ group there. own_id group (filter_has waits_now all_groups group there).0))

    -- each of them has a stale part
    pub slot_now : (group : Group) → Contains all_groups group → waits_now group ≡ true → (k : ℕ) × IsSlotOf g m.parts group k
    slot_now group (i, inside, here) passes =
        let (k, waits, same) = waits_by (id_of group) (one_of-Contains nodes (id_of group) passes) in
        let is_group : IsGroup g group = subst (IsGroup g) here (covers.are.are.each i group inside) in
        let member : Contains waits.group.members (id_of group) = subst (Contains waits.group.members) same (id_member g waits.group waits.is_group) in
        let one : waits.group ≡ group = same_by_member g waits.group group waits.is_group is_group (id_of group) member (id_member g group is_group) in
        (k, subst (λ other. IsSlotOf g m.parts other k) one waits.slot)

    -- and each group with a stale part is one of them, or is passed over
    pub due_now : (k : ℕ) (part : MachinePart) (group : Group) → Stands m.parts k part → part.code ≡ None → IsPartOf g group part →
        (waits_now group ≡ true) ⊎ Passed (id_of group)
    due_now k part group stands stale is_part =
        let is_stale : IsStale m.parts k = record { part = part; stands = stands; some = some_members is_part; none = stale } in
        let first : first_node m.parts k ≡ id_of group = first_is g m.parts k part stands group is_part in
        elim (all k is_stale) [
          | inl among ↦ inl (one_of-from nodes (id_of group) (subst (Contains nodes) first among))
          | inr passed ↦ inr (subst Passed first passed)
        ]

    module _ (large : ℕ) (passes : (k : ℕ) (part : MachinePart) (group : Group) → Stands m.parts k part → part.code ≡ None → IsPartOf g group part →
        Passed (id_of group) → refused_in large group ≡ None) where
      -- a group that doesn't wait isn't refused, if none is that is passed over
      others_fit : (group : Group) → Contains all_groups group → waits_now group ≡ false → refused_in large group ≡ None
      others_fit group (i, inside, here) waits_not =
          let at : slice_get all_groups i ≡ Some group = slice_get_read all_groups (length all_groups) i group refl inside (sym here) in
          let has = covers.each i group at in
          elim (known_or_not has.part.code) [
            | inl (code, is) ↦
                let numbered = covers.numbered has.k has.part has.stands (some_members has.is_part) (λ none. absurd (cc (none, is))) in
                fits_any large group (covers.known has.k has.part has.stands numbered group has.is_part).fits
            | inr none ↦
                elim (due_now has.k has.part group has.stands none has.is_part) [
                  | inl waits ↦ absurd (true≢false (sym waits ∙ waits_not))
                  | inr passed ↦ passes has.k has.part group has.stands none has.is_part passed
                ]
          ]

      -- the first of the waiting groups that is refused is told
      pub TellsRefused-waiting : (fault : BuildFault) → IsFirstRefused large waiting_groups fault → TellsRefused large g fault
      TellsRefused-waiting fault first = record {
        groups = all_groups;
        are = covers.are.are;
        first = first_waiting large waits_now all_groups others_fit fault first;
      }

      -- and if none of them is refused, no group is
      pub none_refused : All (λ group. refused_in large group ≡ None) waiting_groups → All (λ group. refused_in large group ≡ None) all_groups
      none_refused fits i d inside =
          let group = get_or all_groups i d in
          let there : Contains all_groups group = (i, inside, get_or_default all_groups i group d inside) in
          elim (cases_Bool (waits_now group)) [
            | inl waits ↦
                let (j, within, here) = filter_keeps waits_now all_groups group there waits in
                subst (λ one. refused_in large one ≡ None) here (fits j group within)
            | inr not_waiting ↦ others_fit group there not_waiting
          ]

  -- some groups with a stale part are due, and each other one is passed over
  module _ (due : Group → Bool) (slot_of : (group : Group) → Contains all_groups group → due group ≡ true → (k : ℕ) × IsSlotOf g m.parts group k)
      (Passed : ℕ → Type 0)
      (due_all : (k : ℕ) (part : MachinePart) (group : Group) → Stands m.parts k part → part.code ≡ None → IsPartOf g group part →
      (due group ≡ true) ⊎ Passed (id_of group)) where
    abbrev pub due_groups : List Group
    due_groups = filter due all_groups

    -- a due group has its slot
    due_slot : (group : Group) → Contains due_groups group → HasSlot g m.parts owners group
    due_slot group there =
        let (in_all, is_due) = filter_has due all_groups group there in
        let (k, slot) = slot_of group in_all is_due in
        let (place, member) = member_of_part g group slot.part slot.is_part (id_of group) (id_member g group slot.is_part.is_group) in
        record {
          k = k;
          owner = own.owner (id_of group) k (record { part = slot.part; stands = slot.stands; place = place; member = member });
          slot = slot;
        }

    -- those of them that have a text
    abbrev pub told_groups : List Group
    told_groups = with_text due_groups

    abbrev due_told : Group → Bool
    due_told group = due group && has_text group

    told_are : told_groups ≡ filter due_told all_groups
    told_are = filter_both due has_text all_groups

    told_there : (group : Group) → Contains told_groups group → Contains due_groups group × (has_text group ≡ true)
    told_there group there = filter_has has_text due_groups group there

    -- their least nodes have owners
    pub told_owned : (told_nodes : List ℕ) → map id_of told_groups ≡ told_nodes → All (λ node. slice_index_or owners node None ≢ None) told_nodes
    told_owned told_nodes told_ids i d inside none =
        let node = get_or told_nodes i d in
        let there : Contains (map id_of told_groups) node = subst (λ xs. Contains xs node) (sym told_ids) (i, inside, get_or_default told_nodes i node d inside) in
        let any = contains-from_map id_of told_groups node there in
        let slot = due_slot any.1 (told_there any.1 (any.0, any.2, any.3)).0 in
        let both : Some slot.k ≡ None = sym slot.owner ∙ (ap (λ n. slice_index_or owners n None) any.4 ∙ none) in
        absurd cc

    module _ (told : (k : ℕ) (part : MachinePart) (group : Group) → Stands m.parts k part → part.code ≡ None → IsPartOf g group part →
        Passed (id_of group) → fault_in group ≡ None → slice_index_or m.uses k None ≢ None) (told_nodes slots : List ℕ) (told_ids : map id_of told_groups ≡ told_nodes)
        (slots_are : map Some slots ≡ map (λ node. slice_index_or owners node None) told_nodes) where
      slots_zip : AllZip (IsSlotOf g m.parts) told_groups slots
      slots_zip =
          zip_slots g m.parts owners told_groups slots (λ group there. due_slot group (told_there group there).0)
          (slots_are ∙ ap (map (λ node. slice_index_or owners node None)) (sym told_ids))

      slots_all : (k : ℕ) (part : MachinePart) (group : Group) → Stands m.parts k part → part.code ≡ None → IsPartOf g group part → fault_in group ≡ None →
          Contains slots k ⊎ (slice_index_or m.uses k None ≢ None)
      slots_all k part group stands stale is_part fits =
          elim (due_all k part group stands stale is_part) [
            | inr passed ↦ inr (told k part group stands stale is_part passed fits)
            | inl is_due ↦
                let (n, within_all, at) = group_there g all_groups covers.are.are group is_part.is_group in
                let there : Contains all_groups group = (n, within_all, get_or_from_slice_get all_groups n group group at) in
                let (i, inside, here) = filter_keeps has_text due_groups group (filter_keeps due all_groups group there is_due) (text_from_fit group fits) in
                let (j, within, stood) = subst (λ xs. Contains xs (id_of group)) told_ids (contains-map id_of told_groups i group inside here) in
                let (place, member) = member_of_part g group part is_part (id_of group) (id_member g group is_part.is_group) in
                let owner_is : slice_index_or owners (id_of group) None ≡ Some k =
                own.owner (id_of group) k (record { part = part; stands = stands; place = place; member = member }) in
                inl (some_back slots k
                (subst (λ xs. Contains xs (Some k)) (sym slots_are)
                (subst (Contains (map (λ node. slice_index_or owners node None) told_nodes)) owner_is
                (contains-map (λ node. slice_index_or owners node None) told_nodes j (id_of group) within stood))))
          ]

      slots_once : AreOnce slots
      slots_once i j before inside same =
          let k = slice_index slots i in
          let i_inside : i < length slots = omega (arith, before, inside) in
          let at_i : slice_get slots i ≡ Some k = slice_get_read slots (length slots) i k refl i_inside (sym (get_or_default slots i k 0 i_inside)) in
          let at_j : slice_get slots j ≡ Some k = slice_get_read slots (length slots) j k refl inside (same ∙ sym (get_or_default slots j k 0 inside)) in
          let (x, x_at, x_slot) = partner_first (IsSlotOf g m.parts) told_groups slots i k slots_zip at_i in
          let (y, y_at, y_slot) = partner_first (IsSlotOf g m.parts) told_groups slots j k slots_zip at_j in
          let one_part : x_slot.part ≡ y_slot.part = same_part m.parts k x_slot.part y_slot.part x_slot.stands y_slot.stands in
          let one : x ≡ y = one_group g x y y_slot.part (subst (IsPartOf g x) one_part x_slot.is_part) y_slot.is_part in
          let ids = map id_of told_groups in
          let ascends = ascending-filter has_text due_groups (ascending-filter due all_groups covers.are.are.ascending) in
          let j_inside : j < length ids = omega (arith, slice_get_within told_groups j y y_at, length-map told_groups id_of) in
          let below : slice_index ids i < slice_index ids j = AllPairs-from_increasing ids ascends i j 0 before j_inside in
          omega (arith, below, node_at i x x_at, node_at j y y_at, ap id_of one)
        where
          node_at : (n : ℕ) (group : Group) → slice_get told_groups n ≡ Some group → slice_index (map id_of told_groups) n ≡ id_of group
          node_at n group at =
              let within = slice_get_within told_groups n group at in
              get_or-map id_of told_groups n group 0 within ∙ ap id_of (get_or_from_slice_get told_groups n group group at)

      -- the part of a group with a text that isn't due has it
      others_told : (group : Group) → Contains all_groups group → due_told group ≡ false → fault_in group ≡ None → HasText g m.parts m.uses group
      others_told group there fails fits =
          text_there g m covers group there (λ k part stands none is_part.
          elim (due_all k part group stands none is_part) [
            | inl is_due ↦ absurd (both (due group) (has_text group) is_due (text_from_fit group fits) fails)
            | inr passed ↦ told k part group stands none is_part passed fits
          ])
        where
          both : (a b : Bool) → a ≡ true → b ≡ true → ¬ ((a && b) ≡ false)
          both true true one two fails = true≢false fails
          both true false one two fails = true≢false (sym two)
          both false b one two fails = true≢false (sym one)

      -- so these groups wait, with these slots
      pub AreWaiting-found : AreWaiting g m.parts m.uses all_groups told_groups slots
      AreWaiting-found = record {
        waits = due_told;
        some_are = told_are;
        others = others_told;
        slots_are = slots_zip;
        all = slots_all;
        once = slots_once;
      }
