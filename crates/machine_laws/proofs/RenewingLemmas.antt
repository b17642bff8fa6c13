-- The groups that have some nodes get new stale parts, node by node.
use Rattle.std.proofs.Common.{◌≡◌, append-nil, ℕ, ◌+◌, ◌-◌, zero, suc, true, eqb, get_or, ◌<◌, ◌≤◌, inl, inr, ◌⊎◌, List, [], ◌∷◌, ◌++◌, length, take, Option, None, Some, refl, sym, ap, subst, ◌∙◌, arith}
use Rattle.std.specs.Prelude.{◌↔◌, All, Contains, slice_index, find, is_some, option_map}
use Rattle.std.proofs.lemmas.Bool.{cases_Bool, cases_lt}
use Rattle.std.specs.List.Sorted.{IsStrictlyIncreasing}
use Rattle.std.proofs.lemmas.List.{take_all, get_or_default}
use Rattle.std.proofs.lemmas.List.Elements.{All-contains, Contains-push, Contains-push_cases, Contains-append_left, Contains-append_right, Contains-append_cases}
use Rattle.std.proofs.lemmas.Bool.Decides.{Decides-eqb}
use Rattle.switch_paths.specs.Graphs.{GraphData, nodes}
use Rattle.group_meaning.specs.Groups.{Group, IsGroup, AreGroups, id_of}
use Rattle.group_meaning.proofs.GroupLemmas.{member_storage}
use Rattle.group_meaning.proofs.UniqueGroups.{same_by_id, same_by_member}
use Rattle.channel_groups.specs.Grouping.{has_member, group_with}
use Rattle.channel_groups.proofs.HeldLemmas.{has_member-from, has_member-Contains}
use Rattle.machine_parts.specs.declared.part.MachinePart.{MachinePart}
use Rattle.machine_parts.specs.Parts.{Stands, HasMember}
use Rattle.machine_laws.specs.Machines.{MachineData}
use Rattle.machine_laws.specs.Seating.{Renews, IsStalePartOf, HasAny, HasStale, IsNew, IsWithAny, members_in, RenewsAll, RenewsAt}
use Rattle.machine_parts.proofs.PartLemmas.{same_part}
use Rattle.machine_parts.proofs.MakingLemmas.{member_at_front, front_of_member}
use Rattle.machine_laws.proofs.HeldParts.{KeepsKnown-same, KeepsKnown-then}
use Rattle.machine_laws.proofs.ClearingLemmas.{KeepsRest-same, KeepsRest-then}
use Rattle.machine_laws.proofs.FinishingGroups.{found}

-- one of the nodes so far is a member, or the last one is
pub any_before : (nodes : List ℕ) (node : ℕ) (group : Group) → HasAny nodes group → HasAny (nodes ++ node ∷ []) group
any_before nodes node group has = record { node = has.node; among = Contains-append_left nodes (node ∷ []) has.node has.among; member = has.member }

pub any_last : (nodes : List ℕ) (node : ℕ) (group : Group) → Contains group.members node → HasAny (nodes ++ node ∷ []) group
any_last nodes node group member = record { node = node; among = Contains-push nodes node; member = member }

pub any_cases : (nodes : List ℕ) (node : ℕ) (group : Group) → HasAny (nodes ++ node ∷ []) group → HasAny nodes group ⊎ Contains group.members node
any_cases nodes node group has =
    elim (Contains-push_cases nodes node has.node has.among) [
      | inl before ↦ inl (record { node = has.node; among = before; member = has.member })
      | inr last ↦ inr (subst (Contains group.members) (sym last) has.member)
    ]

module _ (members : List ℕ) (parts : List MachinePart) (k : ℕ) (part : MachinePart) (stands : Stands parts k part) (is_new : IsStalePartOf members part) where
  few_members : part.members ≤ length part.map.items
  few_members = omega (arith, is_new.members, ap length is_new.map)

  pub stale_members : take part.members part.map.items ≡ members
  stale_members = ap (take part.members) is_new.map ∙ take_all part.members members (omega (arith, is_new.members))

  -- a stale part has these members
  pub stale_member : (node : ℕ) → HasMember parts k node → Contains members node
  stale_member node has = subst (λ xs. Contains xs node) stale_members (front_of_member parts k part stands few_members node has)

  pub member_stale : (node : ℕ) → Contains members node → HasMember parts k node
  member_stale node there =
      member_at_front parts k part stands few_members node (subst (λ xs. Contains xs node) (sym stale_members) there)

-- of no nodes there is none
pub with_none_start : (groups : List Group) (node : ℕ) (found : List ℕ) → found ≡ [] → Contains found node ↔ IsWithAny groups [] node
with_none_start groups node found is = (λ among. absurd (omega (arith, among.1, ap length is)), λ with. absurd (omega (arith, with.has.among.1)))

-- what was found stands there
found_is : {X : Type 0} (o : Option X) (x : X) → o ≡ Some x → is_some o ≡ true
found_is None x is = absurd cc
found_is (Some y) x is = refl

by_id : (o : Option Group) (id : ℕ) → option_map id_of o ≡ Some id → (group : Group) × (o ≡ Some group) × (id_of group ≡ id)
by_id None id is = absurd cc
by_id (Some group) id is = (group, refl, cc)

-- what ascends is less before than after
rises : (xs : List ℕ) → IsStrictlyIncreasing xs → (i n : ℕ) → i + suc n < length xs → slice_index xs i < slice_index xs (i + suc n)
rises xs ascends i zero inside = ascends i inside
rises xs ascends i (suc n) inside =
    let before = rises xs ascends i n (omega (arith, inside)) in
    let next : slice_index xs (i + suc n) < slice_index xs (i + suc n + 1) = ascends (i + suc n) (omega (arith, inside)) in
    let same : i + suc n + 1 ≡ i + suc (suc n) = omega arith in
    omega (arith, before, next, ap (slice_index xs) same)

rises_to : (xs : List ℕ) → IsStrictlyIncreasing xs → (i j : ℕ) → i < j → j < length xs → slice_index xs i < slice_index xs j
rises_to xs ascends i j below inside =
    let same : i + suc (j - (i + 1)) ≡ j = omega (arith, below) in
    subst (λ n. slice_index xs i < slice_index xs n) same (rises xs ascends i (j - (i + 1)) (omega (arith, same, inside)))

-- the members of a group are nodes of the graph, each once
pub members_inside : (g : GraphData) (group : Group) → IsGroup g group → All (λ node. node < nodes g) group.members
members_inside g group is_group i d inside =
    let node = get_or group.members i d in
    (member_storage g group is_group node (i, inside, get_or_default group.members i node d inside)).inside

pub members_once : (g : GraphData) (group : Group) → IsGroup g group → (i j : ℕ) → i < length group.members → j < length group.members →
    slice_index group.members i ≡ slice_index group.members j → i ≡ j
members_once g group is_group i j i_inside j_inside same =
    elim (cases_lt i j) [
      | inl below ↦ absurd (omega (arith, same, rises_to group.members is_group.ascending i j below j_inside))
      | inr not_below ↦
          elim (cases_lt j i) [
            | inl above ↦ absurd (omega (arith, same, rises_to group.members is_group.ascending j i above i_inside))
            | inr not_above ↦ omega (arith, not_below, not_above)
          ]
    ]

module _ (g : GraphData) (groups : List Group) (are : AreGroups g groups) where
  pub group_in : (group : Group) → Contains groups group → IsGroup g group
  group_in group there = All-contains (IsGroup g) groups group are.each there

  -- a node is a member of one group
  pub one_of_node : (one two : Group) (node : ℕ) → Contains groups one → Contains groups two → Contains one.members node → Contains two.members node →
      one ≡ two
  one_of_node one two node in_one in_two here there = same_by_member g one two (group_in one in_one) (group_in two in_two) node here there

  -- the group that was found for a node has it
  pub found_group : (node : ℕ) (group : Group) → find (has_member node) groups ≡ Some group → Contains groups group × Contains group.members node
  found_group node group is =
      let at = found (has_member node) groups (found_is (find (has_member node) groups) group is) in
      let both : Some at.x ≡ Some group = sym at.is ∙ is in
      let same : at.x ≡ group = cc in (
        (at.k, at.inside, subst (λ (x : Group). get_or groups at.k x ≡ x) same at.here),
        has_member-Contains node group (ap (has_member node) (sym same) ∙ at.passes),
      )

  -- and where none was found none has it
  pub none_found : (node : ℕ) → find (has_member node) groups ≡ None → (group : Group) → Contains groups group → ¬ Contains group.members node
  none_found node none group there member =
      let at = found (has_member node) groups (passing groups there.0 group there.1 there.2 (has_member-from node group member)) in
      let both : Some at.x ≡ None = sym at.is ∙ none in
      absurd cc
    where
      passing : (xs : List Group) (k : ℕ) (group : Group) → k < length xs → get_or xs k group ≡ group → has_member node group ≡ true →
          is_some (find (has_member node) xs) ≡ true
      passing [] k group inside here passes = absurd (omega (arith, inside))
      passing (x ∷ xs) zero group inside here passes = rw (ap (has_member node) here ∙ passes) refl
      passing (x ∷ xs) (suc k) group inside here passes =
          elim (cases_Bool (has_member node x)) [
            | inl first ↦ rw first refl
            | inr fails ↦ rw fails (passing xs k group (omega (arith, inside)) here passes)
          ]

  -- the group with the id of the group of a node is the group of the node
  pub group_by_id : (node id : ℕ) (group : Group) → option_map id_of (find (has_member node) groups) ≡ Some id → group_with groups id ≡ Some group →
      find (has_member node) groups ≡ Some group
  group_by_id node id group id_is with_id =
      let (one, one_is, same) = by_id (find (has_member node) groups) id id_is in
      let (in_groups, member) = found_group node one one_is in
      let at = found (λ (other : Group). eqb (id_of other) id) groups (found_is (group_with groups id) group with_id) in
      let both : Some at.x ≡ Some group = sym at.is ∙ with_id in
      let is : at.x ≡ group = cc in
      let there : Contains groups at.x = (at.k, at.inside, at.here) in
      let same_id : id_of at.x ≡ id = (Decides-eqb (id_of at.x) id).0 at.passes in
      one_is ∙ ap Some (same_by_id g one at.x (group_in one in_groups) (group_in at.x there) (same ∙ sym same_id) ∙ is)

  -- a node more that is in no group
  pub with_none_more : (nodes : List ℕ) (n : ℕ) (found : List ℕ) → ((node : ℕ) → Contains found node ↔ IsWithAny groups nodes node) →
      ((group : Group) → Contains groups group → ¬ Contains group.members n) → (new : List ℕ) → new ≡ found → (node : ℕ) →
      Contains new node ↔ IsWithAny groups (nodes ++ n ∷ []) node
  with_none_more nodes n found so_far none new new_is node =
      let (to, from) = so_far node in (
        λ among.
            let was = to (subst (λ xs. Contains xs node) new_is among) in
            record { group = was.group; there = was.there; has = any_before nodes n was.group was.has; member = was.member },
        λ with.
            elim (any_cases nodes n with.group with.has) [
              | inl before ↦
                  subst (λ xs. Contains xs node) (sym new_is)
                  (from (record { group = with.group; there = with.there; has = before; member = with.member }))
              | inr its ↦ absurd (none with.group with.there its)
            ],
      )

  -- a node that isn't one of the graph is in no group
  pub outside_none : (node : ℕ) → nodes g ≤ node → (group : Group) → Contains groups group → ¬ Contains group.members node
  outside_none node past group there member = absurd (omega (arith, past, (member_storage g group (group_in group there) node member).inside))

  -- the members of the groups of one node more
  pub with_any_more : (nodes : List ℕ) (n : ℕ) (found new : List ℕ) → ((node : ℕ) → Contains found node ↔ IsWithAny groups nodes node) →
      (o : Option Group) → o ≡ find (has_member n) groups → new ≡ found ++ members_in o → (node : ℕ) →
      Contains new node ↔ IsWithAny groups (nodes ++ n ∷ []) node
  with_any_more nodes n found new so_far None is new_is node = with_none_more nodes n found so_far (none_found n (sym is)) new (new_is ∙ append-nil found) node
  with_any_more nodes n found new so_far (Some group) is new_is node =
      let (there, member) = found_group n group (sym is) in
      let (to, from) = so_far node in (
        λ among.
            elim (Contains-append_cases found group.members node (subst (λ xs. Contains xs node) new_is among)) [
              | inl before ↦
                  let was = to before in
                  record { group = was.group; there = was.there; has = any_before nodes n was.group was.has; member = was.member }
              | inr here ↦ record { group = group; there = there; has = any_last nodes n group member; member = here }
            ],
        λ with.
            subst (λ xs. Contains xs node) (sym new_is)
            (elim (any_cases nodes n with.group with.has) [
              | inl before ↦
                  Contains-append_left found group.members node (from (record { group = with.group; there = with.there; has = before; member = with.member }))
              | inr its ↦
                  let same = one_of_node with.group group n with.there there its member in
                  Contains-append_right found group.members node (subst (λ (one : Group). Contains one.members node) same with.member)
            ]),
      )

  -- before the first node nothing has changed
  pub RenewsAll-start : (m : MachineData) → RenewsAll groups [] m m
  RenewsAll-start m = record {
    was = λ k part stands some. inl stands;
    uses = λ k part stands inside some. refl;
    untold = λ tidy k part stands past some. absurd (omega (arith, past, stands.inside));
    marks = λ k inside. (λ marked. marked, λ marked. marked);
    stays = λ k part stands free. stands;
    has = λ group there has. absurd (omega (arith, has.among.1));
    count = omega arith;
    tidy = λ tidy. tidy;
    wide = KeepsKnown-same m.parts m.wide;
    rest = KeepsRest-same m;
  }

  module _ (nodes : List ℕ) (node : ℕ) (old mid : MachineData) (free : (k : ℕ) → ¬ HasMember old.parts k node) (first : RenewsAll groups nodes old mid) where
    newer : (part : MachinePart) → IsNew groups nodes part → IsNew groups (nodes ++ node ∷ []) part
    newer part is = record { group = is.group; there = is.there; has = any_before nodes node is.group is.has; is_new = is.is_new }

    was_more : (k : ℕ) (part : MachinePart) → Stands mid.parts k part → 0 < part.members →
        Stands old.parts k part ⊎ ((length old.parts ≤ k) × IsNew groups (nodes ++ node ∷ []) part)
    was_more k part stands some =
        elim (first.was k part stands some) [
          | inl before ↦ inl before
          | inr (later, is) ↦ inr (later, newer part is)
        ]

    -- a part that has the node is that of its group
    has_its : (k : ℕ) → HasMember mid.parts k node → (group : Group) → Contains groups group → Contains group.members node → HasStale group.members mid.parts
    has_its k held group there member =
        elim (first.was k held.part held.stands (omega (arith, held.member.inside))) [
          | inl before ↦ absurd (free k (record { part = held.part; stands = before; place = held.place; member = held.member }))
          | inr (later, is) ↦
              let same = one_of_node is.group group node is.there there (stale_member is.group.members mid.parts k held.part held.stands is.is_new node held) member in
              first.has group there (subst (HasAny nodes) same is.has)
        ]

    unchanged : ((k : ℕ) × HasMember mid.parts k node) ⊎ ((group : Group) → Contains groups group → ¬ Contains group.members node) →
        RenewsAll groups (nodes ++ node ∷ []) old mid
    unchanged why = record {
      was = was_more;
      uses = first.uses;
      untold = first.untold;
      marks = first.marks;
      stays = λ k part stands none. first.stays k part stands (λ group other there has. none group other there (any_before nodes node group has));
      has = λ group there has.
          elim (any_cases nodes node group has) [
            | inl before ↦ first.has group there before
            | inr member ↦
                elim why [
                  | inl (k, held) ↦ has_its k held group there member
                  | inr none ↦ absurd (none group there member)
                ]
          ];
      count = first.count;
      tidy = first.tidy;
      wide = first.wide;
      rest = first.rest;
    }

    module _ (new : MachineData) (ownerless : (k : ℕ) → ¬ HasMember mid.parts k node) (group : Group) (there : Contains groups group)
        (member : Contains group.members node) (then : Renews group.members mid new) where
      mine : HasStale group.members new.parts
      mine = record { k = then.k; part = then.part; stands = then.stands; is_new = then.is_new }

      -- the part of another group stays
      others : (other : Group) → Contains groups other → HasStale other.members mid.parts → HasStale other.members new.parts
      others other in_groups has = record {
        k = has.k;
        part = has.part;
        stands = then.stays has.k has.part has.stands (λ n in_group held.
            let in_other = stale_member other.members mid.parts has.k has.part has.stands has.is_new n held in
            let same = one_of_node group other n there in_groups in_group in_other in
            ownerless has.k
            (member_stale other.members mid.parts has.k has.part has.stands has.is_new node (subst (λ (one : Group). Contains one.members node) same member)));
        is_new = has.is_new;
      }

      stood_before : (k : ℕ) (part : MachinePart) → Stands new.parts k part → k < length mid.parts → 0 < part.members → Stands mid.parts k part
      stood_before k part stands inside some =
          elim (then.was k part stands some) [
            | inl before ↦ before
            | inr (last, is) ↦ absurd (omega (arith, last, inside))
          ]

      renewed : RenewsAll groups (nodes ++ node ∷ []) old new
      renewed = record {
        was = λ k part stands some.
            elim (then.was k part stands some) [
              | inl before ↦ was_more k part before some
              | inr (last, is) ↦
                  inr (omega (arith, last, first.count), record { group = group; there = there; has = any_last nodes node group member; is_new = is })
            ];
        uses = λ k part stands inside some.
            let within : k < length mid.parts = omega (arith, inside, first.count) in
            elim (then.was k part stands some) [
              | inl before ↦ then.uses k part stands within some ∙ first.uses k part before inside some
              | inr (last, is) ↦ absurd (omega (arith, last, within))
            ];
        untold = λ tidy k part stands past some.
            elim (then.was k part stands some) [
              | inl before ↦ then.uses k part stands before.inside some ∙ first.untold tidy k part before past some
              | inr (last, is) ↦ then.untold (first.tidy tidy) k (omega (arith, last))
            ];
        marks = λ k inside.
            let (to, from) = then.marks k (omega (arith, inside, first.count)) in
            let (back, forth) = first.marks k inside in
            (λ marked. back (to marked), λ marked. from (forth marked));
        stays = λ k part stands none.
            let middle = first.stays k part stands (λ one other in_groups has. none one other in_groups (any_before nodes node one has)) in
            then.stays k part middle (λ other in_group held.
            let same = same_part mid.parts k part held.part middle held.stands in
            none group other there (any_last nodes node group member) in_group
            (record { part = held.part; stands = subst (Stands old.parts k) same stands; place = held.place; member = held.member }));
        has = λ other in_groups has.
            elim (any_cases nodes node other has) [
              | inl before ↦ others other in_groups (first.has other in_groups before)
              | inr its ↦ subst (λ (one : Group). HasStale one.members new.parts) (one_of_node group other node there in_groups member its) mine
            ];
        count = omega (arith, first.count, then.count);
        tidy = λ tidy. then.tidy (first.tidy tidy);
        wide = KeepsKnown-then old.parts mid.parts new.parts old.wide mid.wide new.wide first.count stood_before first.wide then.wide;
        rest = KeepsRest-then old mid new first.rest then.rest;
      }

    -- one node more
    pub RenewsAll-more : (new : MachineData) → RenewsAt groups node mid new → RenewsAll groups (nodes ++ node ∷ []) old new
    RenewsAll-more new then =
        elim then [
          | inl (same, why) ↦ subst (RenewsAll groups (nodes ++ node ∷ []) old) (sym same) (unchanged why)
          | inr (ownerless, (group, there, member, renews)) ↦ renewed new ownerless group there member renews
        ]
