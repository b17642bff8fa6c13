-- A machine that followed an edit covers the graph: the groups that the edit touches have new stale parts, and every other group has
-- the part that it had.
use Rattle.std.proofs.Common.{◌≡◌, append-nil, ◌≢◌, ℕ, ◌-◌, ◌<◌, ◌≤◌, true, false, inl, inr, ◌⊎◌, List, ◌++◌, length, take, replicate, Option, Some, None, refl, sym, ap, subst, ◌∙◌, arith}
use Rattle.std.specs.Prelude.{◌↔◌, Contains, slice_get, slice_index_or}
use Rattle.std.proofs.lemmas.Bool.{cases_lt}
use Rattle.std.proofs.lemmas.List.{length-append, length-replicate, length-set, length-take, get_or_append_left}
use Rattle.std.proofs.lemmas.Option.{slice_get_within, get_or_from_slice_get, slice_get_read}
use Rattle.ternary.specs.declared.tern.Tern.{Tern}
use Rattle.ternary.specs.declared.tern.Tern.TheVariants.{Unk, Zero}
use Rattle.switch_paths.specs.Switching.{state_at}
use Rattle.switch_paths.specs.Graphs.{GraphData, IsWired, IsStorage, nodes}
use Rattle.switch_paths.specs.Step.{IsResponse}
use Rattle.switch_paths.proofs.PathLemmas.{switch_fits}
use Rattle.group_meaning.specs.Groups.{Group, IsGroup, AreGroups, id_of}
use Rattle.group_meaning.proofs.UniqueGroups.{id_member, same_by_member}
use Rattle.group_meaning.proofs.GroupLemmas.{member_storage}
use Rattle.channel_groups.specs.declared.change.Change.{Change}
use Rattle.channel_groups.specs.Changes.{undo, with_level, nodes_before, nodes_after, is_touched_now}
use Rattle.channel_groups.specs.Grouping.{GroupsData, AreOf}
use Rattle.channel_groups.proofs.ChangeLemmas.{DifferAt-undo}
use Rattle.channel_groups.proofs.KeptLemmas.{IsKept-untouched}
use Rattle.group_text.specs.Texts.{GroupTextData}
use Rattle.group_rest.specs.Alike.{IsAlike}
use Rattle.group_rest.specs.Rest.{Reads, Rests}
use Rattle.group_rest.proofs.AlikeGroups.{alike_groups_have_one_text, alike_groups_rest_alike}
use Rattle.group_rest.proofs.RestingGroups.{unread_group_rests}
use Rattle.machine_parts.specs.declared.part.MachinePart.{MachinePart}
use Rattle.machine_parts.specs.Parts.{Stands, IsMemberAt, HasMember, IsStale, AreApart}
use Rattle.machine_laws.specs.Machines.{MachineData, groups_in}
use Rattle.machine_parts.specs.Marking.{IsMarked}
use Rattle.vicinity.specs.Wides.{WideData}
use Rattle.vicinity.specs.Growing.{GrowsWide}
use Rattle.vicinity.proofs.GrowingLemmas.{storage_before}
use Rattle.wide_groups.specs.Moving.{HasStaleOnly}
use Rattle.wide_groups.specs.Staying.{GrowsIn}
use Rattle.wide_groups.proofs.StayingLemmas.{grown_wide, wide_grown}
use Rattle.machine_laws.specs.Fitting.{IsPartOf, HasPart, IsTextOf, IsHeldIn, IsOutside, Covers}
use Rattle.machine_laws.specs.Editing.{with_new_nodes, is_touched_in, Edits}
use Rattle.machine_laws.specs.Seating.{KeepsKnown, Clears, IsStalePartOf, HasAny, IsWithAny, IsTidy, RenewsAll}
use Rattle.machine_parts.proofs.PartLemmas.{same_part}
use Rattle.machine_laws.proofs.PartGroups.{member_in_group, member_of_part, one_group}
use Rattle.machine_laws.proofs.FittingLemmas.{none_rest}
use Rattle.machine_laws.proofs.HeldLemmas.{IsHeldIn-grown}
use Rattle.machine_laws.proofs.HeldParts.{taken_member, member_taken, KeepsKnown-then, HasStaleOnly-kept}
use Rattle.machine_laws.proofs.AlikeParts.{alike_groups_keep_their_parts}
use Rattle.machine_laws.proofs.KeptLemmas.{group_there}
use Rattle.machine_laws.proofs.RenewingLemmas.{stale_members, member_stale, one_of_node}
use Rattle.machine_laws.proofs.CountingLemmas.{count_parts}
use Rattle.machine_laws.proofs.TouchedLemmas.{touched_or_not, after_in_nodes, touched_has, has_touched}

-- the new part of a group is its part
part_of_group : (g : GraphData) (group : Group) (parts : List MachinePart) (k : ℕ) (part : MachinePart) → Stands parts k part → IsGroup g group →
    IsStalePartOf group.members part → IsPartOf g group part
part_of_group g group parts k part stands is_group is_new = record {
  is_group = is_group;
  count = is_new.members;
  members = stale_members group.members parts k part stands is_new;
  coded = λ code is.
      let both : None ≡ Some code = sym is_new.code ∙ is in
      absurd cc;
}

-- the states of the old nodes stay where new nodes come behind
state_stays : (state : List Tern) (count node : ℕ) → node < length state → state_at (state ++ replicate count Unk) node ≡ state_at state node
state_stays state count node inside = get_or_append_left state (replicate count Unk) Zero node inside

-- what a group reads is a node of its graph
reads_inside : (g : GraphData) (group : Group) (node : ℕ) → IsWired g → Reads g group node → node < nodes g
reads_inside g group node wired reads =
    let fits = switch_fits g wired reads.place reads.switch reads.at_place in
    elim reads.reads [
      | inl gate ↦ subst (λ n. n < nodes g) gate fits.gate
      | inr (ends, input) ↦ elim ends [ inl a ↦ subst (λ n. n < nodes g) a fits.a | inr b ↦ subst (λ n. n < nodes g) b fits.b ]
    ]

-- so a group that rests, rests with new nodes behind
pub rests_grown : (g : GraphData) (group : Group) (state : List Tern) (count : ℕ) → IsWired g → IsGroup g group → length state ≡ nodes g →
    Rests g state group.members → Rests g (state ++ replicate count Unk) group.members
rests_grown g group state count wired is_group counted rests =
    unread_group_rests g group state (state ++ replicate count Unk) wired is_group
    (λ node member.
    subst (IsResponse g state node) (sym (state_stays state count node (omega (arith, counted, (member_storage g group is_group node member).inside)))) (rests node member))
    (λ node reads. state_stays state count node (omega (arith, counted, reads_inside g group node wired reads)))

-- a graph has no more nodes before an edit than after it
pub few_before : (g : GraphData) (change : Change) → nodes (undo g change) ≤ nodes g
few_before g change = omega (arith, count change.level, length-take change.nodes g.levels)
  where
    count : (held : Option (ℕ × ℕ)) → length (with_level held (take change.nodes g.levels)) ≡ length (take change.nodes g.levels)
    count None = refl
    count (Some was) = length-set (take change.nodes g.levels) was.0 was.1

-- states with new nodes are states of so many nodes
pub counted_grown : (g : GraphData) (change : Change) (state : List Tern) → length state ≡ nodes (undo g change) →
    length (with_new_nodes state (nodes g)) ≡ nodes g
counted_grown g change state counted =
    omega (arith, length-append state (replicate (nodes g - length state) Unk), length-replicate (nodes g - length state) Unk, counted, few_before g change)

-- new nodes come once
pub grown_again : (state grown : List Tern) (count : ℕ) → grown ≡ with_new_nodes state count → with_new_nodes grown count ≡ with_new_nodes state count
grown_again state grown count is =
    let enough : count - length grown ≡ 0 =
    omega (arith, ap length is, length-append state (replicate (count - length state) Unk), length-replicate (count - length state) Unk) in
    ap (λ n. grown ++ replicate n Unk) enough ∙ append-nil grown ∙ is

-- a member of a group of a graph is a node of it
pub member_below : (g : GraphData) (groups others : List Group) → AreGroups g groups → others ≡ groups → (group : Group) (node : ℕ) → Contains others group →
    Contains group.members node → node < nodes g
member_below g groups others are same group node there member =
    let in_groups : Contains groups group = subst (λ list. Contains list group) same there in
    (member_storage g group (subst (IsGroup g) in_groups.2 (are.each in_groups.0 group in_groups.1)) node member).inside

-- the part is the new stale part of a touched group
pub record IsRenewed (g : GraphData) (change : Change) (old : MachineData) (now : List Group) (k : ℕ) (part : MachinePart) : Type 0 where
  pub later : length old.parts ≤ k
  pub group : Group
  pub there : Contains now group
  pub touched : is_touched_in g change old group ≡ true
  pub is_new : IsStalePartOf group.members part

-- the part is that of an untouched group, and stands as it stood
pub record IsStill (g : GraphData) (change : Change) (old cleared : MachineData) (now : List Group) (k : ℕ) (part : MachinePart) : Type 0 where
  pub group : Group
  pub there : Contains now group
  pub untouched : is_touched_in g change old group ≡ false
  pub middle : Stands cleared.parts k part
  pub stood : Stands old.parts k part
  pub alike : IsAlike (undo g change) g group
  pub was : IsPartOf (undo g change) group part

module _ (g : GraphData) (change : Change) (old : MachineData) (covers : Covers (undo g change) old) (wired_before : IsWired (undo g change))
    (wired : IsWired g) (now : GroupsData) (are : AreOf g now) (spare : ℕ) (begun : Option WideData) (grows : GrowsIn (nodes g) old.wide begun)
    (found nodes_found : List ℕ)
    (found_are : (node : ℕ) → Contains found node ↔ IsWithAny covers.groups.groups (nodes_before change) node)
    (nodes_are : nodes_found ≡ found ++ nodes_after g change) where
  abbrev before : GraphData
  before = undo g change

  abbrev start : MachineData
  start = record old { groups = None; state = with_new_nodes old.state (nodes g); spare = spare; wide = begun }

  old_groups_are : groups_in old.groups ≡ covers.groups.groups
  old_groups_are = ap groups_in covers.kept

  touched_any : (group : Group) → is_touched_in g change old group ≡ true → HasAny nodes_found group
  touched_any group touched =
      touched_has g change covers.groups.groups found nodes_found found_are nodes_are group
      (subst (λ list. is_touched_now g change list group ≡ true) old_groups_are touched)

  any_touched : (group : Group) → HasAny nodes_found group → is_touched_in g change old group ≡ true
  any_touched group has =
      subst (λ list. is_touched_now g change list group ≡ true) (sym old_groups_are)
      (has_touched g change covers.groups.groups found nodes_found found_are nodes_are group has)

  in_now : (group : Group) → IsGroup g group → Contains now.groups group
  in_now group is_group =
      let (i, inside, at) = group_there g now.groups are.are group is_group in
      (i, inside, get_or_from_slice_get now.groups i group group at)

  is_now : (group : Group) → Contains now.groups group → IsGroup g group
  is_now group there = subst (IsGroup g) there.2 (are.are.each there.0 group there.1)

  module _ (group : Group) (there : Contains now.groups group) (untouched : is_touched_in g change old group ≡ false) where
    untouched_none : (node : ℕ) → Contains group.members node → ¬ Contains nodes_found node
    untouched_none node member among_nodes =
        let touched = any_touched group (record { node = node; among = among_nodes; member = member }) in
        absurd (cc (touched, untouched))

    untouched_was : Contains covers.groups.groups group × IsAlike before g group
    untouched_was =
        let kept = IsKept-untouched g change covers.groups.groups now.groups wired_before wired covers.are.are are.are group there
        (subst (λ list. is_touched_now g change list group ≡ false) old_groups_are untouched) in
        let (j, within, stood) = kept.was in (
          kept.was,
          record {
            here = subst (IsGroup before) stood (covers.are.are.each j group within);
            there = is_now group there;
            places = kept.places;
            levels = kept.members;
          },
        )

  module _ (cleared made : MachineData) (clears : Clears nodes_found start cleared) (renews : RenewsAll now.groups nodes_found cleared made)
      (apart : AreApart made.parts) (stale_marked : (k : ℕ) → IsStale made.parts k → IsMarked made.marks k) where
    module _ (k : ℕ) (part : MachinePart) (stands : Stands made.parts k part) (some : 0 < part.members) where
      -- a part that stands as it stood is that of an untouched group
      stood_still : Stands cleared.parts k part → IsStill g change old cleared now.groups k part
      stood_still middle =
          let stood : Stands old.parts k part = clears.was k part middle some in
          let (was, is_part) = covers.whole k part stood some in
          let node = id_of was in
          let member = id_member before was is_part.is_group in
          let (place, at) = member_of_part before was part is_part node member in
          let unlisted : ¬ Contains nodes_found node =
          λ there. clears.none k node there (record { part = part; stands = middle; place = place; member = at }) in
          let storage = member_storage before was is_part.is_group node member in
          let now_storage : IsStorage g node =
          elim ((DifferAt-undo g change).level node storage.inside) [
            | inl same ↦ record { inside = same.0; below = rw same.1 storage.below }
            | inr changed ↦ absurd (unlisted (after_in_nodes g change covers.groups.groups found nodes_found found_are nodes_are node changed.1))
          ] in
          let any = are.are.whole node now_storage in
          let group = any.1 in
          let there : Contains now.groups group = (any.0, any.2, any.3) in
          elim (touched_or_not (is_touched_in g change old group)) [
            | inl touched ↦
                let any_of = touched_any group touched in
                let has = renews.has group there any_of in
                let its = member_stale group.members made.parts has.k has.part has.stands has.is_new node any.4 in
                let same_k : has.k ≡ k = apart has.k k node its (record { part = part; stands = stands; place = place; member = at }) in
                let same : has.part ≡ part = same_part made.parts k has.part part (subst (λ n. Stands made.parts n has.part) same_k has.stands) stands in
                let is_new : IsStalePartOf group.members part = subst (IsStalePartOf group.members) same has.is_new in
                absurd (clears.none k any_of.node any_of.among (member_stale group.members cleared.parts k part middle is_new any_of.node any_of.member))
            | inr untouched ↦
                let alike = (untouched_was group there untouched).1 in
                let same : was ≡ group = same_by_member before was group is_part.is_group alike.here node member any.4 in
                record {
                  group = group;
                  there = there;
                  untouched = untouched;
                  middle = middle;
                  stood = stood;
                  alike = alike;
                  was = subst (λ (one : Group). IsPartOf before one part) same is_part;
                }
          ]

      pub part_cases : IsRenewed g change old now.groups k part ⊎ IsStill g change old cleared now.groups k part
      part_cases =
          elim (renews.was k part stands some) [
            | inl middle ↦ inr (stood_still middle)
            | inr (later, is) ↦
                inl (record {
                  later = omega (arith, later, clears.count);
                  group = is.group;
                  there = is.there;
                  touched = any_touched is.group is.has;
                  is_new = is.is_new;
                })
          ]

      renewed_part : (is : IsRenewed g change old now.groups k part) → IsPartOf g is.group part
      renewed_part is = part_of_group g is.group made.parts k part stands (is_now is.group is.there) is.is_new

      still_part : (is : IsStill g change old cleared now.groups k part) → IsPartOf g is.group part
      still_part is = alike_groups_keep_their_parts before g is.group part wired_before wired is.alike is.was

      still_marks : (is : IsStill g change old cleared now.groups k part) → IsMarked made.marks k ↔ IsMarked old.marks k
      still_marks is =
          let (to, from) = renews.marks k is.middle.inside in (
            λ marked. subst (λ list. IsMarked list k) clears.marks (to marked),
            λ marked. from (subst (λ list. IsMarked list k) (sym clears.marks) marked),
          )

      still_uses : (is : IsStill g change old cleared now.groups k part) → slice_index_or made.uses k None ≡ slice_index_or old.uses k None
      still_uses is = renews.uses k part stands is.middle.inside some ∙ clears.uses k part is.middle some

    -- each group has a part
    has_part : (group : Group) → Contains now.groups group → HasPart g made.parts group
    has_part group there =
        elim (touched_or_not (is_touched_in g change old group)) [
          | inl touched ↦
              let has = renews.has group there (touched_any group touched) in
              record {
                k = has.k;
                part = has.part;
                stands = has.stands;
                is_part = part_of_group g group made.parts has.k has.part has.stands (is_now group there) has.is_new;
              }
          | inr untouched ↦
              let (was, alike) = untouched_was group there untouched in
              let has = covers.each was.0 group
              (slice_get_read covers.groups.groups (length covers.groups.groups) was.0 group refl was.1 (sym was.2)) in
              let its : (parts : List MachinePart) → Stands parts has.k has.part → (node : ℕ) → HasMember parts has.k node → Contains group.members node =
              λ parts stands node held.
              let same = same_part parts has.k held.part has.part held.stands stands in
              member_in_group before group has.part has.is_part held.place node
              (subst (λ (one : MachinePart). IsMemberAt one held.place node) same held.member) in
              let middle : Stands cleared.parts has.k has.part = clears.stays has.k has.part has.stands (λ node among_nodes held.
              untouched_none group there untouched node (its old.parts has.stands node held) among_nodes) in
              let stands : Stands made.parts has.k has.part = renews.stays has.k has.part middle (λ other node in_groups any member held.
              let same = one_of_node g now.groups are.are group other node there in_groups (its cleared.parts middle node held) member in
              let has_any = subst (HasAny nodes_found) (sym same) any in
              untouched_none group there untouched has_any.node has_any.member has_any.among) in
              record {
                k = has.k;
                part = has.part;
                stands = stands;
                is_part = alike_groups_keep_their_parts before g group has.part wired_before wired alike has.is_part;
              }
        ]

    whole : (k : ℕ) (part : MachinePart) → Stands made.parts k part → 0 < part.members → (group : Group) × IsPartOf g group part
    whole k part stands some =
        elim (part_cases k part stands some) [
          | inl is ↦ (is.group, renewed_part k part stands some is)
          | inr is ↦ (is.group, still_part k part stands some is)
        ]

    each : (i : ℕ) (group : Group) → slice_get now.groups i ≡ Some group → HasPart g made.parts group
    each i group at = has_part group (i, slice_get_within now.groups i group at, get_or_from_slice_get now.groups i group group at)

    made_state : made.state ≡ with_new_nodes old.state (nodes g)
    made_state = renews.rest.state ∙ clears.rest.state

    counted : length made.state ≡ nodes g
    counted = ap length made_state ∙ counted_grown g change old.state covers.counted

    is_stale : (k : ℕ) (part : MachinePart) → Stands made.parts k part → 0 < part.members → part.code ≡ None → IsMarked made.marks k
    is_stale k part stands some none = stale_marked k (record { part = part; stands = stands; some = some; none = none })

    tidy_cleared : IsTidy cleared
    tidy_cleared = clears.tidy (record { counted = covers.uses_counted; textless = covers.textless; quiet = covers.quiet })

    -- a new part has no text yet
    untold_new : (k : ℕ) (part : MachinePart) → Stands made.parts k part → 0 < part.members → IsRenewed g change old now.groups k part →
        slice_index_or made.uses k None ≡ None
    untold_new k part stands some is = renews.untold tidy_cleared k part stands (omega (arith, is.later, clears.count)) some

    known : (k : ℕ) (part : MachinePart) → Stands made.parts k part → slice_index_or made.uses k None ≢ None → (group : Group) →
        IsPartOf g group part →
        IsTextOf g group (slice_index_or made.uses k None)
    known k part stands numbered group is_part =
        let some : 0 < part.members = omega (arith, is_part.count, is_part.is_group.some) in
        elim (part_cases k part stands some) [
          | inl is ↦ absurd (numbered (untold_new k part stands some is))
          | inr is ↦
              let was = covers.known k part is.stood (λ none. numbered (still_uses k part stands some is ∙ none)) is.group is.was in
              let same : is.group ≡ group = one_group g is.group group part (still_part k part stands some is) is_part in
              subst (λ (one : Group). IsTextOf g one (slice_index_or made.uses k None)) same
              (record {
                same = still_uses k part stands some is ∙ was.same ∙ ap Some (sym (alike_groups_have_one_text before g is.group is.alike).1);
                fits = was.fits;
              })
        ]

    has_text : (k : ℕ) (part : MachinePart) → Stands made.parts k part → 0 < part.members → part.code ≢ None → slice_index_or made.uses k None ≢ None
    has_text k part stands some coded none =
        elim (part_cases k part stands some) [
          | inl is ↦ coded is.is_new.code
          | inr is ↦ covers.numbered k part is.stood some coded (sym (still_uses k part stands some is) ∙ none)
        ]

    rests : (k : ℕ) (part : MachinePart) → Stands made.parts k part → ¬ IsMarked made.marks k → Rests g made.state (take part.members part.map.items)
    rests k part stands unmarked =
        elim (cases_lt 0 part.members) [
          | inr none ↦ none_rest g made.state part.map.items part.members none
          | inl some ↦
              elim (part_cases k part stands some) [
                | inl is ↦ absurd (unmarked (is_stale k part stands some is.is_new.code))
                | inr is ↦
                    let was = subst (Rests before old.state) is.was.members
                    (covers.rests k part is.stood (λ marked. unmarked ((still_marks k part stands some is).1 marked))) in
                    let grown = rests_grown before is.group old.state (nodes g - length old.state) wired_before is.alike.here covers.counted was in
                    let now_rests = (alike_groups_rest_alike before g is.group (with_new_nodes old.state (nodes g)) wired_before wired is.alike).1 grown in
                    subst (λ state. Rests g state (take part.members part.map.items)) (sym made_state)
                    (subst (Rests g (with_new_nodes old.state (nodes g))) (sym is.was.members) now_rests)
              ]
        ]

    abbrev after : MachineData
    after = record made { groups = Some now }

    tidy : IsTidy made
    tidy = renews.tidy tidy_cleared

    -- the groups that are stepped by vicinities are known still if none of their members lost its part
    made_known : KeepsKnown old.parts made.parts begun made.wide
    made_known =
        KeepsKnown-then old.parts cleared.parts made.parts begun cleared.wide made.wide (omega (arith, clears.count))
        (λ k part stands inside some.
        elim (renews.was k part stands some) [
          | inl before ↦ before
          | inr (later, is) ↦ absurd (omega (arith, later, inside))
        ])
        clears.wide renews.wide

    module _ (later : WideData) (is : made.wide ≡ Some later) where
      -- they were known before
      was_wide : (wide : WideData) × (old.wide ≡ Some wide) × GrowsWide (nodes g) wide later
      was_wide = grown_wide (nodes g) old.wide begun grows later ((made_known.known later is).0)

      -- their members are those from before
      was_storage : (node : ℕ) → IsStorage later.graph node → IsStorage was_wide.0.graph node
      was_storage node storage =
          storage_before was_wide.0.graph (nodes g) node (subst (λ h. IsStorage h node) was_wide.2.graph storage)

      -- each of which has its part still
      made_stale_only : HasStaleOnly made.parts later.graph
      made_stale_only =
          HasStaleOnly-kept old.parts made.parts later.graph
          (λ node storage. covers.stale_only was_wide.0 was_wide.1 node (was_storage node storage)) ((made_known.known later is).1)

      -- so a new part has none of them
      outside_new : (k : ℕ) (part : MachinePart) → Stands made.parts k part → length old.parts ≤ k → IsOutside later.graph part
      outside_new k part stands new node there storage =
          let (l, has, stale) = covers.stale_only was_wide.0 was_wide.1 node (was_storage node storage) in
          let taken = member_taken old.parts l stale.part stale.stands node has in
          let still = (made_known.known later is).1 l stale.part node stale.stands taken storage in
          let same : l ≡ k = apart l k node (taken_member made.parts l stale.part still node taken) (taken_member made.parts k part stands node there) in
          omega (arith, same, new, stale.stands.inside)

      -- and a part that stands as it stood is held as it was
      made_held : (k : ℕ) (part : MachinePart) → Stands made.parts k part → 0 < part.members → part.code ≡ None →
          IsHeldIn g made.state later (slice_index_or made.uses k None) part ⊎ IsOutside later.graph part
      made_held k part stands some none =
          elim (part_cases k part stands some) [
            | inl is_new ↦ inr (outside_new k part stands is_new.later)
            | inr still ↦
                elim (covers.held was_wide.0 was_wide.1 k part still.stood some none) [
                  | inl held ↦
                      let text = slice_index_or old.uses k None in
                      let grown = IsHeldIn-grown before g wired_before wired old.state (replicate (nodes g - length old.state) Unk) covers.counted (nodes g) was_wide.0
                      later was_wide.2 text part still.group still.alike still.was held in
                      let here = subst (λ state. IsHeldIn g state later text part) (sym made_state) grown in
                      inl (subst (λ (one : Option GroupTextData). IsHeldIn g made.state later one part) (sym (still_uses k part stands some still)) here)
                  | inr outside ↦ inr (λ node there storage. outside node there (was_storage node storage))
                ]
          ]

    -- and if each part stands that had one of their members, they are known
    made_stays : (wide : WideData) → old.wide ≡ Some wide →
        ((k : ℕ) (part : MachinePart) → Stands old.parts k part → (¬ IsOutside wide.graph part) → Stands made.parts k part) → made.wide ≢ None
    made_stays wide is stands none =
        let (grown, begun_is, by) = wide_grown (nodes g) old.wide begun grows wide is in
        elim (made_known.lost grown begun_is) [
          | inl known ↦
              let both : None ≡ Some grown = sym none ∙ known in
              absurd cc
          | inr (gone, loses) ↦
              let storage : IsStorage wide.graph loses.node =
              storage_before wide.graph (nodes g) loses.node (subst (λ h. IsStorage h loses.node) by.graph loses.storage) in
              let (k, has, stale) = covers.stale_only wide is loses.node storage in
              let taken = member_taken old.parts k stale.part stale.stands loses.node has in
              loses.gone k stale.part stale.stands taken (stands k stale.part stale.stands (λ outside. outside loses.node taken storage))
        ]

    covers_after : Covers g after
    covers_after = record {
      groups = now;
      kept = refl;
      are = are;
      counted = counted;
      each = each;
      whole = whole;
      apart = apart;
      number = count_parts g now.groups are.are made.parts each whole apart;
      known = known;
      numbered = has_text;
      textless = tidy.textless;
      uses_counted = tidy.counted;
      quiet = tidy.quiet;
      waits = is_stale;
      rests = rests;
      stale_only = made_stale_only;
      held = made_held;
    }

    -- the part of a touched group is stale, and that of another one stood
    module _ (k : ℕ) (part : MachinePart) (group : Group) (stands : Stands made.parts k part) (is_part : IsPartOf g group part) where
      has_some : 0 < part.members
      has_some = omega (arith, is_part.count, is_part.is_group.some)

      stale_then : is_touched_in g change old group ≡ true → part.code ≡ None
      stale_then touched =
          elim (part_cases k part stands has_some) [
            | inl is ↦ is.is_new.code
            | inr is ↦
                let same : is.group ≡ group = one_group g is.group group part (still_part k part stands has_some is) is_part in
                let untouched = subst (λ (one : Group). is_touched_in g change old one ≡ false) same is.untouched in
                absurd (cc (touched, untouched))
          ]

      untold_then : is_touched_in g change old group ≡ true → slice_index_or made.uses k None ≡ None
      untold_then touched =
          elim (part_cases k part stands has_some) [
            | inl is ↦ untold_new k part stands has_some is
            | inr is ↦
                let same : is.group ≡ group = one_group g is.group group part (still_part k part stands has_some is) is_part in
                let untouched = subst (λ (one : Group). is_touched_in g change old one ≡ false) same is.untouched in
                absurd (cc (touched, untouched))
          ]

      later_then : is_touched_in g change old group ≡ true → length old.parts ≤ k
      later_then touched =
          elim (part_cases k part stands has_some) [
            | inl is ↦ is.later
            | inr is ↦
                let same : is.group ≡ group = one_group g is.group group part (still_part k part stands has_some is) is_part in
                let untouched = subst (λ (one : Group). is_touched_in g change old one ≡ false) same is.untouched in
                absurd (cc (touched, untouched))
          ]

      still_then : is_touched_in g change old group ≡ false → IsStill g change old cleared now.groups k part
      still_then untouched =
          elim (part_cases k part stands has_some) [
            | inl is ↦
                let same : is.group ≡ group = one_group g is.group group part (renewed_part k part stands has_some is) is_part in
                let touched = subst (λ (one : Group). is_touched_in g change old one ≡ true) same is.touched in
                absurd (cc (touched, untouched))
            | inr is ↦ is
          ]

    -- so the machine follows the edit
    pub follows : Edits g change old after
    follows = record {
      covers = covers_after;
      count = omega (arith, renews.count, clears.count);
      state = made_state;
      stale = λ k part group stands is_part touched. stale_then k part group stands is_part touched;
      untold = λ k part group stands is_part touched. untold_then k part group stands is_part touched;
      marked = λ k part group stands is_part touched.
          is_stale k part stands (has_some k part group stands is_part) (stale_then k part group stands is_part touched);
      later = λ k part group stands is_part touched. later_then k part group stands is_part touched;
      stays = λ k part group stands is_part untouched. (still_then k part group stands is_part untouched).stood;
      texts = λ k part group stands is_part untouched.
          still_uses k part stands (has_some k part group stands is_part) (still_then k part group stands is_part untouched);
      marks = λ k part group stands is_part untouched.
          still_marks k part stands (has_some k part group stands is_part) (still_then k part group stands is_part untouched);
      last = renews.rest.last ∙ clears.rest.last;
      moves = renews.rest.moves ∙ clears.rest.moves;
      placed = renews.rest.placed ∙ clears.rest.placed;
      wide = record { known = was_wide; stays = made_stays };
    }
