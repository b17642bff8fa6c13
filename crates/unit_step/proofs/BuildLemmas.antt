-- A machine that starts with the parts of a graph's groups is ready: those of groups with a text have it, and all are marked, so none of them has
-- to rest.
use Rattle.std.proofs.Common.{◌≡◌, ◌≢◌, ℕ, zero, suc, ◌+◌, ◌<◌, Bool, true, false, inl, inr, ◌⊎◌, List, [], ◌∷◌, ◌++◌, length, map, take, get_or, replicate, All, Some, None, Vec, Global, refl, sym, ap, subst, ◌∙◌, arith, length-append}
use Rattle.std.specs.Prelude.{not, filter, Contains, Option, slice_get, slice_index_or, zip}
use Rattle.std.specs.List.{AllZip}
use Rattle.std.specs.List.Sorted.{IsStrictlyIncreasing}
use Rattle.std.specs.declared.rc.Rc.{Rc}
use Rattle.std.proofs.lemmas.Bool.{cases_Bool, cases_lt}
use Rattle.std.proofs.lemmas.List.{length-map, length-replicate, get_or-map, get_or-replicate, take-append-le, take_all}
use Rattle.std.proofs.lemmas.List.Elements.{All-nil, All-cons, All-head, All-tail, All-weaker, All-contains_itself}
use Rattle.std.proofs.lemmas.List.Kept.{AllPairs-from_increasing}
use Rattle.std.proofs.lemmas.Slice.Zip.{AllZip-long}
use Rattle.std.proofs.lemmas.Option.{slice_get_within, get_or_from_slice_get, slice_get_read, slice_get-get_or}
use Rattle.ternary.specs.declared.tern.Tern.{Tern}
use Rattle.switch_paths.specs.Graphs.{GraphData, IsWired, nodes}
use Rattle.list_facts.proofs.PlaceLemmas.{slice_get-grown}
use Rattle.group_meaning.specs.Groups.{Group, IsGroup, id_of}
use Rattle.group_meaning.proofs.UniqueGroups.{unique, same_by_member}
use Rattle.group_text.specs.Texts.{GroupTextData, text_of_group}
use Rattle.group_text.specs.FirstTexts.{first_texts, new_texts}
use Rattle.group_text.proofs.LocalNodes.{members_begin}
use Rattle.straight_code.specs.Code.{CodeData}
use Rattle.straight_code.specs.declared.part.Part.{Part}
use Rattle.circuit_texts.specs.Parts as made
use Rattle.analysis_cache.proofs.DistinctLemmas.{new_texts-first}
use Rattle.channel_groups.specs.Grouping.{GroupsData, AreOf}
use Rattle.circuit_texts.specs.Sizes.{fault_in}
use Rattle.circuit_texts.specs.Told.{has_text, with_text, without_text, told}
use Rattle.circuit_texts.specs.Building.{HasTexts, BuildsFresh}
use Rattle.circuit_texts.proofs.ToldLemmas.{fit_from_text, untold_from_none, ascending-filter}
use Rattle.kept_parts.specs.Uses.{some_texts, count_distinct}
use Rattle.kept_parts.proofs.NumberLemmas as numbers
use Rattle.circuit_texts.specs.Reading.{AreReads}
use Rattle.circuit_texts.proofs.PairedLists.{partner_first, partner_second}
use Rattle.circuit_texts.proofs.ReadLemmas.{read_inside}
use Rattle.machine_parts.specs.declared.part.MachinePart.{MachinePart}
use Rattle.machine_parts.specs.Parts.{Stands, HasMember, AreApart}
use Rattle.machine_parts.specs.Making.{held}
use Rattle.unit_step.specs.Bodies.{started}
use Rattle.unit_step.specs.declared.planning.Plan.{Plan}
use Rattle.unit_step.specs.Planning.{IsPlan}
use Rattle.machine_laws.specs.Machines.{MachineData}
use Rattle.machine_laws.specs.Fitting.{IsCoded, IsPartOf, HasPart, IsTextOf, AreUntold, AreTold}
use Rattle.machine_laws.specs.Finishing.{IsFresh}
use Rattle.machine_laws.specs.Holding.{IsReady}
use Rattle.machine_laws.specs.Seating.{IsStalePartOf}
use Rattle.machine_laws.proofs.CountingLemmas.{count_parts}
use Rattle.machine_laws.proofs.FilterLemmas.{filter_has, filter_keeps}
use Rattle.machine_laws.proofs.KeptLemmas.{made_at}
use Rattle.machine_laws.proofs.PartGroups.{one_group, member_in_group, some_members}
use Rattle.machine_laws.proofs.RenewingLemmas.{stale_members}

module _ (g : GraphData) where
  -- the part that is made of a group's text, and reads what the group reads, is the group's
  fresh_part : (group : Group) → IsGroup g group → (part : Part) (list : Vec ℕ Global) → made.IsPartOf g group part → AreReads g group list.items →
      IsFresh g group (held (part, list))
  fresh_part group is_group part list of reads = record {
    is_part = record {
      is_group = is_group;
      count = of.members;
      members = members_first;
      coded = λ code has.
          let same : part.code ≡ code = cc in
          subst (λ (shared : Rc CodeData Global). IsCoded g group (held (part, list)) shared.value) same
          (record { mapped = of.map; means = of.means; reads = reads.each });
    };
    quiet = λ none. absurd cc;
  }
    where
      members_first : take part.members part.map.items ≡ group.members
      members_first =
          let (rest, begins) = members_begin g group is_group in
          rw (of.members, of.map, begins) (take-append-le (length group.members) group.members rest (omega arith)
          ∙ take_all (length group.members) group.members (omega arith))

  -- so are the parts of all groups
  pub fresh_parts : (groups : List Group) → All (IsGroup g) groups → (parts : List Part) (lists : List (Vec ℕ Global)) →
      AllZip (made.IsPartOf g) groups parts → AllZip (λ group list. AreReads g group list.items) groups lists →
      AllZip (IsFresh g) groups (map held (zip parts lists))
  fresh_parts [] each [] [] of reads = tt
  fresh_parts [] each [] (list ∷ lists) of reads = absurd reads
  fresh_parts [] each (part ∷ parts) lists of reads = absurd of
  fresh_parts (group ∷ groups) each [] lists of reads = absurd of
  fresh_parts (group ∷ groups) each (part ∷ parts) [] of reads = absurd reads
  fresh_parts (group ∷ groups) each (part ∷ parts) (list ∷ lists) of reads = (
    fresh_part group (All-head (IsGroup g) group groups each) part list of.0 reads.0,
    fresh_parts groups (All-tail (IsGroup g) group groups each) parts lists of.1 reads.1,
  )

  -- what the groups read is there
  pub lists_inside : IsWired g → (groups : List Group) (lists : List (Vec ℕ Global)) → AllZip (λ group list. AreReads g group list.items) groups lists →
      All (λ list. All (λ node. node < nodes g) list.items) lists
  lists_inside wired [] [] reads = All-nil (λ (list : Vec ℕ Global). All (λ node. node < nodes g) list.items)
  lists_inside wired [] (list ∷ lists) reads = absurd reads
  lists_inside wired (group ∷ groups) [] reads = absurd reads
  lists_inside wired (group ∷ groups) (list ∷ lists) reads =
      let below : ℕ → Type 0 = λ node. node < nodes g in
      All-cons (λ (one : Vec ℕ Global). All below one.items) list lists
      (All-weaker (Contains list.items) below (λ node there. read_inside g group wired node ((reads.0.each node).0 there)) list.items
      (All-contains_itself list.items))
      (lists_inside wired groups lists reads.1)

module _ {X : Type 0} where
  -- what stands in a list with more behind it stands in front or behind
  pub append_cases : (xs ys : List X) (k : ℕ) (x : X) → slice_get (xs ++ ys) k ≡ Some x →
      (slice_get xs k ≡ Some x) ⊎ ((j : ℕ) × (k ≡ length xs + j) × (slice_get ys j ≡ Some x))
  append_cases [] ys k x at = inr (k, omega arith, at)
  append_cases (y ∷ xs) ys zero x at = inl at
  append_cases (y ∷ xs) ys (suc k) x at =
      elim (append_cases xs ys k x at) [
        | inl front ↦ inl front
        | inr (j, place, there) ↦ inr (j, omega (arith, place), there)
      ]

  append_behind : (xs ys : List X) (j : ℕ) (x : X) → slice_get ys j ≡ Some x → slice_get (xs ++ ys) (length xs + j) ≡ Some x
  append_behind [] ys j x at =
      let same : j ≡ length {A = X} [] + j = omega arith in
      subst (λ i. slice_get ys i ≡ Some x) same at
  append_behind (y ∷ xs) ys j x at =
      let same : suc (length xs + j) ≡ length (y ∷ xs) + j = omega arith in
      subst (λ i. slice_get (y ∷ (xs ++ ys)) i ≡ Some x) same (append_behind xs ys j x at)

  item_at : (xs : List X) (x : X) → Contains xs x → (i : ℕ) × (slice_get xs i ≡ Some x)
  item_at xs x (i, inside, here) = (i, slice_get_read xs (length xs) i x refl inside (sym here))

-- a group stands at one place
same_place : (groups : List Group) → IsStrictlyIncreasing (map id_of groups) → (i j : ℕ) (group : Group) → slice_get groups i ≡ Some group →
    slice_get groups j ≡ Some group → i ≡ j
same_place groups ascending i j group at_i at_j =
    elim (cases_lt i j) [
      | inl below ↦ absurd (apart i j below at_i at_j)
      | inr past ↦
          elim (cases_lt j i) [
            | inl below ↦ absurd (apart j i below at_j at_i)
            | inr too ↦ omega (arith, past, too)
          ]
    ]
  where
    apart : (i j : ℕ) → i < j → slice_get groups i ≡ Some group → slice_get groups j ≡ Some group → ⊥
    apart i j below one two =
        let first = slice_get_within groups i group one in
        let second = slice_get_within groups j group two in
        let less = AllPairs-from_increasing (map id_of groups) ascending i j 0 below (omega (arith, second, length-map groups id_of)) in
        omega (
          arith,
          less,
          get_or-map id_of groups i group 0 first ∙ ap id_of (get_or_from_slice_get groups i group group one),
          get_or-map id_of groups j group 0 second ∙ ap id_of (get_or_from_slice_get groups j group group two),
        )

-- of texts with none behind them, those that are there are these
some_texts-front : (texts : List GroupTextData) (n : ℕ) → some_texts (map Some texts ++ replicate n None) ≡ texts
some_texts-front [] zero = refl
some_texts-front [] (suc n) = some_texts-front [] n
some_texts-front (text ∷ texts) n = ap (λ rest. text ∷ rest) (some_texts-front texts n)

-- and behind them there is none
none_behind : (texts : List GroupTextData) (n j : ℕ) → slice_index_or (map Some texts ++ replicate n None) (length texts + j) None ≡ None
none_behind [] n j = all_none n (length {A = GroupTextData} [] + j)
  where
    all_none : (n i : ℕ) → slice_index_or (replicate {A = Option GroupTextData} n None) i None ≡ None
    all_none zero i = refl
    all_none (suc n) zero = refl
    all_none (suc n) (suc i) = all_none n i
none_behind (text ∷ texts) n j =
    let same : suc (length texts + j) ≡ length (text ∷ texts) + j = omega arith in
    subst (λ i. slice_index_or (map Some (text ∷ texts) ++ replicate n None) i None ≡ None) same (none_behind texts n j)

text_in_front : (texts : List GroupTextData) (n k : ℕ) (text : GroupTextData) → slice_get texts k ≡ Some text →
    slice_index_or (map Some texts ++ replicate n None) k None ≡ Some text
text_in_front [] n k text at = absurd cc
text_in_front (first ∷ texts) n zero text at = at
text_in_front (first ∷ texts) n (suc k) text at = text_in_front texts n k text at

module _ (g : GraphData) (held : GroupsData) (are : AreOf g held) (front behind : List MachinePart)
    (fresh : AllZip (IsFresh g) (with_text held.groups) front) (stale : AllZip (λ group part. IsStalePartOf group.members part) (without_text held.groups) behind) where
  abbrev parts : List MachinePart
  parts = front ++ behind

  each_group : (p : Group → Bool) (i : ℕ) (group : Group) → slice_get (filter p held.groups) i ≡ Some group → Contains held.groups group × IsGroup g group × (p group ≡ true)
  each_group p i group at =
      let (there, passes) = filter_has p held.groups group (i, slice_get_within (filter p held.groups) i group at, get_or_from_slice_get (filter p held.groups) i group group at) in
      (there, subst (IsGroup g) there.2 (are.are.each there.0 group there.1), passes)

  -- the part of a group with a text, at its place
  record IsTold (k : ℕ) (part : MachinePart) : Type 0 where
    pub group : Group
    pub at : slice_get (with_text held.groups) k ≡ Some group
    pub there : slice_get front k ≡ Some part
    pub is : IsFresh g group part

  -- and that of one without, behind
  record IsLarge (k : ℕ) (part : MachinePart) : Type 0 where
    pub j : ℕ
    pub place : k ≡ length front + j
    pub group : Group
    pub at : slice_get (without_text held.groups) j ≡ Some group
    pub is : IsStalePartOf group.members part

  large_group : (k : ℕ) (part : MachinePart) (is : IsLarge k part) → IsGroup g is.group × (not (has_text is.group) ≡ true)
  large_group k part is = let (there, is_group, none) = each_group (λ one. not (has_text one)) is.j is.group is.at in (is_group, none)

  large_part : (k : ℕ) (part : MachinePart) → Stands parts k part → (is : IsLarge k part) → IsPartOf g is.group part
  large_part k part stands is = record {
    is_group = (large_group k part is).0;
    count = is.is.members;
    members = stale_members is.group.members parts k part stands is.is;
    coded = λ code has.
        let both : None ≡ Some code = sym is.is.code ∙ has in
        absurd cc;
  }

  part_cases : (k : ℕ) (part : MachinePart) → Stands parts k part → IsTold k part ⊎ IsLarge k part
  part_cases k part stands =
      let there : slice_get parts k ≡ Some part = slice_get_read parts (length parts) k part refl stands.inside (sym stands.here) in
      elim (append_cases front behind k part there) [
        | inl at ↦
            let (group, group_at, is) = partner_first (IsFresh g) (with_text held.groups) front k part fresh at in
            inl (record { group = group; at = group_at; there = at; is = is })
        | inr (j, place, at) ↦
            let (group, group_at, is) = partner_first (λ group part. IsStalePartOf group.members part) (without_text held.groups) behind j part stale at in
            inr (record { j = j; place = place; group = group; at = group_at; is = is })
      ]

  -- a part stands where the list has it
  stands_at : (k : ℕ) (part : MachinePart) → slice_get parts k ≡ Some part → Stands parts k part
  stands_at k part at = record { inside = slice_get_within parts k part at; here = get_or_from_slice_get parts k part part at }

  each : (i : ℕ) (group : Group) → slice_get held.groups i ≡ Some group → HasPart g parts group
  each i group at =
      let there : Contains held.groups group = (i, slice_get_within held.groups i group at, get_or_from_slice_get held.groups i group group at) in
      elim (cases_Bool (has_text group)) [
        | inl has ↦
            let (j, at_told) = item_at (with_text held.groups) group (filter_keeps has_text held.groups group there has) in
            let (part, part_at, is) = partner_second (IsFresh g) (with_text held.groups) front j group fresh at_told in
            record { k = j; part = part; stands = stands_at j part (slice_get-grown front behind j part part_at); is_part = is.is_part }
        | inr none ↦
            let (j, at_large) = item_at (without_text held.groups) group (filter_keeps (λ one. not (has_text one)) held.groups group there (ap not none)) in
            let (part, part_at, is) = partner_second (λ one part. IsStalePartOf one.members part) (without_text held.groups) behind j group stale at_large in
            let stands = stands_at (length front + j) part (append_behind front behind j part part_at) in
            record {
              k = length front + j;
              part = part;
              stands = stands;
              is_part = large_part (length front + j) part stands (record { j = j; place = refl; group = group; at = at_large; is = is });
            }
      ]

  whole : (k : ℕ) (part : MachinePart) → Stands parts k part → 0 < part.members → (group : Group) × IsPartOf g group part
  whole k part stands some =
      elim (part_cases k part stands) [
        | inl is ↦ (is.group, is.is.is_part)
        | inr is ↦ (is.group, large_part k part stands is)
      ]

  -- one of those behind has a group without a text
  large_untold : (k : ℕ) (part : MachinePart) (group : Group) → Stands parts k part → IsLarge k part → IsPartOf g group part → fault_in group ≢ None
  large_untold k part group stands is is_part =
      let same = one_group g is.group group part (large_part k part stands is) is_part in
      subst (λ one. fault_in one ≢ None) same (λ fits. untold_from_none is.group (large_group k part is).1 fits)

  -- and if all in front have code, each stale part has one
  pub untold_coded : All (λ (part : MachinePart). part.code ≢ None) front → AreUntold g parts
  untold_coded coded k part group stands none is_part =
      elim (part_cases k part stands) [
        | inl is ↦
            absurd (subst (λ (one : MachinePart). one.code ≢ None) (get_or_from_slice_get front k part part is.there)
            (coded k part (slice_get_within front k part is.there)) none)
        | inr is ↦ large_untold k part group stands is is_part
      ]

  -- the group of a member, and where it stands
  record IsOf (k node : ℕ) : Type 0 where
    pub group : Group
    pub is_group : IsGroup g group
    pub member : Contains group.members node
    pub place : (slice_get (with_text held.groups) k ≡ Some group) ⊎ ((j : ℕ) × (k ≡ length front + j) × (slice_get (without_text held.groups) j ≡ Some group))

  -- no node is a member of two parts
  pub apart_started : AreApart parts
  apart_started k l node one two =
      let is_one : IsOf k node = of_one k node one in
      let is_two : IsOf l node = of_one l node two in
      let same : is_one.group ≡ is_two.group =
      same_by_member g is_one.group is_two.group is_one.is_group is_two.is_group node is_one.member is_two.member in
      elim is_one.place [
        | inl at_one ↦
            elim is_two.place [
              | inl at_two ↦
                  same_place (with_text held.groups) (ascending-filter has_text held.groups are.are.ascending) k l is_one.group at_one
                  (at_two ∙ ap Some (sym same))
              | inr (j, place, at_two) ↦ absurd (both_ways is_one.group k j at_one (at_two ∙ ap Some (sym same)))
            ]
        | inr (i, place, at_one) ↦
            elim is_two.place [
              | inl at_two ↦ absurd (both_ways is_two.group l i at_two (at_one ∙ ap Some same))
              | inr (j, place_too, at_two) ↦
                  let equal = same_place (without_text held.groups) (ascending-filter (λ group. not (has_text group)) held.groups are.are.ascending) i j is_one.group at_one
                  (at_two ∙ ap Some (sym same)) in
                  omega (arith, place, place_too, equal)
            ]
      ]
    where
      of_one : (k node : ℕ) → HasMember parts k node → IsOf k node
      of_one k node has =
          elim (part_cases k has.part has.stands) [
            | inl is ↦ record {
              group = is.group;
              is_group = is.is.is_part.is_group;
              member = member_in_group g is.group has.part is.is.is_part has.place node has.member;
              place = inl is.at;
            }
            | inr is ↦ record {
              group = is.group;
              is_group = (large_group k has.part is).0;
              member = member_in_group g is.group has.part (large_part k has.part has.stands is) has.place node has.member;
              place = inr (is.j, is.place, is.at);
            }
          ]

      both_ways : (group : Group) (i j : ℕ) → slice_get (with_text held.groups) i ≡ Some group → slice_get (without_text held.groups) j ≡ Some group → ⊥
      both_ways group i j at_told at_large =
          let (there, is_group, has) = each_group has_text i group at_told in
          let (there_too, is_too, none) = each_group (λ one. not (has_text one)) j group at_large in
          untold_from_none group none (fit_from_text group has)

  -- each part has a member
  pub some_started : All (λ (part : MachinePart). 0 < part.members) parts
  some_started k d inside =
      let part = get_or parts k d in
      elim (part_cases k part (stands_at k part (slice_get-get_or parts k d inside))) [
        | inl is ↦ some_members is.is.is_part
        | inr is ↦ some_members (large_part k part (stands_at k part (slice_get-get_or parts k d inside)) is)
      ]

  module _ (state : List Tern) (counted : length state ≡ nodes g) (uses : List (Option GroupTextData))
      (uses_are : uses ≡ map Some (told g held.groups) ++ replicate (length behind) None) (last : List GroupTextData) (spare : ℕ) where
    abbrev begun : MachineData
    begun = started (Some held) parts state uses last spare

    told_long : length (told g held.groups) ≡ length front
    told_long = length-map (with_text held.groups) (text_of_group g) ∙ sym (AllZip-long (IsFresh g) (with_text held.groups) front fresh)

    -- those in front have their texts
    text_there : (k : ℕ) (part : MachinePart) (is : IsTold k part) → slice_index_or uses k None ≡ Some (text_of_group g is.group)
    text_there k part is =
        let text_at : slice_get (told g held.groups) k ≡ Some (text_of_group g is.group) = made_at (text_of_group g) (with_text held.groups) k is.group is.at in
        ap (λ list. slice_index_or list k None) uses_are ∙ text_in_front (told g held.groups) (length behind) k (text_of_group g is.group) text_at

    -- and those behind have none
    text_lacks : (k : ℕ) (part : MachinePart) → IsLarge k part → slice_index_or uses k None ≡ None
    text_lacks k part is =
        let place : length (told g held.groups) + is.j ≡ k = omega (arith, is.place, told_long) in
        subst (λ i. slice_index_or uses i None ≡ None) place
        (ap (λ list. slice_index_or list (length (told g held.groups) + is.j) None) uses_are
        ∙ none_behind (told g held.groups) (length behind) is.j)

    known : (k : ℕ) (part : MachinePart) → Stands parts k part → slice_index_or uses k None ≢ None → (group : Group) → IsPartOf g group part →
        IsTextOf g group (slice_index_or uses k None)
    known k part stands numbered group is_part =
        elim (part_cases k part stands) [
          | inl is ↦
              let same = one_group g is.group group part is.is.is_part is_part in
              let (there, is_group, has) = each_group has_text k is.group is.at in
              subst (λ one. IsTextOf g one (slice_index_or uses k None)) same
              (record { same = text_there k part is; fits = fit_from_text is.group has })
          | inr is ↦ absurd (numbered (text_lacks k part is))
        ]

    numbered : (k : ℕ) (part : MachinePart) → IsTold k part → slice_index_or uses k None ≢ None
    numbered k part is lacks =
        let both : Some (text_of_group g is.group) ≡ None = sym (text_there k part is) ∙ lacks in
        absurd cc

    have_texts : AreTold g begun
    have_texts k part group stands none is_part fits =
        elim (part_cases k part stands) [
          | inl is ↦ numbered k part is
          | inr is ↦ absurd (large_untold k part group stands is is_part fits)
        ]

    -- so a machine that starts with them is ready
    pub IsReady-started : IsReady g begun
    IsReady-started = record {
      covers = record {
        groups = held;
        kept = refl;
        are = are;
        counted = counted;
        each = each;
        whole = whole;
        apart = apart_started;
        number = count_parts g held.groups are.are parts each whole apart_started;
        known = known;
        numbered = λ k part stands some coded.
            elim (part_cases k part stands) [
              | inl is ↦ numbered k part is
              | inr is ↦ absurd (coded is.is.code)
            ];
        textless = λ k part stands none.
            elim (part_cases k part stands) [
              | inl is ↦ absurd (omega (arith, none, some_members is.is.is_part))
              | inr is ↦ text_lacks k part is
            ];
        uses_counted = ap length uses_are ∙ omega (
          arith,
          length-append (map Some (told g held.groups)) (replicate (length behind) None),
          length-map (told g held.groups) Some,
          length-replicate {A = Option GroupTextData} (length behind) None,
          told_long,
          length-append front behind,
        );
        quiet = λ k part stands none.
            elim (part_cases k part stands) [
              | inl is ↦ is.is.quiet none
              | inr is ↦ is.is.reads
            ];
        waits = λ k part stands some none. get_or-replicate (length parts) k true false stands.inside;
        rests = λ k part stands unmarked. absurd (unmarked (get_or-replicate (length parts) k true false stands.inside));
        stale_only = λ wide is. absurd (cc is);
        held = λ wide is. absurd (cc is);
      };
      told = have_texts;
      texts = λ others others_are.
          ap count_distinct uses_are ∙ ap (λ list. length (first_texts list)) (some_texts-front (told g held.groups) (length behind))
          ∙ ap (λ list. length (first_texts (told g list))) (unique g held.groups others are.are others_are);
    }

module _ (large : ℕ) (g : GraphData) (state : List Tern) (plan : Plan) (is_plan : IsPlan large g state plan) where
  -- the texts of the groups are the graph's
  pub HasTexts-planned : HasTexts large g (told g plan.groups.groups)
  HasTexts-planned = record { groups = plan.groups.groups; are = is_plan.are.are; fit = is_plan.fit; texts_are = refl }

  -- what a build has analysed: the new ones of the distinct texts are the new ones of the groups' texts
  pub planned_texts : (kept : List GroupTextData) → BuildsFresh large g kept (new_texts kept plan.uses.known)
  planned_texts kept =
      let texts = told g plan.groups.groups in
      record {
        texts = texts;
        has = HasTexts-planned;
        fresh_are = ap (new_texts kept) is_plan.known ∙ new_texts-first kept texts;
      }

  -- each group with a text has a number
  pub numbers_counted : length plan.uses.numbers ≡ length (with_text plan.groups.groups)
  numbers_counted = numbers.numbers_counted plan.uses (with_text plan.groups.groups) (text_of_group g) is_plan.texts

  pub all_numbered : All (λ number. number ≢ None) plan.uses.numbers
  all_numbered = numbers.some_numbers (slice_get plan.uses.known) plan.uses.numbers (told g plan.groups.groups) is_plan.texts
