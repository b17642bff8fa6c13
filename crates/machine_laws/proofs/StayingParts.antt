-- Where the stale parts of a machine get their texts, and some of them their codes, each part stays or comes.
use Rattle.std.proofs.Common.{◌≡◌, ◌≢◌, ℕ, suc, ◌<◌, ◌≤◌, Bool, cond, inl, inr, ◌⊎◌, List, [], ◌∷◌, length, get_or, All, Option, Some, None, refl, sym, ap, subst, ◌∙◌, arith, nat_lt}
use Rattle.std.specs.Prelude.{◌↔◌, Contains, slice_get, slice_index, slice_index_or, count_by}
use Rattle.std.specs.List.{AllZip, sum_by}
use Rattle.std.proofs.lemmas.Bool.{cases_lt}
use Rattle.std.proofs.lemmas.List.{get_or_default}
use Rattle.std.proofs.lemmas.List.Sums.{sum_by-cons}
use Rattle.std.proofs.lemmas.Option.{slice_get_read, slice_get_within, get_or_from_slice_get}
use Rattle.smallvec.specs.SmallVec.{SmallVec}
use Rattle.switch_paths.specs.Graphs.{GraphData, IsStorage}
use Rattle.group_meaning.specs.Groups.{Group, IsGroup, id_of}
use Rattle.group_meaning.proofs.UniqueGroups.{id_member}
use Rattle.group_meaning.proofs.GroupLemmas.{member_storage}
use Rattle.group_rest.specs.Alike.{IsAlike}
use Rattle.group_text.specs.Texts.{GroupTextData, text_of_group}
use Rattle.circuit_texts.specs.Sizes.{fault_in, refused_in}
use Rattle.circuit_texts.proofs.PairedLists.{partner_first}
use Rattle.machine_parts.specs.declared.part.MachinePart.{MachinePart}
use Rattle.machine_parts.specs.Parts.{Stands, IsMemberAt, HasMember, ReadsAt, IsStale, AreApart, has_members}
use Rattle.machine_laws.specs.Machines.{MachineData}
use Rattle.machine_parts.specs.Marking.{IsMarked, members_of}
use Rattle.machine_parts.specs.Making.{held, IsFormed, IsCodeRoom}
use Rattle.machine_parts.specs.Evaluating.{Rooms, IsSeated}
use Rattle.machine_parts.specs.Running.{IsRunnable, AreOwners, IsMachine}
use Rattle.machine_parts.specs.Readers.{readers_of, ListsAll, HaveSameReaders}
use Rattle.vicinity.specs.Touching.{RestsAsleep}
use Rattle.vicinity.specs.Wides.{WideData}
use Rattle.wide_groups.specs.Moving.{HasStaleOnly, graph_in}
use Rattle.wide_groups.specs.Staying.{HoldsNode}
use Rattle.machine_laws.specs.Fitting.{IsPartOf, IsHeldIn, IsOutside, Covers, AreTold}
use Rattle.machine_laws.specs.Finishing.{IsFresh, IsSlotOf, AreWaiting, HasCodeIn, LoosensHeld}
use Rattle.machine_parts.specs.Putting.{Puts}
use Rattle.machine_parts.proofs.PartLemmas.{same_part}
use Rattle.machine_laws.proofs.PartGroups.{one_group, member_of_part, member_from_part, place_in_group, some_members}
use Rattle.machine_laws.proofs.HeldParts.{member_taken}
use Rattle.machine_laws.proofs.HeldLemmas.{known_or_not}
use Rattle.machine_laws.proofs.LastTextsGroups.{first_member}
use Rattle.machine_parts.proofs.MakingLemmas.{IsSeated-formed}
use Rattle.machine_parts.proofs.MachineLemmas.{IsSeated-wider, IsMachine-with}
use Rattle.machine_parts.proofs.NumberLists.{one_or_none}

-- sums over lists that are worth the same place by place
same_sums : (f : MachinePart → ℕ) (xs ys : List MachinePart) → length ys ≡ length xs →
    ((k : ℕ) (x y : MachinePart) → slice_get xs k ≡ Some x → slice_get ys k ≡ Some y → f y ≡ f x) → sum_by f ys ≡ sum_by f xs
same_sums f [] [] counted same = refl
same_sums f [] (y ∷ ys) counted same = absurd (omega (arith, counted))
same_sums f (x ∷ xs) [] counted same = absurd (omega (arith, counted))
same_sums f (x ∷ xs) (y ∷ ys) counted same =
    omega (
      arith,
      sum_by-cons f x xs,
      sum_by-cons f y ys,
      same 0 x y refl refl,
      same_sums f xs ys (omega (arith, counted)) (λ k one two at_one at_two. same (suc k) one two at_one at_two),
    )

-- a part stands where the list has it
pub Stands-at : (parts : List MachinePart) (k : ℕ) (part : MachinePart) → slice_get parts k ≡ Some part → Stands parts k part
Stands-at parts k part at = record { inside = slice_get_within parts k part at; here = get_or_from_slice_get parts k part part at }

pub at-Stands : (parts : List MachinePart) (k : ℕ) (part : MachinePart) → Stands parts k part → slice_get parts k ≡ Some part
at-Stands parts k part stands = slice_get_read parts (length parts) k part refl stands.inside (sym stands.here)

pub part_here : (parts : List MachinePart) (k : ℕ) → k < length parts → (part : MachinePart) × Stands parts k part
part_here [] k inside = absurd (omega (arith, inside))
part_here (part ∷ parts) k inside =
    (get_or (part ∷ parts) k part, record { inside = inside; here = get_or_default (part ∷ parts) k _ part inside })

-- a machine with a wider workspace, whose nodes have the same readers, can run
pub IsMachine-wider : (parts : List MachinePart) (marks waiting : List Bool) (count : ℕ) (lists new_lists : List (SmallVec ℕ)) (owners numbers new_numbers : List (Option ℕ))
    (held most : ℕ) (room wide : Rooms) → room.values ≤ wide.values → wide.changes ≡ room.changes → wide.parts ≡ room.parts →
    new_numbers ≡ numbers → HaveSameReaders lists new_lists → IsMachine parts marks waiting count lists owners numbers held most room →
    IsMachine parts marks waiting count new_lists owners new_numbers held most wide
IsMachine-wider parts marks waiting count lists new_lists owners numbers new_numbers held most room wide values changes parts_are numbers_are same machine =
    IsMachine-with parts marks marks waiting count lists new_lists owners numbers new_numbers held most room wide refl same
    (omega (arith, ap length numbers_are)) values (omega (arith, changes)) (omega (arith, parts_are)) machine

-- a part that stays: it isn't in a slot, and if it is stale and its group has a text it has it
pub record StaysAt (g : GraphData) (old : List MachinePart) (uses : List (Option GroupTextData)) (slots : List ℕ) (k : ℕ) (part : MachinePart) : Type 0 where
  pub stands : Stands old k part
  pub no_slot : ¬ Contains slots k
  pub told : (group : Group) → part.code ≡ None → IsPartOf g group part → fault_in group ≡ None → slice_index_or uses k None ≢ None

-- a part that came in the place of a stale one
pub record ComesAt (g : GraphData) (old : List MachinePart) (some : List Group) (slots : List ℕ) (fresh : List MachinePart) (k : ℕ) (part : MachinePart) : Type 0 where
  pub i : ℕ
  pub slot : slice_get slots i ≡ Some k
  pub there : slice_get fresh i ≡ Some part
  pub group : Group
  pub group_at : slice_get some i ≡ Some group
  pub was : IsSlotOf g old group k
  pub is : IsFresh g group part

module _ (g : GraphData) (m : MachineData) (covers : Covers g m) (groups some : List Group) (slots : List ℕ) (waiting : AreWaiting g m.parts m.uses groups some slots)
    (fresh : List MachinePart) (fresh_are : AllZip (IsFresh g) some fresh) (new : List MachinePart) (puts : Puts slots fresh m.parts new) where
  -- each part stays or comes
  pub stays_or_comes : (k : ℕ) (part : MachinePart) → Stands new k part → StaysAt g m.parts m.uses slots k part ⊎ ComesAt g m.parts some slots fresh k part
  stays_or_comes k part stands =
      elim (one_or_none slots k) [
        | inl there ↦
            let (i, x, place, item, put) = puts.put k there in
            let both : Some x ≡ Some part = sym put ∙ at-Stands new k part stands in
            let same : x ≡ part = cc in
            let item_is : slice_get fresh i ≡ Some part = item ∙ ap Some same in
            let (group, group_at, was) = partner_first (IsSlotOf g m.parts) some slots i k waiting.slots_are place in
            let (other, other_at, is) = partner_first (IsFresh g) some fresh i part fresh_are item_is in
            let one : Some other ≡ Some group = sym other_at ∙ group_at in
            let equal : other ≡ group = cc in
            inr (record {
              i = i;
              slot = place;
              there = item_is;
              group = group;
              group_at = group_at;
              was = was;
              is = subst (λ one_group. IsFresh g one_group part) equal is;
            })
        | inr not_there ↦
            let stood : Stands m.parts k part = Stands-at m.parts k part (sym (puts.stays k not_there) ∙ at-Stands new k part stands) in
            inl (record {
              stands = stood;
              no_slot = not_there;
              told = λ group none is_part fits.
                  elim (waiting.all k part group stood none is_part fits) [
                    | inl slot ↦ absurd (not_there slot)
                    | inr numbered ↦ numbered
                  ];
            })
      ]

  new_at : (k : ℕ) (was : MachinePart) → Stands m.parts k was → (part : MachinePart) × Stands new k part
  new_at k was stands = part_here new k (omega (arith, stands.inside, puts.count))

  -- the members are the same
  pub HasMember-was : (k node : ℕ) → HasMember new k node → HasMember m.parts k node
  HasMember-was k node has =
      elim (stays_or_comes k has.part has.stands) [
        | inl stays ↦ record { part = has.part; stands = stays.stands; place = has.place; member = has.member }
        | inr comes ↦
            let here = member_from_part g comes.group has.part comes.is.is_part has.place node has.member in
            let inside = place_in_group g comes.group has.part comes.is.is_part has.place node has.member in
            let there : Contains comes.group.members node = (has.place, inside, get_or_default comes.group.members has.place node 0 inside ∙ here) in
            let (place, member) = member_of_part g comes.group comes.was.part comes.was.is_part node there in
            record { part = comes.was.part; stands = comes.was.stands; place = place; member = member }
      ]

  pub HasMember-now : (k node : ℕ) → HasMember m.parts k node → HasMember new k node
  HasMember-now k node has =
      let (part, stands) = new_at k has.part has.stands in
      elim (stays_or_comes k part stands) [
        | inl stays ↦
            let same = same_part m.parts k has.part part has.stands stays.stands in
            record { part = part; stands = stands; place = has.place; member = subst (λ one. IsMemberAt one has.place node) same has.member }
        | inr comes ↦
            let same = same_part m.parts k has.part comes.was.part has.stands comes.was.stands in
            let member = subst (λ one. IsMemberAt one has.place node) same has.member in
            let here = member_from_part g comes.group comes.was.part comes.was.is_part has.place node member in
            let inside = place_in_group g comes.group comes.was.part comes.was.is_part has.place node member in
            let there : Contains comes.group.members node = (has.place, inside, get_or_default comes.group.members has.place node 0 inside ∙ here) in
            let (place, now) = member_of_part g comes.group part comes.is.is_part node there in
            record { part = part; stands = stands; place = place; member = now }
      ]

  members_same : (k : ℕ) (was part : MachinePart) → slice_get m.parts k ≡ Some was → slice_get new k ≡ Some part → part.members ≡ was.members
  members_same k was part was_at at =
      let stood = Stands-at m.parts k was was_at in
      elim (stays_or_comes k part (Stands-at new k part at)) [
        | inl stays ↦ ap (λ (one : MachinePart). one.members) (same_part m.parts k part was stays.stands stood)
        | inr comes ↦
            let same = ap (λ (one : MachinePart). one.members) (same_part m.parts k comes.was.part was comes.was.stands stood) in
            omega (arith, comes.is.is_part.count, comes.was.is_part.count, same)
      ]

  pub members_sum : sum_by members_of new ≡ sum_by members_of m.parts
  members_sum = same_sums members_of m.parts new puts.count members_same

  pub members_count : count_by has_members new ≡ count_by has_members m.parts
  members_count =
      same_sums (λ part. cond (has_members part) 1 0) m.parts new puts.count
      (λ k was part was_at at. ap (λ n. cond (nat_lt 0 n) 1 0) (members_same k was part was_at at))

  apart_new : AreApart m.parts → AreApart new
  apart_new apart k l node one two = apart k l node (HasMember-was k node one) (HasMember-was l node two)

  pub AreOwners-new : (count : ℕ) (owners : List (Option ℕ)) → AreOwners m.parts count owners → AreOwners new count owners
  AreOwners-new count owners own = record {
    counted = own.counted;
    owner = λ node k has. own.owner node k (HasMember-was k node has);
    member = λ node k is. HasMember-now k node (own.member node k is);
  }

  -- slots are once, so a slot has one part
  pub one_place : (i j k : ℕ) → slice_get slots i ≡ Some k → slice_get slots j ≡ Some k → i ≡ j
  one_place i j k at_i at_j =
      let i_inside = slice_get_within slots i k at_i in
      let j_inside = slice_get_within slots j k at_j in
      let i_is : slice_index slots i ≡ k = get_or_from_slice_get slots i k 0 at_i in
      let j_is : slice_index slots j ≡ k = get_or_from_slice_get slots j k 0 at_j in
      elim (cases_lt i j) [
        | inl below ↦ absurd (waiting.once i j below j_inside (i_is ∙ sym j_is))
        | inr past ↦
            elim (cases_lt j i) [
              | inl below ↦ absurd (waiting.once j i below i_inside (j_is ∙ sym i_is))
              | inr too ↦ omega (arith, past, too)
            ]
      ]

  -- where a slot's part has no code, it goes on waiting
  module _ (coded : List ℕ) (coded_are : (k : ℕ) → Contains coded k ↔ HasCodeIn slots fresh k) where
    slot_of_coded : (k : ℕ) → HasCodeIn slots fresh k → Contains slots k
    slot_of_coded k has = (has.i, slice_get_within slots has.i k has.slot, get_or_from_slice_get slots has.i k k has.slot)

    -- the stale parts are those that were, but for those with code
    pub stale_stays : (k : ℕ) → IsStale new k → IsStale m.parts k × (¬ Contains coded k)
    stale_stays k stale =
        elim (stays_or_comes k stale.part stale.stands) [
          | inl stays ↦ (
            record { part = stale.part; stands = stays.stands; some = stale.some; none = stale.none },
            λ there. stays.no_slot (slot_of_coded k ((coded_are k).0 there)),
          )
          | inr comes ↦ (
            record { part = comes.was.part; stands = comes.was.stands; some = some_members comes.was.is_part; none = comes.was.stale },
            λ there.
                let has = (coded_are k).0 there in
                let one = one_place has.i comes.i k has.slot comes.slot in
                let both : Some has.part ≡ Some stale.part = sym has.there ∙ (ap (slice_get fresh) one ∙ comes.there) in
                let same : has.part ≡ stale.part = cc in
                has.coded (ap (λ (part : MachinePart). part.code) same ∙ stale.none),
          )
        ]

    pub stays_stale : (k : ℕ) → (¬ Contains coded k) → IsStale m.parts k → IsStale new k
    stays_stale k not_coded stale =
        let (part, stands) = new_at k stale.part stale.stands in
        elim (stays_or_comes k part stands) [
          | inl stays ↦
              let same : part ≡ stale.part = same_part m.parts k part stale.part stays.stands stale.stands in
              record {
                part = part;
                stands = stands;
                some = subst (λ (one : MachinePart). 0 < one.members) (sym same) stale.some;
                none = ap (λ (one : MachinePart). one.code) same ∙ stale.none;
              }
          | inr comes ↦
              elim (known_or_not part.code) [
                | inl (code, is) ↦
                    absurd (not_coded ((coded_are k).1 (record {
                      i = comes.i;
                      slot = comes.slot;
                      part = part;
                      there = comes.there;
                      coded = λ none. absurd (cc (none, is));
                    })))
                | inr none ↦ record { part = part; stands = stands; some = some_members comes.is.is_part; none = none }
              ]
        ]

  module _ (lists : List (SmallVec ℕ)) (new_lists : List (SmallVec ℕ)) (listed : ListsAll slots fresh lists new_lists) (count : ℕ) (room wide : Rooms)
      (marks flags new_flags : List Bool) (runs : IsRunnable m.parts marks flags count lists room) where
    readers_new : (node k : ℕ) → ReadsAt new k node → Contains (readers_of new_lists node) k
    readers_new node k reads =
        elim (stays_or_comes k reads.part reads.stands) [
          | inl stays ↦ listed.stays node k (runs.readers node k (record { part = reads.part; stands = stays.stands; reads = reads.reads }))
          | inr comes ↦ listed.listed node k (record { i = comes.i; part = reads.part; slot = comes.slot; there = comes.there; reads = reads.reads })
        ]

    reads_new : (node k : ℕ) → Contains (readers_of new_lists node) k → ReadsAt new k node
    reads_new node k there =
        elim (listed.only node k there) [
          | inl before ↦
              let was = runs.reads node k before in
              let (part, stands) = new_at k was.part was.stands in
              elim (stays_or_comes k part stands) [
                | inl stays ↦
                    let same = same_part m.parts k was.part part was.stands stays.stands in
                    record { part = part; stands = stands; reads = subst (λ (one : MachinePart). Contains one.reads.items node) same was.reads }
                | inr comes ↦
                    let same = same_part m.parts k was.part comes.was.part was.stands comes.was.stands in
                    let none = covers.quiet k comes.was.part comes.was.stands comes.was.stale in
                    let (n, inside, here) = subst (λ xs. Contains xs node) none (subst (λ (one : MachinePart). Contains one.reads.items node) same was.reads) in
                    absurd (omega (arith, inside))
              ]
          | inr how ↦
              let is_slot : Contains slots k = (how.i, slice_get_within slots how.i k how.slot, get_or_from_slice_get slots how.i k k how.slot) in
              let (i, x, place, item, put) = puts.put k is_slot in
              let one = one_place how.i i k how.slot place in
              let both : Some how.part ≡ Some x = sym how.there ∙ (ap (slice_get fresh) one ∙ item) in
              let same : how.part ≡ x = cc in
              record { part = x; stands = Stands-at new k x put; reads = subst (λ (p : MachinePart). Contains p.reads.items node) same how.reads }
        ]

    pub IsRunnable-new : All (IsFormed count) fresh → All (IsCodeRoom wide.values) fresh →
        room.values ≤ wide.values → wide.changes ≡ room.changes → wide.parts ≡ room.parts →
        (coded : List ℕ) → ((k : ℕ) → Contains coded k ↔ HasCodeIn slots fresh k) →
        ((k : ℕ) → IsMarked new_flags k ↔ (IsMarked flags k × (¬ Contains coded k))) → IsRunnable new marks new_flags count new_lists wide
    IsRunnable-new formed values_room values changes parts_are coded coded_are released = record {
      counted = runs.counted ∙ sym puts.count;
      seated = λ k d inside.
          let part = get_or new k d in
          let stands : Stands new k part = record { inside = inside; here = get_or_default new k part d inside } in
          elim (stays_or_comes k part stands) [
            | inl stays ↦
                IsSeated-wider count room wide part values
                (subst (IsSeated count room) (stays.stands.here) (runs.seated k part stays.stands.inside))
            | inr comes ↦
                let within = slice_get_within fresh comes.i part comes.there in
                let here = get_or_from_slice_get fresh comes.i part part comes.there in
                IsSeated-formed count wide part (subst (IsFormed count) here (formed comes.i part within))
                (subst (IsCodeRoom wide.values) here (values_room comes.i part within))
          ];
      apart = apart_new runs.apart;
      waits = λ k waits.
          let (before, other) = (released k).0 waits in
          stays_stale coded coded_are k other (runs.waits k before);
      stale = λ k stale.
          let (before, other) = stale_stays coded coded_are k stale in
          (released k).1 (runs.stale k before, other);
      readers_counted = listed.count ∙ runs.readers_counted;
      readers = readers_new;
      reads = reads_new;
      changes_room = omega (arith, runs.changes_room, members_sum, changes);
      parts_room = omega (arith, runs.parts_room, puts.count, parts_are);
    }

  -- no part whose group is stepped by vicinities gets code
  module _ (coded : List ℕ) (coded_are : (k : ℕ) → Contains coded k ↔ HasCodeIn slots fresh k) (free : LoosensHeld m.wide fresh) where
    coded_outside : (wide : WideData) → m.wide ≡ Some wide → (k : ℕ) → Contains coded k → (part : MachinePart) → Stands m.parts k part →
        IsOutside wide.graph part
    coded_outside wide is k there part stands =
        let has = (coded_are k).0 there in
        let (group, group_at, slot) = partner_first (IsSlotOf g m.parts) some slots has.i k waiting.slots_are has.slot in
        let (other, other_at, fresh_is) = partner_first (IsFresh g) some fresh has.i has.part fresh_are has.there in
        let both : Some other ≡ Some group = sym other_at ∙ group_at in
        let equal : other ≡ group = cc in
        let first : slice_index has.part.map.items 0 ≡ id_of group =
        (first_member g group has.part (subst (λ one. IsPartOf g one has.part) equal fresh_is.is_part)).here in
        let same : slot.part ≡ part = same_part m.parts k slot.part part slot.stands stands in
        elim (covers.held wide is k slot.part slot.stands (some_members slot.is_part) slot.stale) [
          | inl held ↦
              let one : held.group ≡ group = one_group g held.group group slot.part held.is_part slot.is_part in
              let is_group : IsGroup wide.graph group = subst (IsGroup wide.graph) one held.alike.there in
              let storage : IsStorage wide.graph (id_of group) = member_storage wide.graph group is_group (id_of group) (id_member wide.graph group is_group) in
              let holds : HoldsNode m.wide (id_of group) = subst (λ known. IsStorage (graph_in known) (id_of group)) (sym is) storage in
              absurd (has.coded (free has.i has.part has.there (subst (HoldsNode m.wide) (sym first) holds)))
          | inr outside ↦ subst (IsOutside wide.graph) same outside
        ]

    -- and those that go on waiting have the members of these groups
    pub stale_only_readied : (wide : WideData) → m.wide ≡ Some wide → HasStaleOnly new wide.graph
    stale_only_readied wide is node storage =
        let (k, has, stale) = covers.stale_only wide is node storage in
        elim (one_or_none coded k) [
          | inl there ↦
              absurd (coded_outside wide is k there stale.part stale.stands node (member_taken m.parts k stale.part stale.stands node has) storage)
          | inr not_there ↦ (k, HasMember-now k node has, stays_stale coded coded_are k not_there stale)
        ]

  -- the machine covers the graph with its new parts and their texts
  module _ (uses : List (Option GroupTextData)) (uses_counted : length uses ≡ length m.uses)
      (uses_stay : (k : ℕ) → ¬ Contains slots k → slice_index_or uses k None ≡ slice_index_or m.uses k None)
      (uses_come : (i k : ℕ) (group : Group) → slice_get slots i ≡ Some k → slice_get some i ≡ Some group →
      slice_index_or uses k None ≡ Some (text_of_group g group))
      (fit : All (λ group. fault_in group ≡ None) some) (texts : ℕ) where
    abbrev pub readied : MachineData
    readied = record m { parts = new; uses = uses; texts = texts }

    -- a part that came has its text
    comes_told : (k : ℕ) (part : MachinePart) → ComesAt g m.parts some slots fresh k part → slice_index_or uses k None ≢ None
    comes_told k part comes none =
        let both : Some (text_of_group g comes.group) ≡ None = sym (uses_come comes.i k comes.group comes.slot comes.group_at) ∙ none in
        absurd cc

    -- so each stale part whose group has a text has one
    pub told_new : AreTold g readied
    told_new k part group stands none is_part fits lacks =
        elim (stays_or_comes k part stands) [
          | inl stays ↦ stays.told group none is_part fits (sym (uses_stay k stays.no_slot) ∙ lacks)
          | inr comes ↦ comes_told k part comes lacks
        ]

    -- a part that was held in its place is held
    comes_held : (wide : WideData) → m.wide ≡ Some wide → (k : ℕ) (part : MachinePart) → ComesAt g m.parts some slots fresh k part →
        IsHeldIn g m.state wide (slice_index_or uses k None) part ⊎ IsOutside wide.graph part
    comes_held wide is k part comes =
        elim (covers.held wide is k comes.was.part comes.was.stands (some_members comes.was.is_part) comes.was.stale) [
          | inl held ↦
              let same : held.group ≡ comes.group = one_group g held.group comes.group comes.was.part held.is_part comes.was.is_part in
              inl (record {
                group = comes.group;
                is_part = comes.is.is_part;
                allowed = subst (λ (one : Group). refused_in wide.large one ≡ None) same held.allowed;
                told = λ fits. comes_told k part comes;
                wired = held.wired;
                alike = subst (IsAlike g wide.graph) same held.alike;
                rests = subst (λ (one : Group). RestsAsleep wide.graph m.state one.members wide.touched.list) same held.rests;
              })
          | inr outside ↦
              inr (λ node there. outside node (subst (λ xs. Contains xs node) (comes.is.is_part.members ∙ sym comes.was.is_part.members) there))
        ]

    module _ (coded : List ℕ) (coded_are : (k : ℕ) → Contains coded k ↔ HasCodeIn slots fresh k) (free : LoosensHeld m.wide fresh) where
      pub Covers-readied : Covers g readied
      Covers-readied = record {
        groups = covers.groups;
        kept = covers.kept;
        are = covers.are;
        counted = covers.counted;
        each = λ i group at.
            let has = covers.each i group at in
            let (part, stands) = new_at has.k has.part has.stands in
            elim (stays_or_comes has.k part stands) [
              | inl stays ↦ record {
                k = has.k;
                part = part;
                stands = stands;
                is_part = subst (IsPartOf g group) (same_part m.parts has.k has.part part has.stands stays.stands) has.is_part;
              }
              | inr comes ↦
                  let same = same_part m.parts has.k has.part comes.was.part has.stands comes.was.stands in
                  let one = one_group g comes.group group comes.was.part comes.was.is_part (subst (IsPartOf g group) same has.is_part) in
                  record { k = has.k; part = part; stands = stands; is_part = subst (λ it. IsPartOf g it part) one comes.is.is_part }
            ];
        whole = λ k part stands has.
            elim (stays_or_comes k part stands) [
              | inl stays ↦ covers.whole k part stays.stands has
              | inr comes ↦ (comes.group, comes.is.is_part)
            ];
        apart = apart_new covers.apart;
        number = members_count ∙ covers.number;
        known = λ k part stands numbered group is_part.
            elim (stays_or_comes k part stands) [
              | inl stays ↦
                  let was = covers.known k part stays.stands (λ none. numbered (uses_stay k stays.no_slot ∙ none)) group is_part in
                  record { same = uses_stay k stays.no_slot ∙ was.same; fits = was.fits }
              | inr comes ↦
                  let one = one_group g comes.group group part comes.is.is_part is_part in
                  let within = slice_get_within some comes.i comes.group comes.group_at in
                  let fits : fault_in comes.group ≡ None =
                  subst (λ it. fault_in it ≡ None) (get_or_from_slice_get some comes.i comes.group comes.group comes.group_at) (fit comes.i comes.group within) in
                  record {
                    same = uses_come comes.i k comes.group comes.slot comes.group_at ∙ ap (λ it. Some (text_of_group g it)) one;
                    fits = subst (λ it. fault_in it ≡ None) one fits;
                  }
            ];
        numbered = λ k part stands has coded lacks.
            elim (stays_or_comes k part stands) [
              | inl stays ↦ covers.numbered k part stays.stands has coded (sym (uses_stay k stays.no_slot) ∙ lacks)
              | inr comes ↦ comes_told k part comes lacks
            ];
        textless = λ k part stands none.
            elim (stays_or_comes k part stands) [
              | inl stays ↦ uses_stay k stays.no_slot ∙ covers.textless k part stays.stands none
              | inr comes ↦ absurd (omega (arith, none, some_members comes.is.is_part))
            ];
        uses_counted = uses_counted ∙ (covers.uses_counted ∙ sym puts.count);
        quiet = λ k part stands none.
            elim (stays_or_comes k part stands) [
              | inl stays ↦ covers.quiet k part stays.stands none
              | inr comes ↦ comes.is.quiet none
            ];
        waits = λ k part stands has none.
            elim (stays_or_comes k part stands) [
              | inl stays ↦ covers.waits k part stays.stands has none
              | inr comes ↦ covers.waits k comes.was.part comes.was.stands (some_members comes.was.is_part) comes.was.stale
            ];
        rests = λ k part stands unmarked.
            elim (stays_or_comes k part stands) [
              | inl stays ↦ covers.rests k part stays.stands unmarked
              | inr comes ↦ absurd (unmarked (covers.waits k comes.was.part comes.was.stands (some_members comes.was.is_part) comes.was.stale))
            ];
        stale_only = stale_only_readied coded coded_are free;
        held = λ wide is k part stands has none.
            elim (stays_or_comes k part stands) [
              | inl stays ↦
                  elim (covers.held wide is k part stays.stands has none) [
                    | inl held ↦
                        inl (subst (λ (text : Option GroupTextData). IsHeldIn g m.state wide text part) (sym (uses_stay k stays.no_slot)) held)
                    | inr outside ↦ inr outside
                  ]
              | inr comes ↦ comes_held wide is k part comes
            ];
      }

    pub parts_readied : (k : ℕ) (part : MachinePart) → Stands m.parts k part → part.code ≢ None → Stands new k part
    parts_readied k part stands coded =
        let (now, now_stands) = new_at k part stands in
        elim (stays_or_comes k now now_stands) [
          | inl stays ↦ subst (Stands new k) (same_part m.parts k now part stays.stands stands) now_stands
          | inr comes ↦
              let same = same_part m.parts k comes.was.part part comes.was.stands stands in
              absurd (coded (ap (λ (one : MachinePart). one.code) (sym same) ∙ comes.was.stale))
        ]
