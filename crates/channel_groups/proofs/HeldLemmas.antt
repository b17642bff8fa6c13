-- Groups as they are held: what the list of them contains, that their ids ascend, and how one is found.
use Rattle.std.proofs.Common.{◌≡◌, ℕ, zero, suc, ◌+◌, ◌<◌, ◌≤◌, ◌==◌, Bool, true, false, inl, inr, List, [], ◌∷◌, ◌++◌, cond, take, length, map, get_or, Option, Some, None, Contains, refl, sym, ap, subst, ◌∙◌, arith, All}
use Rattle.std.specs.Prelude.{count_by, find, nat_le, is_some}
use Rattle.std.specs.List.Sorted.{IsStrictlyIncreasing}
use Rattle.std.proofs.lemmas.Bool.{cases_Bool, cases_lt, eqb-true, eq-eqb, ne_eqb, le-leb, lt-leb}
use Rattle.std.proofs.lemmas.List.{take_more, map-append, get_or_past, get_or_default, length-map, get_or-map}
use Rattle.std.proofs.lemmas.List.Sums.{sum_by-cons}
use Rattle.std.proofs.lemmas.List.Elements.{Contains-get_or, filter_map-append}
use Rattle.std.proofs.lemmas.List.Folds.{Any-from_list_any, list_any_at}
use Rattle.std.proofs.lemmas.List.Kept.{AllPairs-from_increasing}
use Rattle.group_meaning.proofs.MappedLists.{contains-from_map}
use Rattle.list_facts.proofs.ContainsLemmas.{Contains-cons_cases, Contains-cons_first, Contains-cons_later}
use Rattle.group_meaning.specs.Groups.{Group, IsGroup, id_of}
use Rattle.switch_paths.specs.Graphs.{GraphData}
use Rattle.channel_groups.specs.declared.group.GroupId.{GroupId}
use Rattle.channel_groups.specs.Grouping.{has_member, group_with, IsId, class_at, slot_at, held, IsHeld}

-- where something stands there is a place
pub there_inside : {X : Type 0} (xs : List (Option X)) (k : ℕ) (x : X) → get_or xs k None ≡ Some x → k < length xs
there_inside xs k x is =
    elim (cases_lt k (length xs)) [
      | inl inside ↦ inside
      | inr past ↦ let none = get_or_past xs k None past in absurd (cc)
    ]

-- a group that is held stands in a slot
pub slot-from_held : (slots : List (Option Group)) (group : Group) → Contains (held slots) group → (id : ℕ) × (slot_at slots id ≡ Some group)
slot-from_held [] group there = absurd (omega (arith, there.1))
slot-from_held (None ∷ slots) group there = let rest = slot-from_held slots group there in (suc rest.0, rest.1)
slot-from_held (Some first ∷ slots) group there =
    elim (Contains-cons_cases first (held slots) group there) [
      | inl same ↦ (0, ap Some same)
      | inr later ↦ let rest = slot-from_held slots group later in (suc rest.0, rest.1)
    ]

-- what stands in a slot is held
pub held-from_slot : (slots : List (Option Group)) (id : ℕ) (group : Group) → slot_at slots id ≡ Some group → Contains (held slots) group
held-from_slot [] id group is = absurd (cc)
held-from_slot (None ∷ slots) zero group is = absurd (cc)
held-from_slot (None ∷ slots) (suc id) group is = held-from_slot slots id group is
held-from_slot (Some first ∷ slots) zero group is = let same : first ≡ group = cc in Contains-cons_first first (held slots) group same
held-from_slot (Some first ∷ slots) (suc id) group is = Contains-cons_later first (held slots) group (held-from_slot slots id group is)

-- one in front that is below all others
ascending_front : (x : ℕ) (xs : List ℕ) → ((y : ℕ) → Contains xs y → x < y) → IsStrictlyIncreasing xs → IsStrictlyIncreasing (x ∷ xs)
ascending_front x xs above ascending zero below = above (get_or xs 0 0) (Contains-get_or xs 0 0 (omega arith))
ascending_front x xs above ascending (suc k) below =
    let next : suc k + 1 ≡ suc (k + 1) = omega arith in
    rw next (ascending k (omega arith))

-- the id of a held group is that of a slot
id-from_held : (slots : List (Option Group)) (base id : ℕ) → ((k : ℕ) (group : Group) → slot_at slots k ≡ Some group → id_of group ≡ base + k) →
    Contains (map id_of (held slots)) id → (k : ℕ) × (k < length slots) × (id ≡ base + k)
id-from_held [] base id own there = absurd (omega (arith, there.1))
id-from_held (None ∷ slots) base id own there =
    let rest = id-from_held slots (base + 1) id (λ k group is. own (suc k) group is ∙ omega arith) there in
    (suc rest.0, omega (arith, rest.1), rest.2 ∙ omega arith)
id-from_held (Some first ∷ slots) base id own there =
    elim (Contains-cons_cases (id_of first) (map id_of (held slots)) id there) [
      | inl same ↦ (0, omega arith, sym same ∙ own 0 first refl)
      | inr later ↦
          let rest = id-from_held slots (base + 1) id (λ k group is. own (suc k) group is ∙ omega arith) later in
          (suc rest.0, omega (arith, rest.1), rest.2 ∙ omega arith)
    ]

-- where each group stands at its id their ids ascend
ascending_from : (slots : List (Option Group)) (base : ℕ) → ((k : ℕ) (group : Group) → slot_at slots k ≡ Some group → id_of group ≡ base + k) →
    IsStrictlyIncreasing (map id_of (held slots))
ascending_from [] base own = λ k below. absurd (omega arith)
ascending_from (None ∷ slots) base own = ascending_from slots (base + 1) (λ k group is. own (suc k) group is ∙ omega arith)
ascending_from (Some first ∷ slots) base own =
    let later : (k : ℕ) (group : Group) → slot_at slots k ≡ Some group → id_of group ≡ base + 1 + k = λ k group is. own (suc k) group is ∙ omega arith in
    ascending_front (id_of first) (map id_of (held slots))
    (λ id there.
    let at = id-from_held slots (base + 1) id later there in
    let here = own 0 first refl in
    omega (arith, at.2, here))
    (ascending_from slots (base + 1) later)

pub held_ascending : (slots : List (Option Group)) → ((id : ℕ) (group : Group) → slot_at slots id ≡ Some group → id_of group ≡ id) →
    IsStrictlyIncreasing (map id_of (held slots))
held_ascending slots own = ascending_from slots 0 (λ k group is. own k group is ∙ omega arith)

-- the first group that passes is found
pub find_held : (p : Group → Bool) (slots : List (Option Group)) (k : ℕ) (group : Group) → slot_at slots k ≡ Some group → p group ≡ true →
    ((j : ℕ) (other : Group) → j < k → slot_at slots j ≡ Some other → p other ≡ false) → find p (held slots) ≡ Some group
find_held p [] k group is passes before = absurd (cc)
find_held p (None ∷ slots) zero group is passes before = absurd (cc)
find_held p (None ∷ slots) (suc k) group is passes before =
    find_held p slots k group is passes (λ j other below at. before (suc j) other (omega arith) at)
find_held p (Some first ∷ slots) zero group is passes before =
    let same : first ≡ group = cc in
    rw (same, passes) refl
find_held p (Some first ∷ slots) (suc k) group is passes before =
    let fails : p first ≡ false = before 0 first (omega arith) refl in
    rw fails (find_held p slots k group is passes (λ j other below at. before (suc j) other (omega arith) at))

-- if none passes none is found
pub find_held-none : (p : Group → Bool) (slots : List (Option Group)) → ((k : ℕ) (group : Group) → slot_at slots k ≡ Some group → p group ≡ false) →
    find p (held slots) ≡ None
find_held-none p [] fails = refl
find_held-none p (None ∷ slots) fails = find_held-none p slots (λ k group is. fails (suc k) group is)
find_held-none p (Some first ∷ slots) fails =
    let first_fails : p first ≡ false = fails 0 first refl in
    rw first_fails (find_held-none p slots (λ k group is. fails (suc k) group is))

-- what is found stands in a slot and passes
pub found_held : (p : Group → Bool) (slots : List (Option Group)) → is_some (find p (held slots)) ≡ true →
    (k : ℕ) × (group : Group) × (slot_at slots k ≡ Some group) × (p group ≡ true)
found_held p [] found = absurd (cc)
found_held p (None ∷ slots) found = let rest = found_held p slots found in (suc rest.0, rest.1, rest.2, rest.3)
found_held p (Some first ∷ slots) found =
    elim (cases_Bool (p first)) [
      | inl passes ↦ (0, first, refl, passes)
      | inr fails ↦ let rest = found_held p slots (rw fails at found) in (suc rest.0, rest.1, rest.2, rest.3)
    ]

-- a group has a member or not
pub has_member-Contains : (node : ℕ) (group : Group) → has_member node group ≡ true → Contains group.members node
has_member-Contains node group has =
    let any = Any-from_list_any (λ member. member == node) group.members has in
    let same : any.1 ≡ node = eqb-true any.1 node any.4 in
    (any.0, any.2, get_or_default group.members any.0 node any.1 any.2 ∙ any.3 ∙ same)

pub has_member-from : (node : ℕ) (group : Group) → Contains group.members node → has_member node group ≡ true
has_member-from node group there =
    list_any_at (λ member. member == node) group.members there.0 node there.1 (eq-eqb (get_or group.members there.0 node) node there.2)

module _ (classes : List (Option ℕ)) (slots : List (Option Group)) (are : IsHeld classes slots) where
  -- a group stands at one place
  pub one_slot : (j k : ℕ) (one two : Group) (node : ℕ) → slot_at slots j ≡ Some one → slot_at slots k ≡ Some two →
      Contains one.members node → Contains two.members node → (j ≡ k) × (one ≡ two)
  one_slot j k one two node at_j at_k in_one in_two =
      let first = are.class j node one at_j in_one in
      let second = are.class k node two at_k in_two in
      let same : j ≡ k = cc (first, second) in
      let at : slot_at slots j ≡ Some two = ap (slot_at slots) same ∙ at_k in
      (same, (cc (at_j, at)))

  -- and its id is a member of it
  pub id_inside : (id : ℕ) (group : Group) → slot_at slots id ≡ Some group → Contains group.members id
  id_inside id group is =
      let own = are.own id group is in
      subst (Contains group.members) own.0 (Contains-get_or group.members 0 0 own.1)

  -- the group of a node is found by it
  pub find_member : (node id : ℕ) (group : Group) → class_at classes node ≡ Some id → slot_at slots id ≡ Some group →
      find (has_member node) (held slots) ≡ Some group
  find_member node id group is at =
      let there = are.member node id is in
      let same : there.0 ≡ group = cc (there.1, at) in
      let here : Contains group.members node = subst (λ (one : Group). Contains one.members node) same there.2 in
      find_held (has_member node) slots id group at (has_member-from node group here)
      (λ j other below at_j.
      elim (cases_Bool (has_member node other)) [
        | inl has ↦ let one = one_slot j id other group node at_j at (has_member-Contains node other has) here in absurd (omega (arith, one.0))
        | inr fails ↦ fails
      ])

  -- a node without a class has no group
  pub find_no_member : (node : ℕ) → class_at classes node ≡ None → find (has_member node) (held slots) ≡ None
  find_no_member node none =
      find_held-none (has_member node) slots
      (λ k group at.
      elim (cases_Bool (has_member node group)) [
        | inl has ↦ let class = are.class k node group at (has_member-Contains node group has) in absurd (cc (class, none))
        | inr fails ↦ fails
      ])

  -- the group in a slot is found by its id
  pub group_with-slot : (id : ℕ) (group : Group) → slot_at slots id ≡ Some group → group_with (held slots) id ≡ Some group
  group_with-slot id group at =
      find_held (λ group. id_of group == id) slots id group at (eq-eqb (id_of group) id (are.own id group at).0)
      (λ j other below at_j. ne_eqb (id_of other) id (λ same. let own = (are.own j other at_j).0 in absurd (omega arith)))

  -- so its place is an id
  pub IsId-slot : (id : ℕ) (group : Group) → slot_at slots id ≡ Some group → IsId (held slots) id
  IsId-slot id group at = ap is_some (group_with-slot id group at)

  -- and at an id a group stands
  pub slot-from_id : (id : ℕ) → IsId (held slots) id → (group : Group) × (slot_at slots id ≡ Some group)
  slot-from_id id is_id =
      let found = found_held (λ group. id_of group == id) slots is_id in
      let same : found.0 ≡ id = sym (are.own found.0 found.1 found.2).0 ∙ eqb-true (id_of found.1) id found.3 in
      (found.1, ap (slot_at slots) (sym same) ∙ found.2)

  -- from a node on, the first slot that holds a group has the next id
  pub next_id_found : (from id : ℕ) (group : Group) → slot_at slots id ≡ Some group → from ≤ id →
      ((j : ℕ) → from ≤ j → j < id → slot_at slots j ≡ None) → find (λ group. nat_le from (id_of group)) (held slots) ≡ Some group
  next_id_found from id group at above none =
      let own = (are.own id group at).0 in
      find_held (λ group. nat_le from (id_of group)) slots id group at (le-leb from (id_of group) (omega arith))
      (λ j other below at_j.
      let own_j = (are.own j other at_j).0 in
      lt-leb from (id_of other)
      (elim (cases_lt j from) [
        | inl before ↦ omega (arith, own_j)
        | inr after ↦ let nothing = none j after below in absurd (cc (nothing, at_j))
      ]))

  pub no_next_id : (from : ℕ) → ((j : ℕ) → from ≤ j → slot_at slots j ≡ None) → find (λ group. nat_le from (id_of group)) (held slots) ≡ None
  no_next_id from none =
      find_held-none (λ group. nat_le from (id_of group)) slots
      (λ j other at_j.
      let own_j = (are.own j other at_j).0 in
      lt-leb from (id_of other)
      (elim (cases_lt j from) [
        | inl before ↦ omega (arith, own_j)
        | inr after ↦ let nothing = none j after in absurd (cc (nothing, at_j))
      ]))

-- what is found stands somewhere in the list and passes
pub found_place : {X : Type 0} → (p : X → Bool) (xs : List X) (x : X) → find p xs ≡ Some x → (k : ℕ) × (k < length xs) × (get_or xs k x ≡ x) × (p x ≡ true)
found_place p [] x found = absurd (cc)
found_place p (y ∷ xs) x found =
    elim (cases_Bool (p y)) [
      | inl passes ↦
          let here : Some y ≡ Some x = rw passes at found in
          let same : y ≡ x = cc in
          (0, omega arith, same, ap p (sym same) ∙ passes)
      | inr fails ↦
          let rest = found_place p xs x (rw fails at found) in
          (suc rest.0, omega (arith, rest.1), rest.2, rest.3)
    ]

-- the group that an id of the list finds stands in the list if the id does
pub group_at_id : (groups : List Group) → IsStrictlyIncreasing (map id_of groups) → (nodes : List ℕ) → nodes ≡ map id_of groups → (k id : ℕ) → k < length groups →
    get_or nodes k 0 ≡ id → (group : Group) → group_with groups id ≡ Some group → get_or groups k group ≡ group
group_at_id groups ascending nodes is k id inside at group found =
    let place = found_place (λ group. id_of group == id) groups group found in
    let j = place.0 in
    let count = length-map groups id_of in
    let id_j : get_or (map id_of groups) j 0 ≡ id =
    get_or-map id_of groups j group 0 place.1 ∙ ap id_of place.2 ∙ eqb-true (id_of group) id place.3 in
    let id_k : get_or (map id_of groups) k 0 ≡ id = ap (λ (xs : List ℕ). get_or xs k 0) (sym is) ∙ at in
    elim (cases_lt j k) [
      | inl before ↦
          let less = AllPairs-from_increasing (map id_of groups) ascending j k 0 before (omega (arith, inside, count)) in
          absurd (omega (arith, less, id_j, id_k))
      | inr not_before ↦
          elim (cases_lt k j) [
            | inl after ↦
                let less = AllPairs-from_increasing (map id_of groups) ascending k j 0 after (omega (arith, place.1, count)) in
                absurd (omega (arith, less, id_j, id_k))
            | inr not_after ↦ let same : k ≡ j = omega arith in ap (λ n. get_or groups n group) same ∙ place.2
          ]
    ]

-- the ids of the held groups are ids
pub all_ids : (classes : List (Option ℕ)) (slots : List (Option Group)) → IsHeld classes slots → (nodes : List ℕ) → nodes ≡ map id_of (held slots) →
    (k : ℕ) → k < length nodes → (d : ℕ) → IsId (held slots) (get_or nodes k d)
all_ids classes slots are nodes is k inside d =
    let there : Contains (map id_of (held slots)) (get_or nodes k d) = subst (λ (xs : List ℕ). Contains xs (get_or nodes k d)) is (Contains-get_or nodes k d inside) in
    let any = contains-from_map id_of (held slots) (get_or nodes k d) there in
    let slot = slot-from_held slots any.1 (any.0, any.2, any.3) in
    let own = (are.own slot.0 any.1 slot.1).0 in
    subst (IsId (held slots)) (sym own ∙ any.4) (IsId-slot classes slots are slot.0 any.1 slot.1)

-- one slot more
pub ids_more : (slots : List (Option Group)) (i : ℕ) → i < length slots →
    map id_of (held (take (i + 1) slots)) ≡ map id_of (held (take i slots)) ++ map id_of (held (slot_at slots i ∷ []))
ids_more slots i inside =
    ap (λ (xs : List (Option Group)). map id_of (held xs)) (take_more slots i None inside)
    ∙ ap (map id_of) (filter_map-append (λ (slot : Option Group). slot) (take i slots) (slot_at slots i ∷ []))
    ∙ map-append id_of (held (take i slots)) (held (slot_at slots i ∷ []))

-- each slot that isn't empty is a group
pub count_held : (slots : List (Option Group)) → count_by is_some slots ≡ length (held slots)
count_held [] = refl
count_held (None ∷ slots) = sum_by-cons (λ (slot : Option Group). cond (is_some slot) 1 0) None slots ∙ omega (arith, count_held slots)
count_held (Some group ∷ slots) = sum_by-cons (λ (slot : Option Group). cond (is_some slot) 1 0) (Some group) slots ∙ omega (arith, count_held slots)

-- the group of an id in the list of all ids stands in the list of groups if the id does
pub group_of_id : (groups : List Group) → IsStrictlyIncreasing (map id_of groups) → (ids : List GroupId) → map (λ (id : GroupId). id.node) ids ≡ map id_of groups →
    (k : ℕ) (d : GroupId) → k < length ids → (group : Group) → group_with groups (get_or ids k d).node ≡ Some group →
    (k < length groups) × (get_or groups k group ≡ group)
group_of_id groups ascending ids same k d inside group found =
    let nodes = map (λ (id : GroupId). id.node) ids in
    let within : k < length groups =
    omega (arith, inside, ap length same, length-map ids (λ (id : GroupId). id.node), length-map groups id_of) in (
      within,
      group_at_id groups ascending nodes same k (get_or ids k d).node within (get_or-map (λ (id : GroupId). id.node) ids k d 0 inside) group found,
    )

-- the group that an id finds is a group of the graph
pub IsGroup-found : (g : GraphData) (groups : List Group) (id : ℕ) (group : Group) → All (IsGroup g) groups →
    group_with groups id ≡ Some group → IsGroup g group
IsGroup-found g groups id group each found =
    let place = found_place (λ group. id_of group == id) groups group found in
    subst (IsGroup g) place.2 (each place.0 group place.1)
