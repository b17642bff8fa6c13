-- How many steps a regrouping takes: for the old groups that are touched at most five a member, and for the new ones at most six a
-- member and two a switch.
use Rattle.std.proofs.Common.{◌≡◌, ℕ, ◌+◌, ◌*◌, ◌≤◌, ◌⊎◌, inl, inr, Bool, true, false, ◌||◌, ◌==◌, List, [], ◌∷◌, ◌++◌, length, map, get_or, filter, nat_eq, Contains, Option, Some, None, refl, sym, ap, subst, ◌∙◌, arith}
use Rattle.std.specs.List.{IsDistinct, list_any, flat_map, sum_by}
use Rattle.std.proofs.lemmas.Bool.{eq-eqb}
use native.Mathlib.Nat.{suc-mul}
use Rattle.std.proofs.lemmas.Nat.{mul-le}
use Rattle.std.proofs.lemmas.List.{length-append}
use Rattle.std.proofs.lemmas.List.Elements.{All-contains, Contains-append_left, Contains-append_right, Contains-append_cases, filter-append}
use Rattle.std.proofs.lemmas.List.Folds.{list_any_at}
use Rattle.std.proofs.lemmas.List.Sums.{sum_by-cons, get_or-le-sum_by}
use Rattle.std.proofs.lemmas.Map.Keys.{IsDistinct-tail}
use Rattle.list_facts.proofs.ContainsLemmas.{Contains-cons_cases, Contains-cons_first, Contains-cons_later, Contains-filter, Contains-from_filter, passes-from_filter}
use Rattle.group_meaning.proofs.MappedLists.{contains-map}
use Rattle.switch_paths.specs.declared.switching.Switch.{Switch}
use Rattle.switch_paths.specs.Graphs.{GraphData, IsStorage}
use Rattle.group_meaning.specs.Groups.{Group, id_of, IsGroup, AreGroups}
use Rattle.group_meaning.proofs.GroupLemmas.{member_storage}
use Rattle.group_meaning.proofs.UniqueGroups.{id_member, same_by_member}
use Rattle.channel_groups.specs.declared.change.Change.{Change}
use Rattle.channel_groups.specs.Changes.{ends_of, ends_before, levelled, nodes_before, nodes_after, is_among, is_touched, is_touched_now, in_some, size_of, touched_size}
use Rattle.channel_groups.specs.Grouping.{slot_at, held, IsHeld, group_at_node}
use Rattle.channel_groups.specs.Search.{is_storage, search_cost, ArePaid}
use Rattle.channel_groups.specs.Writing.{AreTouched, IsPlan, members_in, before_cost, IsCheap}
use Rattle.list_facts.proofs.DistinctLemmas.{not_again, IsDistinct-filter}
use Rattle.channel_groups.proofs.CountLemmas.{length-le_from_contained}
use Rattle.channel_groups.proofs.HeldLemmas.{held-from_slot}
use Rattle.channel_groups.proofs.SearchLemmas.{IsStorage-from_test}
use Rattle.channel_groups.proofs.StoreLemmas.{group-at_node}

-- storage nodes among the roots are at most as many as the roots
pub few_roots : (g : GraphData) (roots : List ℕ) → IsDistinct nat_eq roots → length (filter (is_storage g) roots) ≤ length roots
few_roots g roots distinct =
    length-le_from_contained (filter (is_storage g) roots) roots (IsDistinct-filter (is_storage g) roots distinct)
    (λ n there. Contains-from_filter (is_storage g) roots n there)

-- and where each of them was seen they are at most as many as what was seen
pub few_new_roots : (g : GraphData) (roots seen : List ℕ) → IsDistinct nat_eq roots → ((n : ℕ) → Contains roots n → IsStorage g n → Contains seen n) →
    length (filter (is_storage g) roots) ≤ length seen
few_new_roots g roots seen distinct rooted =
    length-le_from_contained (filter (is_storage g) roots) seen (IsDistinct-filter (is_storage g) roots distinct)
    (λ n there. rooted n (Contains-from_filter (is_storage g) roots n there) (IsStorage-from_test g n (passes-from_filter (is_storage g) roots n there)))

-- a node among some is found by the test
pub among : (xs : List ℕ) (n : ℕ) → Contains xs n → is_among xs n ≡ true
among xs n there = list_any_at (λ x. x == n) xs there.0 n there.1 (eq-eqb (get_or xs there.0 n) n there.2)

-- what passes at an element passes in the list
pub any_there : {X : Type 0} (test : X → Bool) (xs : List X) (x : X) → Contains xs x → test x ≡ true → list_any test xs ≡ true
any_there test xs x there passes = list_any_at test xs there.0 x there.1 (ap test there.2 ∙ passes)

pub or_left : (a b : Bool) → a ≡ true → (a || b) ≡ true
or_left a b is = rw is refl

pub or_right : (a b : Bool) → b ≡ true → (a || b) ≡ true
or_right true b is = refl
or_right false b is = is

-- the members of all groups together
members_together : (groups : List Group) → length (flat_map (λ group. group.members) groups) ≡ sum_by (λ group. length group.members) groups
members_together [] = refl
members_together (group ∷ groups) =
    length-append group.members (flat_map (λ group. group.members) groups)
    ∙ omega (arith, members_together groups, sum_by-cons (λ (group : Group). length group.members) group groups)

in_together : (groups : List Group) (group : Group) (n : ℕ) → Contains groups group → Contains group.members n →
    Contains (flat_map (λ group. group.members) groups) n
in_together [] group n there member = absurd (omega (arith, there.1))
in_together (first ∷ groups) group n there member =
    elim (Contains-cons_cases first groups group there) [
      | inl same ↦
          Contains-append_left first.members (flat_map (λ group. group.members) groups) n (subst (λ (g : Group). Contains g.members n) (sym same) member)
      | inr later ↦
          Contains-append_right first.members (flat_map (λ group. group.members) groups) n (in_together groups group n later member)
    ]

-- nodes without repeats, all of them members of some groups, are at most as many as these members
pub few_members : (nodes : List ℕ) (groups : List Group) → IsDistinct nat_eq nodes →
    ((n : ℕ) → Contains nodes n → (group : Group) × Contains groups group × Contains group.members n) →
    length nodes ≤ sum_by (λ group. length group.members) groups
few_members nodes groups distinct all =
    let most = length-le_from_contained nodes (flat_map (λ group. group.members) groups) distinct
    (λ n there. let at = all n there in in_together groups at.0 n at.1 at.2) in
    omega (arith, most, members_together groups)

-- a group in a list is counted in its sum
in_sum : (f : Group → ℕ) (groups : List Group) (group : Group) → Contains groups group → f group ≤ sum_by f groups
in_sum f groups group there =
    let most = get_or-le-sum_by f groups there.0 group there.1 in
    subst (λ (g : Group). f g ≤ sum_by f groups) there.2 most

-- without one of its groups a list has the others
taken : (f : Group → ℕ) (groups : List Group) (group : Group) → Contains groups group →
    (rest : List Group) × (sum_by f groups ≡ f group + sum_by f rest) × ((other : Group) → Contains groups other → (other ≡ group) ⊎ Contains rest other)
taken f [] group there = absurd (omega (arith, there.1))
taken f (first ∷ groups) group there =
    elim (Contains-cons_cases first groups group there) [
      | inl same ↦ (
        groups,
        sum_by-cons f first groups ∙ ap (λ (g : Group). f g + sum_by f groups) same,
        (λ other in_all. elim (Contains-cons_cases first groups other in_all) [ inl here ↦ inl (sym here ∙ same) | inr later ↦ inr later ]),
      )
      | inr later ↦
          let rest = taken f groups group later in (
            first ∷ rest.0,
            omega (arith, sum_by-cons f first groups, rest.1, sum_by-cons f first rest.0),
            (λ other in_all. elim (Contains-cons_cases first groups other in_all) [
              | inl here ↦ inr (Contains-cons_first first rest.0 other here)
              | inr behind ↦ elim (rest.2 other behind) [ inl same ↦ inl same | inr left ↦ inr (Contains-cons_later first rest.0 other left) ]
            ]),
          )
    ]

-- groups with different ids that are all in a list have at most its sum
sum_within : (f : Group → ℕ) (some groups : List Group) → IsDistinct nat_eq (map id_of some) →
    ((group : Group) → Contains some group → Contains groups group) → sum_by f some ≤ sum_by f groups
sum_within f [] groups distinct all = omega arith
sum_within f (first ∷ some) groups distinct all =
    let rest = taken f groups first (all first (Contains-cons_first first some first refl)) in
    let others = sum_within f some rest.0 (IsDistinct-tail nat_eq (id_of first) (map id_of some) distinct)
    (λ group there.
    elim (rest.2 group (all group (Contains-cons_later first some group there))) [
      | inl same ↦
          let again : Contains (map id_of some) (id_of first) = subst (Contains (map id_of some)) (ap id_of same) (contains-map id_of some there.0 group there.1 there.2) in
          absurd (not_again (id_of first) (map id_of some) distinct again)
      | inr left ↦ left
    ]) in
    omega (arith, others, rest.1, sum_by-cons f first some)

-- what is ticked for groups is at most eight times their size
cost_most : (groups : List Group) →
    search_cost groups + 3 * sum_by (λ group. length group.members) groups ≤ 8 * sum_by size_of groups
cost_most [] = omega arith
cost_most (group ∷ groups) =
    omega (
      arith,
      cost_most groups,
      sum_by-cons (λ (group : Group). 3 * length group.members + 2 * length group.switches) group groups,
      sum_by-cons (λ (group : Group). length group.members) group groups,
      sum_by-cons size_of group groups,
    )

members_most : (groups : List Group) → sum_by (λ group. length group.members) groups ≤ sum_by size_of groups
members_most [] = omega arith
members_most (group ∷ groups) =
    omega (arith, members_most groups, sum_by-cons (λ (group : Group). length group.members) group groups, sum_by-cons size_of group groups)

-- each group of a graph is in its list of groups
in_groups : (h : GraphData) (groups : List Group) → AreGroups h groups → (group : Group) → IsGroup h group → Contains groups group
in_groups h groups are group is =
    let own = id_member h group is in
    let at = are.whole (id_of group) (member_storage h group is (id_of group) own) in
    let there : Contains groups at.1 = (at.0, at.2, at.3) in
    subst (Contains groups) (same_by_member h at.1 group (All-contains (IsGroup h) groups at.1 are.each there) is (id_of group) at.4 own) there

module _ (h : GraphData) (change : Change) (classes : List (Option ℕ)) (slots : List (Option Group)) (are : IsHeld classes slots) where
  -- an old group with a changed node among its members is touched
  touched_there : (id n : ℕ) (group : Group) → slot_at slots id ≡ Some group → Contains group.members n → Contains (nodes_before change) n →
      Contains (filter (is_touched change) (held slots)) group
  touched_there id n group at member changed =
      Contains-filter (is_touched change) (held slots) group (held-from_slot slots id group at)
      (any_there (is_among (nodes_before change)) group.members n member (among (nodes_before change) n changed))

  -- the members of all touched old groups
  abbrev most : ℕ
  most = sum_by (λ group. length group.members) (filter (is_touched change) (held slots))

  one_look : (n : ℕ) → Contains (nodes_before change) n → members_in (group_at_node classes slots n) ≤ most
  one_look n changed = by (group_at_node classes slots n) refl
    where
      by : (found : Option Group) → group_at_node classes slots n ≡ found → members_in found ≤ most
      by None is = omega arith
      by (Some group) is =
          let at = group-at_node classes slots n group are is in
          in_sum (λ group. length group.members) (filter (is_touched change) (held slots)) group (touched_there at.0 n group at.1 at.2 changed)

  -- at most three nodes are looked up
  looks : (xs : List ℕ) → ((n : ℕ) → Contains xs n → Contains (nodes_before change) n) →
      sum_by (λ n. members_in (group_at_node classes slots n)) xs ≤ length xs * most
  looks [] all = omega arith
  looks (x ∷ xs) all =
      let first = one_look x (all x (Contains-cons_first x xs x refl)) in
      let rest = looks xs (λ n there. all n (Contains-cons_later x xs n there)) in
      let count : length (x ∷ xs) * most ≡ most + length xs * most = omega (arith, suc-mul (length xs) most) in
      omega (arith, first, rest, count, sum_by-cons (λ (n : ℕ). members_in (group_at_node classes slots n)) x xs)

  three : length (nodes_before change) ≤ 3
  three = omega (arith, length-append (ends_before change.place) (levelled change.level), two change.place, one change.level)
    where
      ends_two : (there : Option Switch) → length (ends_of there) ≤ 2
      ends_two None = omega arith
      ends_two (Some switch) = omega arith

      two : (place : Option (ℕ × Option Switch)) → length (ends_before place) ≤ 2
      two None = omega arith
      two (Some old) = ends_two old.1

      one : (level : Option (ℕ × ℕ)) → length (levelled level) ≤ 1
      one None = omega arith
      one (Some old) = omega arith

  module _ (gone : List ℕ) (touched : AreTouched classes slots (nodes_before change) gone) where
    few_gone : IsDistinct nat_eq gone → length gone ≤ most
    few_gone once =
        few_members gone (filter (is_touched change) (held slots)) once
        (λ n there. let why = touched.only n there in (why.2, touched_there why.0 why.1 why.2 why.3 why.4 why.5, why.6))

    -- a group with a changed node, or with a member of a touched old group, is touched
    now_touched : (group : Group) (n : ℕ) → Contains group.members n → Contains gone n ⊎ Contains (nodes_after h change) n →
        is_touched_now h change (held slots) group ≡ true
    now_touched group n member root =
        any_there (λ node. is_among (nodes_after h change) node || in_some (filter (is_touched change) (held slots)) node) group.members n member
        (elim root [
          | inr changed ↦ or_left (is_among (nodes_after h change) n) (in_some (filter (is_touched change) (held slots)) n) (among (nodes_after h change) n changed)
          | inl is_gone ↦
              let why = touched.only n is_gone in
              or_right (is_among (nodes_after h change) n) (in_some (filter (is_touched change) (held slots)) n)
              (any_there (λ group. is_among group.members n) (filter (is_touched change) (held slots)) why.2
              (touched_there why.0 why.1 why.2 why.3 why.4 why.5) (among why.2.members n why.6))
        ])

    -- where the search ended early, the groups that it looked at and their roots are paid for by the touched groups
    pub IsCheap-paid : (after : List ℕ) → IsDistinct nat_eq gone → IsDistinct nat_eq after →
        ((n : ℕ) → Contains after n → Contains (nodes_after h change) n) → (start middle end : ℕ) →
        middle ≤ start + before_cost change classes slots → ArePaid h (gone ++ after) [] middle end → IsCheap h change (held slots) start end
    IsCheap-paid after once once_after later start middle end prepared paid = record {
      cheap = λ found are.
          let looked = paid.paid found are in
          let now : List Group = filter (is_touched_now h change (held slots)) found in
          let old_roots = few_roots h gone once in
          let old_few = few_gone once in
          let new_roots : length (filter (is_storage h) after) ≤ sum_by (λ (group : Group). length group.members) now =
          few_members (filter (is_storage h) after) now (IsDistinct-filter (is_storage h) after once_after)
          (λ n there.
          let in_after = Contains-from_filter (is_storage h) after n there in
          let at = are.whole n (IsStorage-from_test h n (passes-from_filter (is_storage h) after n there)) in
          let there_now = Contains-filter (is_touched_now h change (held slots)) found at.1 (at.0, at.2, at.3)
          (now_touched at.1 n at.4 (inr (later n in_after))) in
          (at.1, there_now, at.4)) in
          let within = sum_within (λ (group : Group). 3 * length group.members + 2 * length group.switches) looked.0 now looked.1.apart
          (λ group there.
          Contains-filter (is_touched_now h change (held slots)) found group (in_groups h found are group (looked.1.each group there))
          (elim (looked.1.from.from group there) [
            | inl none ↦ absurd (omega (arith, none.1))
            | inr (n, root, member) ↦
                now_touched group n member
                (elim (Contains-append_cases gone after n root) [ inl is_gone ↦ inl is_gone | inr late ↦ inr (later n late) ])
          ])) in
          let roots : length (filter (is_storage h) (gone ++ after)) ≡ length (filter (is_storage h) gone) + length (filter (is_storage h) after) =
          ap length (filter-append (is_storage h) gone after) ∙ length-append (filter (is_storage h) gone) (filter (is_storage h) after) in
          let bound = looks (nodes_before change) (λ n there. there) in
          let thrice : length (nodes_before change) * most ≤ 3 * most = mul-le (length (nodes_before change)) most 3 most three (omega arith) in
          let old_most = members_most (filter (is_touched change) (held slots)) in
          let new_most = cost_most now in
          let ticked = looked.1.steps in
          omega (arith, old_roots, old_few, new_roots, within, roots, bound, thrice, old_most, new_most, prepared, ticked);
    }

  -- and so it is where it ended before the first root
  pub IsCheap-before : (start end : ℕ) → end ≤ start + before_cost change classes slots → IsCheap h change (held slots) start end
  IsCheap-before start end prepared = record {
    cheap = λ found are.
        let bound = looks (nodes_before change) (λ n there. there) in
        let thrice : length (nodes_before change) * most ≤ 3 * most = mul-le (length (nodes_before change)) most 3 most three (omega arith) in
        let old_most = members_most (filter (is_touched change) (held slots)) in
        omega (arith, bound, thrice, old_most, prepared);
  }

  module _ (gone seen : List ℕ) (fresh : List Group) (plan : IsPlan h change classes slots gone seen fresh) where
    few_seen : length seen ≤ sum_by (λ group. length group.members) fresh
    few_seen = few_members seen fresh plan.found.once (λ n there. plan.found.only n there)

    -- so a regrouping takes at most eight steps for each member and each switch of the touched groups
    pub few_ticks : (old new : List Group) → held slots ≡ old → AreGroups h new →
        (start middle end : ℕ) → middle ≤ start + before_cost change classes slots + length gone + length seen + search_cost fresh →
        end ≡ middle + length gone + length seen + sum_by (λ group. length group.members) fresh →
        end ≤ start + 8 * touched_size h change old new
    few_ticks old new is are_new start middle end prepared written =
        let bound = looks (nodes_before change) (λ n there. there) in
        let thrice : length (nodes_before change) * most ≤ 3 * most = mul-le (length (nodes_before change)) most 3 most three (omega arith) in
        let within = sum_within size_of fresh (filter (is_touched_now h change (held slots)) new) plan.found.apart
        (λ group there.
        let from = plan.from group there in
        Contains-filter (is_touched_now h change (held slots)) new group (in_groups h new are_new group (plan.found.each group there))
        (now_touched gone plan.touched group from.0 from.1 from.2)) in
        let old_most = members_most (filter (is_touched change) (held slots)) in
        let new_most = cost_most fresh in
        let gone_few = few_gone gone plan.touched plan.gone_once in
        subst (λ (groups : List Group). end ≤ start + 8 * touched_size h change groups new) is
        (omega (arith, bound, thrice, within, old_most, new_most, gone_few, few_seen, prepared, written))
