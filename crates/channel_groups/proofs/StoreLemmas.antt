-- Groups in store: with more room they are the same, as written after an edit they are those of the graph, and so are those
-- that are found from every node.
use Rattle.std.proofs.Common.{◌≡◌, ◌≢◌, ℕ, suc, ◌+◌, ◌<◌, ◌≤◌, inl, inr, List, [], ◌∷◌, ◌++◌, length, map, get_or, take, Option, Some, None, Contains, refl, sym, ap, subst, ◌∙◌, arith}
use Rattle.std.specs.Prelude.{option_map, slice_set}
use Rattle.std.specs.Option.{option_and_then}
use Rattle.std.specs.List.{range_with_len}
use Rattle.std.proofs.lemmas.Bool.{cases_lt, cases_eq}
use Rattle.std.proofs.lemmas.List.{take_more, get_or_past, get_or_append_left, get_or_push, get_or_default, length_push, get_or-set_same, get_or-set_other, set_past}
use Rattle.std.proofs.lemmas.List.Elements.{Contains-append_left, Contains-push, Contains-push_cases}
use Rattle.std.proofs.lemmas.List.FromFn.{get_or-map-range_with_len, length-map-range_with_len}
use Rattle.list_facts.proofs.ContainsLemmas.{Contains-range, Contains-cons_first}
use Rattle.smallvec.specs.SmallVec.{SmallVec}
use Rattle.switch_paths.specs.declared.switching.Switch.{Switch}
use Rattle.switch_paths.specs.Graphs.{GraphData, IsWired, nodes, IsStorage, place_at}
use Rattle.switch_paths.proofs.PathLemmas.{switch_fits}
use Rattle.group_meaning.specs.Groups.{Group, AreGroups}
use Rattle.group_meaning.proofs.GroupLemmas.{end_in_range, member_storage}
use Rattle.group_meaning.proofs.LinkLemmas.{Joins-sym}
use Rattle.channel_groups.specs.declared.change.Change.{Change}
use Rattle.channel_groups.specs.Listing.{places_of, HasEndAt, AreListed, Moves}
use Rattle.channel_groups.specs.Changes.{undo, with_place, changed_place, nodes_before, nodes_after, DifferAt}
use Rattle.channel_groups.specs.Grouping.{class_at, slot_at, held, IsHeld, group_at_node, list_at, first_lists, GroupsData, AreOf}
use Rattle.channel_groups.specs.Search.{AreFound, Notes}
use Rattle.channel_groups.specs.Writing.{Clears, AreTouched, AddsGroup, AreInside, Puts, SameHeld, IsPlan}
use Rattle.channel_groups.proofs.ChangeLemmas.{DifferAt-undo}
use Rattle.channel_groups.proofs.HeldLemmas.{there_inside}
use Rattle.channel_groups.proofs.ListingLemmas.{AreListed-same, AreListed-changed, AreListed-moved}
use Rattle.channel_groups.proofs.RegroupedLemmas.{regrouped}

-- nothing more at the end is the same to look at
pub same_more : (X : Type 0) (xs : List (Option X)) (n : ℕ) → get_or (xs ++ None ∷ []) n None ≡ get_or xs n None
same_more X xs n =
    elim (cases_lt n (length xs)) [
      | inl inside ↦ get_or_append_left xs (None ∷ []) None n inside
      | inr past ↦
          elim (cases_eq (length xs) n) [
            | inl same ↦ get_or_push xs None None n same ∙ sym (get_or_past xs n None past)
            | inr other ↦ get_or_past (xs ++ None ∷ []) n None (omega (arith, length_push xs None)) ∙ sym (get_or_past xs n None past)
          ]
    ]

-- the groups are held as they were
pub SameHeld-none : (classes : List (Option ℕ)) (slots : List (Option Group)) → length classes ≤ length slots → SameHeld classes classes slots slots
SameHeld-none classes slots counted = record { class = λ n. refl; slot = λ n. refl; counted = counted; longer = omega arith }

-- and so they are with one empty slot more and one node without a class
pub SameHeld-both : (classes more : List (Option ℕ)) (slots filled : List (Option Group)) → SameHeld classes more slots filled →
    SameHeld classes (more ++ None ∷ []) slots (filled ++ None ∷ [])
SameHeld-both classes more slots filled so_far = record {
  class = λ n. same_more ℕ more n ∙ so_far.class n;
  slot = λ n. same_more Group filled n ∙ so_far.slot n;
  counted = omega (arith, so_far.counted, length_push filled None, length_push more None);
  longer = omega (arith, so_far.longer, length_push more None);
}

-- what is held goes by what stands in the slots
held-nothing : (slots : List (Option Group)) → ((n : ℕ) → slot_at slots n ≡ None) → held slots ≡ []
held-nothing [] none = refl
held-nothing (None ∷ slots) none = held-nothing slots (λ n. none (suc n))
held-nothing (Some group ∷ slots) none = let here = none 0 in absurd (cc)

pub held-same : (xs ys : List (Option Group)) → ((n : ℕ) → slot_at ys n ≡ slot_at xs n) → held ys ≡ held xs
held-same [] ys same = held-nothing ys (λ n. same n)
held-same (x ∷ xs) [] same = sym (held-nothing (x ∷ xs) (λ n. sym (same n)))
held-same (None ∷ xs) (None ∷ ys) same = held-same xs ys (λ n. same (suc n))
held-same (None ∷ xs) (Some y ∷ ys) same = let here = same 0 in absurd (cc)
held-same (Some x ∷ xs) (None ∷ ys) same = let here = same 0 in absurd (cc)
held-same (Some x ∷ xs) (Some y ∷ ys) same =
    let here : y ≡ x = cc (same 0) in
    λ i. here i ∷ held-same xs ys (λ n. same (suc n)) i

-- with more room the groups are held as they were
pub IsHeld-same : (classes more : List (Option ℕ)) (slots filled : List (Option Group)) → SameHeld classes more slots filled →
    IsHeld classes slots → IsHeld more filled
IsHeld-same classes more slots filled same are = record {
  own = λ id group at. are.own id group (sym (same.slot id) ∙ at);
  class = λ id node group at member. same.class node ∙ are.class id node group (sym (same.slot id) ∙ at) member;
  member = λ node id is.
      let there = are.member node id (sym (same.class node) ∙ is) in
      (there.0, same.slot id ∙ there.1, there.2);
}

-- functions that agree are one
pub same_function : (f h : ℕ → List ℕ) → ((n : ℕ) → f n ≡ h n) → f ≡ h
same_function f h same = λ i n. same n i

-- before an edit the lists are those of the graph now, but for the changed place
others_same : (h : GraphData) (old : ℕ × Option Switch) (q : ℕ) → q ≢ old.0 → place_at (slice_set h.places old.0 old.1) q ≡ place_at h.places q
others_same h old q other = get_or-set_other h.places old.0 q old.1 None other

pub AreListed-undone : (end : Switch → ℕ) (h : GraphData) (change : Change) (lists : ℕ → List ℕ) → AreListed end (undo h change) None lists →
    AreListed end h (changed_place change) lists
AreListed-undone end h change lists listed = by change.place refl
  where
    by : (held : Option (ℕ × Option Switch)) → change.place ≡ held → AreListed end h (option_map (λ old. old.0) held) lists
    by None is = AreListed-same end (undo h change) h lists (ap (λ (o : Option (ℕ × Option Switch)). with_place o h.places) is) listed
    by (Some old) is =
        AreListed-changed end (undo h change) h old.0
        (λ q other. ap (λ (o : Option (ℕ × Option Switch)). place_at (with_place o h.places) q) is ∙ others_same h old q other) lists listed

-- with no place changed they are right
pub AreListed-unchanged : (end : Switch → ℕ) (h : GraphData) (change : Change) (lists : ℕ → List ℕ) → change.place ≡ None →
    AreListed end (undo h change) None lists → AreListed end h None lists
AreListed-unchanged end h change lists is listed =
    AreListed-same end (undo h change) h lists (ap (λ (o : Option (ℕ × Option Switch)). with_place o h.places) is) listed

-- with the changed place moved they are right
AreListed-relisted : (end : Switch → ℕ) (h : GraphData) (change : Change) (old : ℕ × Option Switch) (lists new : ℕ → List ℕ) → change.place ≡ Some old →
    AreListed end (undo h change) None lists → Moves old.0 (option_map end old.1) (option_map end (place_at h.places old.0)) lists new →
    AreListed end h None new
AreListed-relisted end h change old lists new is listed moves =
    let undone : (q : ℕ) → place_at (undo h change).places q ≡ place_at (slice_set h.places old.0 old.1) q =
    λ q. ap (λ (o : Option (ℕ × Option Switch)). place_at (with_place o h.places) q) is in
    AreListed-moved end (undo h change) h old.0 (λ q other. undone q ∙ others_same h old q other)
    (option_map end old.1) (option_map end (place_at h.places old.0)) lists new
    (λ n at.
    elim (cases_lt old.0 (length h.places)) [
      | inl inside ↦
          let there : old.1 ≡ Some at.switch = sym (get_or-set_same h.places old.0 old.1 None inside) ∙ sym (undone old.0) ∙ at.at_place in
          ap (option_map end) there ∙ ap Some at.at_node
      | inr past ↦
          let nothing : place_at (slice_set h.places old.0 old.1) old.0 ≡ None =
          ap (λ (places : List (Option Switch)). place_at places old.0) (set_past h.places old.0 old.1 past) ∙ get_or_past h.places old.0 None past in
          absurd (cc (nothing, undone old.0, at.at_place))
    ])
    (λ n at. ap (option_map end) at.at_place ∙ ap Some at.at_node)
    (λ n to. end_now end h old.0 (place_at h.places old.0) refl n to)
    listed moves
  where
    end_now : (end : Switch → ℕ) (h : GraphData) (place : ℕ) (there : Option Switch) → place_at h.places place ≡ there → (n : ℕ) →
        option_map end there ≡ Some n → HasEndAt end h place n
    end_now end h place None stands n to = absurd (cc)
    end_now end h place (Some switch) stands n to = record { switch = switch; at_place = stands; at_node = cc (to) }

-- by whatever equals the old end and the new one
pub AreListed-moved_to : (end : Switch → ℕ) (h : GraphData) (change : Change) (old : ℕ × Option Switch) (lists new : ℕ → List ℕ) (from to : Option ℕ) →
    change.place ≡ Some old → AreListed end (undo h change) None lists → from ≡ option_map end old.1 →
    to ≡ option_map end (place_at h.places old.0) → Moves old.0 from to lists new → AreListed end h None new
AreListed-moved_to end h change old lists new from to is listed from_is to_is moves =
    AreListed-relisted end h change old lists new is listed
    (subst (λ (o : Option ℕ). Moves old.0 o (option_map end (place_at h.places old.0)) lists new) from_is
    (subst (λ (o : Option ℕ). Moves old.0 from o lists new) to_is moves))

-- the members of the touched groups are nodes that are held
pub gone_inside : (classes : List (Option ℕ)) (slots : List (Option Group)) (before gone : List ℕ) → IsHeld classes slots →
    AreTouched classes slots before gone → (n : ℕ) → Contains gone n → n < length classes
gone_inside classes slots before gone are touched n there =
    let why = touched.only n there in
    there_inside classes n why.0 (are.class why.0 n why.2 why.3 why.6)

-- what was seen are storage nodes
pub seen_storage : (g : GraphData) (seen : List ℕ) (fresh : List Group) → AreFound g seen fresh → (n : ℕ) → Contains seen n → IsStorage g n
seen_storage g seen fresh found n there =
    let in_group = found.only n there in
    member_storage g in_group.0 (found.each in_group.0 in_group.1) n in_group.2

-- the found groups have members, all of them nodes
pub fresh_inside : (g : GraphData) (seen : List ℕ) (fresh : List Group) (count : ℕ) → AreFound g seen fresh → nodes g ≤ count →
    (group : Group) → Contains fresh group → AreInside count group
fresh_inside g seen fresh count found room group there =
    let is = found.each group there in
    record {
      some = is.some;
      below = λ k d inside.
          let storage = member_storage g group is (get_or group.members k d) (k, inside, get_or_default group.members k (get_or group.members k d) d inside) in
          omega (arith, storage.inside);
    }

-- what was planned and written are the groups of the graph now
module _ (h : GraphData) (change : Change) (classes : List (Option ℕ)) (slots : List (Option Group)) (are_held : IsHeld classes slots)
    (are : AreGroups (undo h change) (held slots)) (gone seen : List ℕ) (fresh : List Group) (plan : IsPlan h change classes slots gone seen fresh)
    (classes_1 classes_2 classes_3 : List (Option ℕ)) (slots_1 slots_2 slots_3 : List (Option Group))
    (class_gone : Clears ℕ gone (class_at classes) (class_at classes_1)) (slot_gone : Clears Group gone (slot_at slots) (slot_at slots_1))
    (class_seen : Clears ℕ seen (class_at classes_1) (class_at classes_2)) (slot_seen : Clears Group seen (slot_at slots_1) (slot_at slots_2))
    (puts : Puts fresh classes_2 classes_3 slots_2 slots_3) where
  pub written : IsHeld classes_3 slots_3 × AreGroups h (held slots_3)
  written =
      regrouped (undo h change) h (nodes_before change) (nodes_after h change) (DifferAt-undo h change) classes slots are_held are
      gone plan.touched seen fresh plan.found.each plan.found.all plan.found.only plan.gone_rooted plan.new_rooted
      classes_1 classes_2 classes_3 slots_1 slots_2 slots_3 class_gone slot_gone class_seen slot_seen puts

-- all groups of a graph are put in if there were none: as after an edit of a graph without nodes
module _ (h : GraphData) (wired : IsWired h) (classes more : List (Option ℕ)) (slots filled : List (Option Group))
    (no_class : (n : ℕ) → class_at classes n ≡ None) (no_slot : (n : ℕ) → slot_at slots n ≡ None)
    (seen : List ℕ) (fresh : List Group) (found : AreFound h seen fresh) (rooted : (n : ℕ) → n < nodes h → IsStorage h n → Contains seen n)
    (puts : Puts fresh classes more slots filled) where
  abbrev nothing : GraphData
  nothing = record { levels = []; places = [] }

  every : List ℕ
  every = range_with_len 0 (nodes h)

  differ : DifferAt nothing h [] (range_with_len 0 (nodes h))
  differ = record {
    joined = λ place m n at. let none = get_or_past {X = Option Switch} [] place None (omega arith) in absurd (cc (none, at.at_place));
    joined_back = λ place m n at. inr (
      Contains-range (nodes h) m (end_in_range h wired place m n at.switch at.at_place at.joins),
      Contains-range (nodes h) n (end_in_range h wired place n m at.switch at.at_place (Joins-sym at.switch m n at.joins)),
    );
    level = λ node inside. absurd (omega arith);
    level_back = λ node inside. inr (Contains-range (nodes h) node inside);
  }

  none_held : IsHeld classes slots
  none_held = record {
    own = λ id group at. let none = no_slot id in absurd (cc (none, at));
    class = λ id node group at member. let none = no_slot id in absurd (cc (none, at));
    member = λ node id is. let none = no_class node in absurd (cc (none, is));
  }

  no_groups : AreGroups nothing (held slots)
  no_groups =
      rw (held-nothing slots no_slot)
      (record {
        each = λ k d inside. absurd (omega arith);
        whole = λ node storage. let inside = storage.inside in absurd (omega arith);
        ascending = λ k inside. absurd (omega arith);
      })

  none_touched : AreTouched classes slots [] []
  none_touched = record {
    all = λ id m n group at in_m changed in_n. absurd (omega (arith, changed.1));
    only = λ n there. absurd (omega (arith, there.1));
  }

  none_cleared : (X : Type 0) (at : ℕ → Option X) → Clears X [] at at
  none_cleared X at = record { gone = λ n there. absurd (omega (arith, there.1)); stays = λ n none. refl }

  all_cleared : (X : Type 0) (at : ℕ → Option X) → ((n : ℕ) → at n ≡ None) → Clears X seen at at
  all_cleared X at none = record { gone = λ n there. none n; stays = λ n elsewhere. refl }

  pub all_found : IsHeld more filled × AreGroups h (held filled)
  all_found =
      regrouped nothing h [] (range_with_len 0 (nodes h)) differ classes slots none_held no_groups [] none_touched seen fresh
      found.each found.all found.only (λ n there storage. absurd (omega (arith, there.1)))
      (λ n there storage. rooted n storage.inside storage)
      classes classes more slots slots filled (none_cleared ℕ (class_at classes)) (none_cleared Group (slot_at slots))
      (all_cleared ℕ (class_at classes) no_class) (all_cleared Group (slot_at slots) no_slot) puts

-- the group of a node is the one that has it as a member
pub group-at_node : (classes : List (Option ℕ)) (slots : List (Option Group)) (node : ℕ) (group : Group) → IsHeld classes slots →
    group_at_node classes slots node ≡ Some group → (id : ℕ) × (slot_at slots id ≡ Some group) × Contains group.members node
group-at_node classes slots node group are is = by (class_at classes node) refl is
  where
    by : (class : Option ℕ) → class_at classes node ≡ class → option_and_then (slot_at slots) class ≡ Some group →
        (id : ℕ) × (slot_at slots id ≡ Some group) × Contains group.members node
    by None at is = absurd (cc)
    by (Some id) at is =
        let there = are.member node id at in
        let same : there.0 ≡ group = cc (there.1, is) in
        (id, is, subst (λ (one : Group). Contains one.members node) same there.2)

pub node-at_group : (classes : List (Option ℕ)) (slots : List (Option Group)) (id node : ℕ) (group : Group) → IsHeld classes slots →
    slot_at slots id ≡ Some group → Contains group.members node → group_at_node classes slots node ≡ Some group
node-at_group classes slots id node group are at member =
    let class = are.class id node group at member in
    rw class at

-- the members of one node's group more
pub AreTouched-none : (classes : List (Option ℕ)) (slots : List (Option Group)) (before : List ℕ) → AreTouched classes slots (take 0 before) []
AreTouched-none classes slots before = record {
  all = λ id m n group at in_m changed in_n. absurd (omega (arith, changed.1));
  only = λ n there. absurd (omega (arith, there.1));
}

pub AreTouched-more : (classes : List (Option ℕ)) (slots : List (Option Group)) (before : List ℕ) (i : ℕ) (gone more : List ℕ) → IsHeld classes slots →
    i < length before → AddsGroup (group_at_node classes slots (get_or before i 0)) gone more → AreTouched classes slots (take i before) gone →
    AreTouched classes slots (take (i + 1) before) more
AreTouched-more classes slots before i gone more are inside adds so_far =
    let node = get_or before i 0 in
    let longer : take (i + 1) before ≡ take i before ++ node ∷ [] = take_more before i 0 inside in
    record {
      all = λ id m n group at in_m changed in_n.
          elim (Contains-push_cases (take i before) node m (rw longer at changed)) [
            | inl earlier ↦ adds.kept n (so_far.all id m n group at in_m earlier in_n)
            | inr same ↦
                adds.added group n (node-at_group classes slots id node group are at (subst (Contains group.members) (sym same) in_m)) in_n
          ];
      only = λ n there.
          elim (adds.only n there) [
            | inl earlier ↦
                let why = so_far.only n earlier in
                (why.0, why.1, why.2, why.3, why.4, rw longer (Contains-append_left (take i before) (node ∷ []) why.1 why.5), why.6)
            | inr (group, is, member) ↦
                let at = group-at_node classes slots node group are is in
                (at.0, node, group, at.1, at.2, rw longer (Contains-push (take i before) node), member)
          ];
    }

-- the lists of a graph's nodes are seen as they are
pub list_at-first_lists : (nodes : ℕ) (lists : List (SmallVec ℕ)) → ((n : ℕ) → nodes ≤ n → places_of lists n ≡ []) → (n : ℕ) →
    places_of lists n ≡ list_at (first_lists nodes lists) n
list_at-first_lists nodes lists past n =
    elim (cases_lt n nodes) [
      | inl inside ↦ sym (get_or-map-range_with_len (places_of lists) 0 nodes n n [] inside (omega arith))
      | inr beyond ↦
          past n beyond
          ∙ sym (get_or_past (first_lists nodes lists) n [] (omega (arith, length-map-range_with_len (places_of lists) 0 nodes)))
    ]

-- lists that are seen as one are listed alike
AreListed-seen : (end : Switch → ℕ) (g : GraphData) (nodes : ℕ) (lists : List (SmallVec ℕ)) → ((n : ℕ) → nodes ≤ n → places_of lists n ≡ []) →
    AreListed end g None (list_at (first_lists nodes lists)) → AreListed end g None (places_of lists)
AreListed-seen end g nodes lists past listed =
    subst (AreListed end g None) (sym (same_function (places_of lists) (list_at (first_lists nodes lists)) (list_at-first_lists nodes lists past))) listed

pub AreListed-shown : (end : Switch → ℕ) (g : GraphData) (nodes : ℕ) (lists : List (SmallVec ℕ)) → ((n : ℕ) → nodes ≤ n → places_of lists n ≡ []) →
    AreListed end g None (places_of lists) → AreListed end g None (list_at (first_lists nodes lists))
AreListed-shown end g nodes lists past listed =
    subst (AreListed end g None) (same_function (places_of lists) (list_at (first_lists nodes lists)) (list_at-first_lists nodes lists past)) listed

-- the lists that are held are those of the graph whose groups are seen
pub AreListed-held : (g : GraphData) (found : GroupsData) (nodes : ℕ) (groups : List Group) (firsts seconds : List (SmallVec ℕ)) →
    ((n : ℕ) → nodes ≤ n → places_of firsts n ≡ []) → ((n : ℕ) → nodes ≤ n → places_of seconds n ≡ []) →
    record { nodes = nodes; groups = groups; firsts = first_lists nodes firsts; seconds = first_lists nodes seconds } ≡ found → AreOf g found →
    AreListed (λ switch. switch.a) g None (places_of firsts) × AreListed (λ switch. switch.b) g None (places_of seconds)
AreListed-held g found nodes groups firsts seconds firsts_past seconds_past seen are =
    let of = subst (AreOf g) (sym seen) are in (
      AreListed-seen (λ switch. switch.a) g nodes firsts firsts_past of.firsts,
      AreListed-seen (λ switch. switch.b) g nodes seconds seconds_past of.seconds,
    )

-- the same lists are seen where the lists stay
pub first_lists-same : (nodes : ℕ) (lists more : List (SmallVec ℕ)) → ((n : ℕ) → places_of more n ≡ places_of lists n) →
    first_lists nodes more ≡ first_lists nodes lists
first_lists-same nodes lists more same = ap (λ (f : ℕ → List ℕ). map f (range_with_len 0 nodes)) (same_function (places_of more) (places_of lists) same)

-- past the last node nothing is listed
pub nothing_past : (end : Switch → ℕ) (g : GraphData) → ((switch : Switch) (place : ℕ) → place_at g.places place ≡ Some switch → end switch < nodes g) →
    (lists : ℕ → List ℕ) → AreListed end g None lists → (n : ℕ) → nodes g ≤ n → lists n ≡ []
nothing_past end g inside lists listed n past = by (lists n) refl
  where
    by : (xs : List ℕ) → lists n ≡ xs → xs ≡ []
    by [] is = refl
    by (x ∷ xs) is =
        let there : Contains (lists n) x = rw is (Contains-cons_first x xs x refl) in
        elim (listed.only x n there) [
          | inl at ↦ let below = inside at.switch x at.at_place in absurd (omega (arith, below, at.at_node))
          | inr none ↦ absurd (cc (none))
        ]

pub first_inside : (g : GraphData) → IsWired g → (switch : Switch) (place : ℕ) → place_at g.places place ≡ Some switch → switch.a < nodes g
first_inside g wired switch place stands = (switch_fits g wired place switch stands).a

pub second_inside : (g : GraphData) → IsWired g → (switch : Switch) (place : ℕ) → place_at g.places place ≡ Some switch → switch.b < nodes g
second_inside g wired switch place stands = (switch_fits g wired place switch stands).b

-- the members of a group that there is are noted
pub AddsGroup-noted : (found : Option Group) (group : Group) (gone more : List ℕ) → found ≡ Some group → Notes group.members gone more → AddsGroup found gone more
AddsGroup-noted found group gone more is notes = record {
  kept = notes.kept;
  added = λ one n at member.
      let same : one ≡ group = cc (is, at) in
      notes.noted n (subst (λ (one : Group). Contains one.members n) same member);
  only = λ n there. elim (notes.only n there) [ inl before ↦ inl before | inr member ↦ inr (group, is, member) ];
}

-- if a node has no group it has no class
pub no_class-at_node : (classes : List (Option ℕ)) (slots : List (Option Group)) (node : ℕ) → IsHeld classes slots → group_at_node classes slots node ≡ None →
    class_at classes node ≡ None
no_class-at_node classes slots node are none = by (class_at classes node) refl none
  where
    by : (class : Option ℕ) → class_at classes node ≡ class → option_and_then (slot_at slots) class ≡ None → class ≡ None
    by None at none = refl
    by (Some id) at none = let there = are.member node id at in absurd (cc (there.1, none))
