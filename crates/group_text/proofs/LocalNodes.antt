-- The local nodes of a group: no node stands for two of them, the members come first, and each terminal of a
-- group's switch has one.
use Rattle.std.proofs.Common.{◌≡◌, ◌≢◌, ◌==◌, ℕ, suc, ◌<◌, ◌≤◌, Bool, true, not, inl, inr, List, [], ◌∷◌, ◌++◌, length, filter, get_or, Some, refl, sym, ap, ◌∙◌, arith, eqb-true, length-append}
use Rattle.std.specs.Prelude.{slice_index, Contains, All}
use Rattle.std.specs.List.{AllPairs, flat_map, position_or_len}
use Rattle.std.proofs.lemmas.Bool.{cases_lt, cases_order, cases_eq, ne_eqb, lt-ltb, not_from_false, not-true, eqb-false}
use Rattle.std.proofs.lemmas.List.{get_or_append_left, get_or_default}
use Rattle.std.proofs.lemmas.List.Elements.{All-weaker, All-head, All-tail, Contains-get_or, Contains-append_left, Contains-append_right, filter-append, filter_passes}
use Rattle.std.proofs.lemmas.List.Kept.{AllPairs-cons, AllPairs-filter, AllPairs-from_increasing}
use Rattle.std.proofs.lemmas.List.Sums.{fails_before_first, passes_at_first}
use Rattle.list_facts.proofs.ContainsLemmas.{Contains-cons_cases, Contains-cons_first, Contains-cons_later, Contains-filter, Contains-from_filter}
use Rattle.switch_paths.specs.declared.switching.Switch.{Switch}
use Rattle.switch_paths.specs.Graphs.{GraphData, place_at}
use Rattle.switch_paths.specs.Path.{Joins}
use Rattle.group_meaning.specs.Groups.{Group, IsGroup}
use Rattle.group_text.specs.Texts.{firsts, terminals_of, local_nodes, local_of}

-- no number stands twice in the list
abbrev pub AreApart : List ℕ → Type 0
AreApart xs = AllPairs (λ x y. x ≢ y) xs

-- the test of `firsts` for what isn't the first one again
abbrev differs : ℕ → ℕ → Bool
differs x y = not (y == x)

-- what the test passes is another number
differs-apart : (x y : ℕ) → differs x y ≡ true → x ≢ y
differs-apart x y passes same = absurd (eqb-false y x (not-true (y == x) passes) (sym same))

-- and another number passes
differs-from_apart : (x y : ℕ) → x ≢ y → differs x y ≡ true
differs-from_apart x y apart = not_from_false (y == x) (ne_eqb y x (λ same. apart (sym same)))

-- what all elements pass keeps the whole list
filter_all : (p : ℕ → Bool) (xs : List ℕ) → All (λ x. p x ≡ true) xs → filter p xs ≡ xs
filter_all p [] all = refl
filter_all p (x ∷ xs) all =
    rw (All-head (λ x. p x ≡ true) x xs all) (ap (λ rest. x ∷ rest) (filter_all p xs (All-tail (λ x. p x ≡ true) x xs all)))

-- a piece of an element's own is a piece of the whole
Contains-flat_map : (f : ℕ → List ℕ) (xs : List ℕ) (x y : ℕ) → Contains xs x → Contains (f x) y → Contains (flat_map f xs) y
Contains-flat_map f [] x y there piece = absurd (omega (arith, there.1))
Contains-flat_map f (z ∷ xs) x y there piece =
    elim (Contains-cons_cases z xs x there) [
      | inl same ↦ Contains-append_left (f z) (flat_map f xs) y (rw same piece)
      | inr later ↦ Contains-append_right (f z) (flat_map f xs) y (Contains-flat_map f xs x y later piece)
    ]

-- what stands in a list stands among its firsts
pub Contains-firsts : (xs : List ℕ) (x : ℕ) → Contains xs x → Contains (firsts xs) x
Contains-firsts [] x there = there
Contains-firsts (y ∷ xs) x there =
    elim (cases_eq y x) [
      | inl same ↦ Contains-cons_first y (filter (differs y) (firsts xs)) x same
      | inr apart ↦
          elim (Contains-cons_cases y xs x there) [
            | inl same ↦ absurd (apart same)
            | inr later ↦
                let kept = Contains-filter (differs y) (firsts xs) x (Contains-firsts xs x later)
                (differs-from_apart y x apart) in
                Contains-cons_later y (filter (differs y) (firsts xs)) x kept
          ]
    ]

-- and nothing else does
pub Contains-from_firsts : (xs : List ℕ) (x : ℕ) → Contains (firsts xs) x → Contains xs x
Contains-from_firsts [] x there = there
Contains-from_firsts (y ∷ xs) x there =
    elim (Contains-cons_cases y (filter (differs y) (firsts xs)) x there) [
      | inl same ↦ Contains-cons_first y xs x same
      | inr later ↦
          Contains-cons_later y xs x (Contains-from_firsts xs x (Contains-from_filter (differs y) (firsts xs) x later))
    ]

-- no number stands twice among the firsts
pub firsts-apart : (xs : List ℕ) → AreApart (firsts xs)
firsts-apart [] = λ i j d before inside. absurd (omega arith)
firsts-apart (x ∷ xs) =
    let others = All-weaker (λ y. differs x y ≡ true) (λ y. x ≢ y) (λ y passes. differs-apart x y passes)
    (filter (differs x) (firsts xs))
    (filter_passes (differs x) (firsts xs)) in
    AllPairs-cons (λ y z. y ≢ z) x (filter (differs x) (firsts xs)) others
    (AllPairs-filter (λ y z. y ≢ z) (differs x) (firsts xs) (firsts-apart xs))

-- the first of numbers that stand once is another one than the later ones
apart-head : (x : ℕ) (xs : List ℕ) → AreApart (x ∷ xs) → All (λ y. x ≢ y) xs
apart-head x xs apart = λ k d inside. apart 0 (suc k) d (omega arith) (omega arith)

-- and those stand once
apart-tail : (x : ℕ) (xs : List ℕ) → AreApart (x ∷ xs) → AreApart xs
apart-tail x xs apart = λ i j d before inside. apart (suc i) (suc j) d (omega arith) (omega arith)

-- a list in which no number stands twice begins its firsts, whatever comes after it
pub firsts_begin : (xs ys : List ℕ) → AreApart xs → (rest : List ℕ) × (firsts (xs ++ ys) ≡ xs ++ rest)
firsts_begin [] ys apart = (firsts ys, refl)
firsts_begin (x ∷ xs) ys apart =
    let later = firsts_begin xs ys (apart-tail x xs apart) in
    let others = All-weaker (λ y. x ≢ y) (λ y. differs x y ≡ true) (λ y other. differs-from_apart x y other) xs
    (apart-head x xs apart) in
    let split : filter (differs x) (xs ++ later.0) ≡ xs ++ filter (differs x) later.0 =
    filter-append (differs x) xs later.0 ∙ ap (λ front. front ++ filter (differs x) later.0)
    (filter_all (differs x) xs others) in
    (filter (differs x) later.0, ap (λ rest. x ∷ filter (differs x) rest) later.1 ∙ ap (λ rest. x ∷ rest) split)

-- where no number stands twice, a number has one place
pub same_place : (xs : List ℕ) → AreApart xs → (i j : ℕ) → i < length xs → j < length xs →
    slice_index xs i ≡ slice_index xs j → i ≡ j
same_place xs apart i j i_inside j_inside same =
    elim (cases_order i j) [
      | inl equal ↦ equal
      | inr other ↦ elim other [
        | inl before ↦ absurd (apart i j 0 before j_inside same)
        | inr after ↦
            absurd (apart j i 0 after i_inside (sym same))
      ]
    ]

-- the test by which the place of a node is looked up
abbrev pub is_node : ℕ → ℕ → Bool
is_node node other = other == node

-- a node of the list is found
found : (locals : List ℕ) (node : ℕ) → Contains locals node → position_or_len (is_node node) locals < length locals
found locals node there =
    elim (cases_lt (position_or_len (is_node node) locals) (length locals)) [
      | inl inside ↦ inside
      | inr past ↦
          let fails = fails_before_first (is_node node) locals there.0 node (omega (arith, there.1)) in
          absurd (eqb-false (get_or locals there.0 node) node fails there.2)
    ]

-- so its local node is the first place where it stands
local_of-found : (locals : List ℕ) (node : ℕ) → Contains locals node →
    local_of locals node ≡ position_or_len (is_node node) locals
local_of-found locals node there = rw (lt-ltb (position_or_len (is_node node) locals) (length locals) (found locals node there))

-- the local node of a node is a local node
pub local_of-inside : (locals : List ℕ) (node : ℕ) → Contains locals node → local_of locals node < length locals
local_of-inside locals node there = rw (local_of-found locals node there) (found locals node there)

-- and stands for that node
pub local_of-stands : (locals : List ℕ) (node : ℕ) → Contains locals node → slice_index locals (local_of locals node) ≡ node
local_of-stands locals node there =
    rw (local_of-found locals node there) (eqb-true (slice_index locals (position_or_len (is_node node) locals)) node
    (passes_at_first (is_node node) locals 0 (found locals node there)))

-- a local node is that of the node that it stands for
pub local_of-at : (locals : List ℕ) → AreApart locals → (local : ℕ) → local < length locals →
    local_of locals (slice_index locals local) ≡ local
local_of-at locals apart local inside =
    let there = Contains-get_or locals local 0 inside in
    let node = slice_index locals local in
    same_place locals apart (local_of locals node) local (local_of-inside locals node there) inside
    (local_of-stands locals node there)

module _ (g : GraphData) (group : Group) where
  -- no node has two local nodes
  pub locals_apart : AreApart (local_nodes g group)
  locals_apart = firsts-apart (group.members ++ flat_map (λ place. terminals_of (place_at g.places place)) group.switches)

  -- each member has a local node
  pub member_local : (node : ℕ) → Contains group.members node → Contains (local_nodes g group) node
  member_local node member =
      let terminals = flat_map (λ place. terminals_of (place_at g.places place)) group.switches in
      Contains-firsts (group.members ++ terminals) node (Contains-append_left group.members terminals node member)

  -- each terminal of a switch of the group has one
  pub terminal_local : (place node : ℕ) (switch : Switch) → Contains group.switches place →
      place_at g.places place ≡ Some switch →
      Contains (terminals_of (Some switch)) node → Contains (local_nodes g group) node
  terminal_local place node switch inside stands terminal =
      let pieces : ℕ → List ℕ = λ place. terminals_of (place_at g.places place) in
      let terminals = flat_map pieces group.switches in
      let piece : Contains (pieces place) node = rw stands terminal in
      let there = Contains-flat_map pieces group.switches place node inside piece in
      Contains-firsts (group.members ++ terminals) node (Contains-append_right group.members terminals node there)

  -- its gate
  pub gate_local : (place : ℕ) (switch : Switch) → Contains group.switches place → place_at g.places place ≡ Some switch →
      Contains (local_nodes g group) switch.gate
  gate_local place switch inside stands = terminal_local place switch.gate switch inside stands (0, omega arith, refl)

  -- its first end
  pub a_local : (place : ℕ) (switch : Switch) → Contains group.switches place → place_at g.places place ≡ Some switch →
      Contains (local_nodes g group) switch.a
  a_local place switch inside stands = terminal_local place switch.a switch inside stands (1, omega arith, refl)

  -- and its second end
  pub b_local : (place : ℕ) (switch : Switch) → Contains group.switches place → place_at g.places place ≡ Some switch →
      Contains (local_nodes g group) switch.b
  b_local place switch inside stands = terminal_local place switch.b switch inside stands (2, omega arith, refl)

  -- each end of a switch of the group has one
  pub end_local : (place m n : ℕ) (switch : Switch) → Contains group.switches place → place_at g.places place ≡ Some switch →
      Joins switch m n → Contains (local_nodes g group) m
  end_local place m n switch inside stands joins =
      elim joins [
        | inl ends ↦ rw (← ends.0) (a_local place switch inside stands)
        | inr ends ↦ rw (← ends.0) (b_local place switch inside stands)
      ]

module _ (g : GraphData) (group : Group) (is_group : IsGroup g group) where
  -- a group's members ascend, so none stands twice
  members_apart : AreApart group.members
  members_apart = λ i j d before inside same.
      let rises = AllPairs-from_increasing group.members is_group.ascending i j d before inside in
      absurd (omega arith)

  -- the members come first
  pub members_begin : (rest : List ℕ) × (local_nodes g group ≡ group.members ++ rest)
  members_begin =
      firsts_begin group.members (flat_map (λ place. terminals_of (place_at g.places place)) group.switches) members_apart

  -- there are as many local nodes as members, or more
  pub members_within : length group.members ≤ length (local_nodes g group)
  members_within = rw members_begin.1 (omega (arith, length-append group.members members_begin.0))

  -- the first local nodes stand for the members, in their order
  pub member_at : (local : ℕ) → local < length group.members →
      slice_index (local_nodes g group) local ≡ slice_index group.members local
  member_at local inside = rw members_begin.1 (get_or_append_left group.members members_begin.0 0 local inside)

  -- so what one of those stands for is a member
  pub first-member : (local : ℕ) → local < length group.members →
      Contains group.members (slice_index (local_nodes g group) local)
  first-member local first = rw (member_at local first) (Contains-get_or group.members local 0 first)

  -- and a local node that stands for a member is one of those
  pub member-first : (local : ℕ) → local < length (local_nodes g group) →
      Contains group.members (slice_index (local_nodes g group) local) →
      local < length group.members
  member-first local inside member =
      let locals = local_nodes g group in
      let node = slice_index locals local in
      let k = member.0 in
      let stands : slice_index locals k ≡ node = member_at k member.1 ∙
      (get_or_default group.members k 0 node member.1 ∙ member.2) in
      let same : k ≡ local = same_place locals (locals_apart g group) k local
      (omega (arith, member.1, members_within)) inside stands in
      omega (arith, member.1, same)
