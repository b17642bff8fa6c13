-- The search: a found group more, and a root more.
use Rattle.std.proofs.Common.{◌≡◌, ℕ, ◌+◌, ◌<◌, inl, inr, true, false, nat_lt, List, [], ◌∷◌, ◌++◌, ◌*◌, ◌≤◌, length, map, filter, get_or, take, nat_eq, Contains, drop, Result, Ok, Err, OnErr, sym, ap, subst, ◌∙◌, arith, refl}
use Rattle.std.specs.List.{IsDistinct, list_any}
use Rattle.std.proofs.lemmas.Bool.{cases_Bool, eqb-true, eq-eqb, and_parts, and_from, ltb-true, lt-ltb}
use Rattle.std.proofs.lemmas.Cmp.{nat_eq_equiv}
use Rattle.std.proofs.lemmas.List.{take_more, map_push, take-append-drop, length-append}
use Rattle.std.proofs.lemmas.List.Elements.{All-contains, Contains-push, Contains-push_cases, Contains-append_left, Contains-append_right, filter-append}
use Rattle.std.proofs.lemmas.List.Sums.{sum_by_push}
use Rattle.std.proofs.lemmas.List.Folds.{list_any_at}
use Rattle.std.proofs.lemmas.Map.Keys.{IsDistinct-push}
use Rattle.list_facts.proofs.ContainsLemmas.{Contains-cons_cases, Contains-cons_first}
use Rattle.indexmap.specs.IndexSet.{insert_key}
use Rattle.indexmap.proofs.CallerLemmas.{Contains-insert_key, Contains-list_any}
use Rattle.strength_order.specs.declared.TheConstants.{INPUT_LEVEL}
use Rattle.switch_paths.specs.Graphs.{GraphData, nodes, level_of, is_storage_level, IsStorage}
use Rattle.group_meaning.specs.Groups.{Group, id_of, IsGroup}
use Rattle.group_meaning.proofs.UniqueGroups.{same_by_id, same_by_member}
use Rattle.group_meaning.proofs.MappedLists.{contains-from_map}
use Rattle.channel_groups.specs.Flood.{IsPaid}
use Rattle.channel_groups.specs.Search.{AreFound, Finds, Notes, is_storage, AreFoundFrom, IsCutShort, ArePaid, search_cost}
use Rattle.channel_groups.proofs.FloodLemmas.{insert_key-grown, insert_key-cases, filter-part}

-- the test for a storage node
pub IsStorage-from_test : (g : GraphData) (node : ℕ) → is_storage g node ≡ true → IsStorage g node
IsStorage-from_test g node passes =
    let parts = and_parts (nat_lt node (nodes g)) (is_storage_level (level_of g node)) passes in
    record { inside = ltb-true node (nodes g) parts.0; below = ltb-true (level_of g node) INPUT_LEVEL parts.1 }

pub test-from_IsStorage : (g : GraphData) (node : ℕ) → IsStorage g node → is_storage g node ≡ true
test-from_IsStorage g node storage =
    and_from (nat_lt node (nodes g)) (is_storage_level (level_of g node)) (lt-ltb node (nodes g) storage.inside) (lt-ltb (level_of g node) INPUT_LEVEL storage.below)

-- nothing is noted yet
pub Notes-none : (nodes seen : List ℕ) → Notes (take 0 nodes) seen seen
Notes-none nodes seen = record { kept = λ n there. there; noted = λ n there. absurd (omega (arith, there.1)); only = λ n there. inl there }

-- one node more is noted
pub Notes-more : (nodes : List ℕ) (i : ℕ) (old seen new : List ℕ) → i < length nodes → new ≡ insert_key nat_eq seen (get_or nodes i 0) →
    Notes (take i nodes) old seen → Notes (take (i + 1) nodes) old new
Notes-more nodes i old seen new inside is so_far =
    let node = get_or nodes i 0 in
    let more : take (i + 1) nodes ≡ take i nodes ++ node ∷ [] = take_more nodes i 0 inside in
    let grown = insert_key-grown seen node in
    let kept : (n : ℕ) → Contains seen n → Contains new n = λ n there. rw (is, grown.1) (Contains-append_left seen grown.0 n there) in
    record {
      kept = λ n there. kept n (so_far.kept n there);
      noted = λ n there.
          elim (Contains-push_cases (take i nodes) node n (rw more at there)) [
            | inl before ↦ kept n (so_far.noted n before)
            | inr same ↦ rw (is, ← same) (Contains-insert_key nat_eq (λ a b e. eqb-true a b e) seen node)
          ];
      only = λ n there.
          elim (insert_key-cases seen node n (rw is at there)) [
            | inl before ↦ elim (so_far.only n before) [
              | inl old ↦ inl old
              | inr noted ↦ inr (rw more (Contains-append_left (take i nodes) (node ∷ []) n noted))
            ]
            | inr same ↦ inr (rw (more, ← same) (Contains-push (take i nodes) node))
          ];
    }

-- at first nothing is found
pub AreFound-none : (g : GraphData) → AreFound g [] []
unfolding IsDistinct
AreFound-none g = record {
  each = λ group there. absurd (omega (arith, there.1));
  all = λ group node there member. absurd (omega (arith, there.1));
  only = λ node there. absurd (omega (arith, there.1));
  apart = tt;
  once = tt;
}

-- the group of a node that wasn't seen is another one
pub apart-more : (g : GraphData) (root : ℕ) (seen : List ℕ) (fresh : List Group) (group : Group) → AreFound g seen fresh →
    IsGroup g group → Contains group.members root → (¬ Contains seen root) → IsDistinct nat_eq (map id_of (fresh ++ group ∷ []))
apart-more g root seen fresh group so_far is in_root unseen =
    rw (map_push id_of fresh group)
    (IsDistinct-push nat_eq_equiv (map id_of fresh) (id_of group) so_far.apart
    (elim (cases_Bool (list_any (nat_eq (id_of group)) (map id_of fresh))) [
      | inl there ↦
          let any = contains-from_map id_of fresh (id_of group) (Contains-list_any nat_eq (λ a b e. eqb-true a b e) (map id_of fresh) (id_of group) there) in
          let in_fresh : Contains fresh any.1 = (any.0, any.2, any.3) in
          let same = same_by_id g any.1 group (so_far.each any.1 in_fresh) is any.4 in
          absurd (unseen (so_far.all any.1 root in_fresh (subst (λ (one : Group). Contains one.members root) (sym same) in_root)))
      | inr none ↦ none
    ]))

-- one group more is found
pub AreFound-more : (g : GraphData) (root : ℕ) (seen new : List ℕ) (fresh : List Group) (group : Group) → AreFound g seen fresh →
    IsGroup g group → Contains group.members root → (¬ Contains seen root) → Notes group.members seen new →
    IsDistinct nat_eq new → AreFound g new (fresh ++ group ∷ [])
AreFound-more g root seen new fresh group so_far is in_root unseen notes once = record {
  once = once;
  each = λ one there.
      elim (Contains-push_cases fresh group one there) [ inl before ↦ so_far.each one before | inr same ↦ subst (IsGroup g) same is ];
  all = λ one node there member.
      elim (Contains-push_cases fresh group one there) [
        | inl before ↦ notes.kept node (so_far.all one node before member)
        | inr same ↦ notes.noted node (subst (λ (one : Group). Contains one.members node) (sym same) member)
      ];
  only = λ node there.
      elim (notes.only node there) [
        | inl before ↦ let found = so_far.only node before in (found.0, Contains-append_left fresh (group ∷ []) found.0 found.1, found.2)
        | inr member ↦ (group, Contains-push fresh group, member)
      ];
  apart = apart-more g root seen fresh group so_far is in_root unseen;
}

-- a root alone
pub Finds-one : (g : GraphData) (root : ℕ) (old new : List ℕ) → ((n : ℕ) → Contains old n → Contains new n) → (IsStorage g root → Contains new root) →
    Finds g (root ∷ []) old new
Finds-one g root old new kept rooted = record {
  kept = kept;
  rooted = λ n there storage.
      elim (Contains-cons_cases root [] n there) [
        | inl same ↦ subst (Contains new) same (rooted (subst (IsStorage g) (sym same) storage))
        | inr none ↦ absurd (omega (arith, none.1))
      ];
}

-- no root yet
pub Finds-none : (g : GraphData) (roots seen : List ℕ) → Finds g (take 0 roots) seen seen
Finds-none g roots seen = record { kept = λ n there. there; rooted = λ n there. absurd (omega (arith, there.1)) }

-- one root more
pub Finds-more : (g : GraphData) (roots : List ℕ) (i : ℕ) (old seen new : List ℕ) → i < length roots → Finds g (take i roots) old seen →
    Finds g (get_or roots i 0 ∷ []) seen new → Finds g (take (i + 1) roots) old new
Finds-more g roots i old seen new inside so_far one =
    let root = get_or roots i 0 in
    let more : take (i + 1) roots ≡ take i roots ++ root ∷ [] = take_more roots i 0 inside in
    record {
      kept = λ n there. one.kept n (so_far.kept n there);
      rooted = λ n there storage.
          elim (Contains-push_cases (take i roots) root n (rw more at there)) [
            | inl before ↦ one.kept n (so_far.rooted n before storage)
            | inr same ↦ one.rooted n (Contains-cons_first root [] n same) storage
          ];
    }

-- if no group came in
pub AreFoundFrom-none : (roots : List ℕ) (fresh : List Group) → AreFoundFrom roots fresh fresh
AreFoundFrom-none roots fresh = record { from = λ group there. inl there }

-- the group of a root came in
pub AreFoundFrom-one : (root : ℕ) (fresh : List Group) (group : Group) → Contains group.members root → AreFoundFrom (root ∷ []) fresh (fresh ++ group ∷ [])
AreFoundFrom-one root fresh group member = record {
  from = λ one there.
      elim (Contains-push_cases fresh group one there) [
        | inl before ↦ inl before
        | inr same ↦ inr (root, Contains-cons_first root [] root refl, subst (λ (g : Group). Contains g.members root) same member)
      ];
}

-- what comes in from some roots and then from others comes in from all of them
AreFoundFrom-then : (first second roots : List ℕ) (old fresh new : List Group) → ((n : ℕ) → Contains first n → Contains roots n) →
    ((n : ℕ) → Contains second n → Contains roots n) → AreFoundFrom first old fresh → AreFoundFrom second fresh new → AreFoundFrom roots old new
AreFoundFrom-then first second roots old fresh new before after one two = record {
  from = λ group there.
      elim (two.from group there) [
        | inl earlier ↦
            elim (one.from group earlier) [
              | inl older ↦ inl older
              | inr (n, root, member) ↦ inr (n, before n root, member)
            ]
        | inr (n, root, member) ↦ inr (n, after n root, member)
      ];
}

-- what a part of a list has is in the list
pub Contains-part : (xs : List ℕ) (k n : ℕ) → Contains (take k xs) n → Contains xs n
Contains-part xs k n there = subst (λ (ys : List ℕ). Contains ys n) (take-append-drop k xs) (Contains-append_left (take k xs) (drop k xs) n there)

-- how many of two lists are storage nodes
both_pass : (g : GraphData) (roots more : List ℕ) →
    length (filter (is_storage g) (roots ++ more)) ≡ length (filter (is_storage g) roots) + length (filter (is_storage g) more)
both_pass g roots more =
    ap length (filter-append (is_storage g) roots more) ∙ length-append (filter (is_storage g) roots) (filter (is_storage g) more)

-- the roots so far and the next one are among the roots so far with the next one
before_next : (roots : List ℕ) (i n : ℕ) → i < length roots → Contains (take i roots) n → Contains (take (i + 1) roots) n
before_next roots i n inside there = rw (take_more roots i 0 inside) (Contains-append_left (take i roots) (get_or roots i 0 ∷ []) n there)

next_one : (roots : List ℕ) (i n : ℕ) → i < length roots → Contains (get_or roots i 0 ∷ []) n → Contains (take (i + 1) roots) n
next_one roots i n inside there = rw (take_more roots i 0 inside) (Contains-append_right (take i roots) (get_or roots i 0 ∷ []) n there)

-- one root more
pub AreFoundFrom-more : (roots : List ℕ) (i : ℕ) (old fresh new : List Group) → i < length roots → AreFoundFrom (take i roots) old fresh →
    AreFoundFrom (get_or roots i 0 ∷ []) fresh new → AreFoundFrom (take (i + 1) roots) old new
AreFoundFrom-more roots i old fresh new inside =
    AreFoundFrom-then (take i roots) (get_or roots i 0 ∷ []) (take (i + 1) roots) old fresh new
    (λ n there. before_next roots i n inside there) (λ n there. next_one roots i n inside there)

-- where the search ends early in a later part of the roots, the groups that were found before pay for the steps before
ArePaid-then : (g : GraphData) (first second roots : List ℕ) (old fresh : List Group) (start middle end : ℕ) →
    ((n : ℕ) → Contains first n → Contains roots n) → ((n : ℕ) → Contains second n → Contains roots n) →
    length (filter (is_storage g) first) + length (filter (is_storage g) second) ≤ length (filter (is_storage g) roots) →
    AreFoundFrom first old fresh → middle + search_cost old ≤ start + length (filter (is_storage g) first) + search_cost fresh →
    ArePaid g second fresh middle end → ArePaid g roots old start end
ArePaid-then g first second roots old fresh start middle end before after counts from ticked paid = record {
  paid = λ groups are.
      let looked = paid.paid groups are in (
        looked.0,
        record {
          each = looked.1.each;
          apart = looked.1.apart;
          from = AreFoundFrom-then first second roots old fresh looked.0 before after from looked.1.from;
          steps = let more = looked.1.steps in omega (arith, more, ticked, counts);
        },
      );
}

-- where it ends early at a root, the groups that were found and that of the root pay for its steps
ArePaid-one : (g : GraphData) (root : ℕ) (fresh : List Group) (seen : List ℕ) (start end : ℕ) → AreFound g seen fresh →
    IsCutShort g root seen start end → ArePaid g (root ∷ []) fresh start end
ArePaid-one g root fresh seen start end so_far cut = record {
  paid = λ groups are.
      let at = are.whole root cut.storage in
      let group = at.1 in
      let is : IsGroup g group = All-contains (IsGroup g) groups group are.each (at.0, at.2, at.3) in (
        fresh ++ group ∷ [],
        record {
          each = λ one there. elim (Contains-push_cases fresh group one there) [ inl before ↦ so_far.each one before | inr same ↦ subst (IsGroup g) same is ];
          apart = apart-more g root seen fresh group so_far is at.4 cut.unseen;
          from = AreFoundFrom-one root fresh group at.4;
          steps =
              let grown = sum_by_push (λ (group : Group). 3 * length group.members + 2 * length group.switches) fresh group in
              let one = cut.paid group is at.4 in
              let counts : length (filter (is_storage g) (root ∷ [])) ≡ 1 = rw (test-from_IsStorage g root cut.storage) refl in
              omega (arith, grown, one, counts);
        },
      );
}

pub ArePaid-cut : (g : GraphData) (roots : List ℕ) (i : ℕ) (old fresh : List Group) (seen : List ℕ) (start middle end : ℕ) → i < length roots →
    AreFound g seen fresh → AreFoundFrom (take i roots) old fresh →
    middle + search_cost old ≤ start + length (filter (is_storage g) (take i roots)) + search_cost fresh →
    IsCutShort g (get_or roots i 0) seen middle end → ArePaid g roots old start end
ArePaid-cut g roots i old fresh seen start middle end inside so_far from ticked cut =
    let root = get_or roots i 0 in
    let counts = both_pass g (take i roots) (root ∷ []) in
    let next : take i roots ++ root ∷ [] ≡ take (i + 1) roots = sym (take_more roots i 0 inside) in
    ArePaid-then g (take i roots) (root ∷ []) roots old fresh start middle end
    (λ n there. Contains-part roots i n there) (λ n there. Contains-part roots (i + 1) n (next_one roots i n inside there))
    (omega (arith, counts, ap (λ (xs : List ℕ). length (filter (is_storage g) xs)) next, filter-part (is_storage g) roots (i + 1))) from ticked
    (ArePaid-one g root fresh seen middle end so_far cut)

-- what the first roots pay for, more roots pay for too
pub ArePaid-first : (g : GraphData) (roots more : List ℕ) (old : List Group) (start end : ℕ) → ArePaid g roots old start end →
    ArePaid g (roots ++ more) old start end
ArePaid-first g roots more old start end =
    ArePaid-then g [] roots (roots ++ more) old old start start end
    (λ n there. absurd (omega (arith, there.1))) (λ n there. Contains-append_left roots more n there)
    (omega (arith, both_pass g roots more)) (AreFoundFrom-none [] old) (omega arith)

-- and those that come after others pay with them
pub ArePaid-second : (g : GraphData) (roots more : List ℕ) (old fresh : List Group) (start middle end : ℕ) → AreFoundFrom roots old fresh →
    middle + search_cost old ≤ start + length (filter (is_storage g) roots) + search_cost fresh → ArePaid g more fresh middle end →
    ArePaid g (roots ++ more) old start end
ArePaid-second g roots more old fresh start middle end =
    ArePaid-then g roots more (roots ++ more) old fresh start middle end
    (λ n there. Contains-append_left roots more n there) (λ n there. Contains-append_right roots more n there) (omega (arith, both_pass g roots more))

-- a number that no look finds isn't there
pub unseen_root : (seen : List ℕ) (root : ℕ) → list_any (nat_eq root) seen ≡ false → ¬ Contains seen root
unseen_root seen root none there =
    let yes : list_any (nat_eq root) seen ≡ true = list_any_at (nat_eq root) seen there.0 root there.1 (eq-eqb root (get_or seen there.0 root) (sym there.2)) in
    absurd (cc)

-- a search that ends early in the flood from a root, or while its group is noted
pub IsCutShort-flooded : (g : GraphData) (root : ℕ) (seen : List ℕ) → IsStorage g root → (¬ Contains seen root) → (start ticked end : ℕ) →
    ticked ≡ start + 1 → IsPaid g root ticked end → IsCutShort g root seen start end
IsCutShort-flooded g root seen storage unseen start ticked end one flood = record {
  storage = storage;
  unseen = unseen;
  paid = λ group is member. let most = flood.paid group is member in omega (arith, most, one);
}

pub IsCutShort-noted : (g : GraphData) (root : ℕ) (seen : List ℕ) → IsStorage g root → (¬ Contains seen root) → (start ticked flooded end : ℕ) →
    ticked ≡ start + 1 → IsPaid g root ticked flooded → (found : Group) → IsGroup g found → Contains found.members root →
    end ≤ flooded + length found.members → IsCutShort g root seen start end
IsCutShort-noted g root seen storage unseen start ticked flooded end one flood found is_found in_found noted = record {
  storage = storage;
  unseen = unseen;
  paid = λ group is member.
      let most = flood.paid group is member in
      let same : length found.members ≡ length group.members =
      ap (λ (g : Group). length g.members) (same_by_member g found group is_found is root in_found member) in
      omega (arith, most, one, noted, same);
}

-- what holds whatever the answer holds at an error
pub on_err : {T E P : Type 0} (result : Result T E) → P → OnErr result P
on_err (Ok value) fact = tt
on_err (Err fault) fact = fact
