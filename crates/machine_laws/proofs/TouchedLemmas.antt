-- The nodes whose groups an edit touches: those that the edit changed, and the members of the touched old groups.
use Rattle.std.proofs.Common.{◌≡◌, ℕ, Bool, true, false, ◌||◌, inl, inr, ◌⊎◌, List, ◌++◌, filter, eqb, refl, sym, subst}
use Rattle.std.specs.Prelude.{◌↔◌, Contains}
use Rattle.std.specs.List.{list_any}
use Rattle.std.proofs.lemmas.Bool.{eqb-true}
use Rattle.std.proofs.lemmas.List.Elements.{Contains-append_left, Contains-append_right, Contains-append_cases}
use Rattle.std.proofs.lemmas.List.Folds.{Any-from_list_any}
use Rattle.list_facts.proofs.ContainsLemmas.{Contains-filter, Contains-from_filter, passes-from_filter}
use Rattle.switch_paths.specs.Graphs.{GraphData}
use Rattle.group_meaning.specs.Groups.{Group}
use Rattle.channel_groups.specs.declared.change.Change.{Change}
use Rattle.channel_groups.specs.Changes.{nodes_before, nodes_after, is_among, in_some, is_touched, is_touched_now}
use Rattle.channel_groups.proofs.TickLemmas.{among, any_there, or_left, or_right}
use Rattle.machine_laws.specs.Seating.{HasAny, IsWithAny}

-- an edit touches a group or doesn't
pub touched_or_not : (b : Bool) → (b ≡ true) ⊎ (b ≡ false)
touched_or_not true = inl refl
touched_or_not false = inr refl

or_cases : (a b : Bool) → (a || b) ≡ true → (a ≡ true) ⊎ (b ≡ true)
or_cases true b is = inl refl
or_cases false b is = inr is

-- what passes in a list is there
from_any : {X : Type 0} (test : X → Bool) (xs : List X) → list_any test xs ≡ true → (x : X) × Contains xs x × (test x ≡ true)
from_any test xs is =
    let any = Any-from_list_any test xs is in
    (any.1, (any.0, any.2, any.3), any.4)

from_among : (xs : List ℕ) (n : ℕ) → is_among xs n ≡ true → Contains xs n
from_among xs n is =
    let (x, there, same) = from_any (λ x. eqb x n) xs is in
    subst (Contains xs) (eqb-true x n same) there

module _ (g : GraphData) (change : Change) (old_groups : List Group) (found nodes : List ℕ)
    (found_are : (node : ℕ) → Contains found node ↔ IsWithAny old_groups (nodes_before change) node) (nodes_are : nodes ≡ found ++ nodes_after g change) where
  abbrev touched_old : List Group
  touched_old = filter (is_touched change) old_groups

  -- the members of touched old groups were found
  found_in : (node : ℕ) → in_some touched_old node ≡ true → Contains found node
  found_in node is =
      let (group, there, among_members) = from_any (λ group. is_among group.members node) touched_old is in
      let (changed, member, touched) = from_any (is_among (nodes_before change)) group.members (passes-from_filter (is_touched change) old_groups group there) in
      (found_are node).1 (record {
        group = group;
        there = Contains-from_filter (is_touched change) old_groups group there;
        has = record { node = changed; among = from_among (nodes_before change) changed touched; member = member };
        member = from_among group.members node among_members;
      })

  found_only : (node : ℕ) → Contains found node → in_some touched_old node ≡ true
  found_only node there =
      let with = (found_are node).0 there in
      let touched : is_touched change with.group ≡ true =
      any_there (is_among (nodes_before change)) with.group.members with.has.node with.has.member (among (nodes_before change) with.has.node with.has.among) in
      any_there (λ group. is_among group.members node) touched_old with.group (Contains-filter (is_touched change) old_groups with.group with.there touched)
      (among with.group.members node with.member)

  in_nodes : (node : ℕ) → Contains nodes node → (is_among (nodes_after g change) node || in_some touched_old node) ≡ true
  in_nodes node there =
      elim (Contains-append_cases found (nodes_after g change) node (subst (λ xs. Contains xs node) nodes_are there)) [
        | inl before ↦ or_right (is_among (nodes_after g change) node) (in_some touched_old node) (found_only node before)
        | inr after ↦ or_left (is_among (nodes_after g change) node) (in_some touched_old node) (among (nodes_after g change) node after)
      ]

  pub after_in_nodes : (node : ℕ) → Contains (nodes_after g change) node → Contains nodes node
  after_in_nodes node there = subst (λ xs. Contains xs node) (sym nodes_are) (Contains-append_right found (nodes_after g change) node there)

  -- a group is touched if it has one of the nodes
  pub touched_has : (group : Group) → is_touched_now g change old_groups group ≡ true → HasAny nodes group
  touched_has group touched =
      let (node, member, passes) = from_any (λ node. is_among (nodes_after g change) node || in_some touched_old node) group.members touched in
      record {
        node = node;
        among = elim (or_cases (is_among (nodes_after g change) node) (in_some touched_old node) passes) [
          | inl after ↦ after_in_nodes node (from_among (nodes_after g change) node after)
          | inr before ↦ subst (λ xs. Contains xs node) (sym nodes_are) (Contains-append_left found (nodes_after g change) node (found_in node before))
        ];
        member = member;
      }

  pub has_touched : (group : Group) → HasAny nodes group → is_touched_now g change old_groups group ≡ true
  has_touched group has =
      any_there (λ node. is_among (nodes_after g change) node || in_some touched_old node) group.members has.node has.member (in_nodes has.node has.among)
