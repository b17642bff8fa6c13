-- Groups that are found by their least nodes.
use Rattle.std.proofs.Common.{◌≡◌, ℕ, zero, suc, ◌<◌, Bool, true, false, eqb, inl, inr, List, [], ◌∷◌, length, get_or, Some, refl, ap, subst, ◌∙◌, arith}
use Rattle.std.specs.Prelude.{Contains, find, is_some, option_map}
use Rattle.std.proofs.lemmas.Bool.{cases_Bool}
use Rattle.std.proofs.lemmas.Bool.Decides.{Decides-eqb}
use Rattle.switch_paths.specs.Graphs.{GraphData, nodes}
use Rattle.group_meaning.specs.Groups.{Group, IsGroup, AreGroups, id_of}
use Rattle.group_meaning.proofs.UniqueGroups.{id_member, same_by_member}
use Rattle.group_meaning.proofs.GroupLemmas.{member_storage}
use Rattle.channel_groups.specs.Grouping.{has_member, IsId}
use Rattle.channel_groups.proofs.HeldLemmas.{has_member-from, has_member-Contains}

-- what passes a test stands among the items
pub record Found {X : Type 0} (p : X → Bool) (xs : List X) : Type 0 where
  pub x : X
  pub k : ℕ
  pub inside : k < length xs
  pub here : get_or xs k x ≡ x
  pub passes : p x ≡ true
  pub is : find p xs ≡ Some x

found_later : {X : Type 0} (p : X → Bool) (y : X) (xs : List X) → p y ≡ false → Found p xs → Found p (y ∷ xs)
found_later p y xs fails found = record {
  x = found.x;
  k = suc found.k;
  inside = omega (arith, found.inside);
  here = found.here;
  passes = found.passes;
  is = rw fails found.is;
}

found_here : {X : Type 0} (p : X → Bool) (y : X) (xs : List X) → p y ≡ true → Found p (y ∷ xs)
found_here p y xs passes = record { x = y; k = 0; inside = omega arith; here = refl; passes = passes; is = rw passes refl }

pub found : {X : Type 0} (p : X → Bool) (xs : List X) → is_some (find p xs) ≡ true → Found p xs
found p [] some = absurd cc
found p (y ∷ xs) some =
    elim (cases_Bool (p y)) [
      | inl passes ↦ found_here p y xs passes
      | inr fails ↦ found_later p y xs fails (found p xs (rw fails at some))
    ]

pub found_by : {X : Type 0} (p : X → Bool) (xs : List X) (k : ℕ) (x : X) → k < length xs → get_or xs k x ≡ x → p x ≡ true → Found p xs
found_by p [] k x inside here passes = absurd (omega (arith, inside))
found_by p (y ∷ xs) zero x inside here passes = found_here p y xs (ap p here ∙ passes)
found_by p (y ∷ xs) (suc k) x inside here passes =
    let behind = found_by p xs k x (omega (arith, inside)) here passes in
    elim (cases_Bool (p y)) [
      | inl first ↦ found_here p y xs first
      | inr fails ↦ found_later p y xs fails behind
    ]

module _ (g : GraphData) (groups : List Group) (are : AreGroups g groups) (node : ℕ) (id : IsId groups node) where
  -- the group with this least node
  pub group_of_id : (group : Group) × (k : ℕ) × (k < length groups) × (get_or groups k group ≡ group) × IsGroup g group × (id_of group ≡ node)
  group_of_id =
      let at = found (λ group. eqb (id_of group) node) groups id in
      (at.x, at.k, at.inside, at.here, subst (IsGroup g) at.here (are.each at.k at.x at.inside), (Decides-eqb (id_of at.x) node).0 at.passes)

  -- it has the node as a member, and no other group has
  pub group_of_member : option_map id_of (find (has_member node) groups) ≡ Some node
  group_of_member =
      let (group, k, inside, here, is_group, same) = group_of_id in
      let member : Contains group.members node = subst (Contains group.members) same (id_member g group is_group) in
      let at = found_by (has_member node) groups k group inside here (has_member-from node group member) in
      let other : IsGroup g at.x = subst (IsGroup g) at.here (are.each at.k at.x at.inside) in
      let one : at.x ≡ group = same_by_member g at.x group other is_group node (has_member-Contains node at.x at.passes) member in
      ap (option_map id_of) at.is ∙ ap Some (ap id_of one ∙ same)

  pub node_inside : node < nodes g
  node_inside =
      let (group, k, inside, here, is_group, same) = group_of_id in
      subst (λ n. n < nodes g) same (member_storage g group is_group (id_of group) (id_member g group is_group)).inside
