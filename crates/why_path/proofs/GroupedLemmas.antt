-- The group that is found for a node is near it; if none is found the node is an input node.
use Rattle.std.proofs.Common.{◌≡◌, ℕ, zero, suc, ◌<◌, Bool, true, ◌==◌, inl, inr, List, [], ◌∷◌, length, get_or, Option, None, Some, IfSome, refl, sym, ap, subst, ◌∙◌, arith}
use Rattle.std.specs.Prelude.{Contains, find, is_some, option_map}
use Rattle.std.proofs.lemmas.Bool.{cases_Bool, eqb-true}
use Rattle.std.proofs.lemmas.List.Elements.{All-contains}
use Rattle.switch_paths.specs.Graphs.{GraphData}
use Rattle.group_meaning.specs.Groups.{Group, IsGroup, AreGroups, id_of}
use Rattle.group_meaning.proofs.UniqueGroups.{same_by_id}
use Rattle.channel_groups.specs.Grouping.{has_member, group_with, IsId}
use Rattle.channel_groups.proofs.HeldLemmas.{has_member-from, has_member-Contains, found_place}
use Rattle.why_path.specs.Near.{IsNear}

-- where one passes one is found
passing : {X : Type 0} → (p : X → Bool) (xs : List X) (k : ℕ) (x : X) → k < length xs → get_or xs k x ≡ x → p x ≡ true → is_some (find p xs) ≡ true
passing p [] k x inside here passes = absurd (omega (arith, inside))
passing p (y ∷ xs) zero x inside here passes = rw (ap p here ∙ passes) refl
passing p (y ∷ xs) (suc k) x inside here passes =
    elim (cases_Bool (p y)) [
      | inl first ↦ rw first refl
      | inr fails ↦ rw fails (passing p xs k x (omega (arith, inside)) here passes)
    ]

-- what has an id is there
by_id : (o : Option Group) (id : ℕ) → Some id ≡ option_map id_of o → (group : Group) × (o ≡ Some group) × (id_of group ≡ id)
by_id None id is = absurd cc
by_id (Some group) id is = (group, refl, cc)

-- and what is there has what is told of it
by_some : (o : Option Group) (P Q : Group → Type 0) → is_some o ≡ true → IfSome o P → IfSome o Q → (group : Group) × (o ≡ Some group) × P group × Q group
by_some None P Q there p q = absurd cc
by_some (Some group) P Q there p q = (group, refl, p, q)

no_id : (o : Option Group) → None ≡ option_map id_of o → o ≡ None
no_id None is = refl
no_id (Some group) is = absurd cc

module _ (g : GraphData) (groups : List Group) (are : AreGroups g groups) (node : ℕ) where
  -- the group with the id that is found for a node is near the node
  pub near_found : (id : ℕ) (members switches : List ℕ) → Some id ≡ option_map id_of (find (has_member node) groups) → IsId groups id →
      IfSome (group_with groups id) (λ group. members ≡ group.members) → IfSome (group_with groups id) (λ group. switches ≡ group.switches) →
      IsNear g members switches node
  near_found id members switches found is_id members_is switches_is =
      let one = by_id (find (has_member node) groups) id found in
      let has = found_place (has_member node) groups one.0 one.1 in
      let two = by_some (group_with groups id) (λ group. members ≡ group.members) (λ group. switches ≡ group.switches) is_id members_is switches_is in
      let at = found_place (λ group. id_of group == id) groups two.0 two.1 in
      let first : IsGroup g one.0 = All-contains (IsGroup g) groups one.0 are.each (has.0, has.1, has.2) in
      let second : IsGroup g two.0 = All-contains (IsGroup g) groups two.0 are.each (at.0, at.1, at.2) in
      let same : one.0 ≡ two.0 = same_by_id g one.0 two.0 first second (one.2 ∙ sym (eqb-true (id_of two.0) id at.3)) in
      let whole : two.0 ≡ record { members = members; switches = switches } =
      ap (λ (xs : List ℕ). record { members = xs; switches = two.0.switches }) (sym two.2)
      ∙ ap (λ (xs : List ℕ). record { members = members; switches = xs }) (sym two.3) in
      let member : Contains two.0.members node =
      subst (λ (group : Group). Contains group.members node) same (has_member-Contains node one.0 has.3) in
      λ storage. (subst (IsGroup g) whole second, subst (λ (xs : List ℕ). Contains xs node) (sym two.2) member)

  -- a node for which no group is found is no storage node
  pub near_none : (members switches : List ℕ) → None ≡ option_map id_of (find (has_member node) groups) → IsNear g members switches node
  near_none members switches none =
      λ storage.
      let any = are.whole node storage in
      let has = has_member-from node any.1 any.4 in
      let there = passing (has_member node) groups any.0 any.1 any.2 any.3 has in
      let nothing = no_id (find (has_member node) groups) none in
      absurd (cc (there, nothing))
