-- What is taken out and put in, node by node and group by group.
use Rattle.std.proofs.Common.{◌≡◌, ℕ, ◌+◌, ◌<◌, inl, inr, List, [], ◌∷◌, ◌++◌, length, get_or, set, take, Option, Some, None, Contains, refl, sym, ap, subst, ◌∙◌, arith}
use Rattle.std.proofs.lemmas.Bool.{cases_eq}
use Rattle.std.proofs.lemmas.List.{take_more, get_or-set_same, get_or-set_other, length-set}
use Rattle.std.proofs.lemmas.List.Elements.{Contains-push_cases, Contains-append_left, Contains-append_right, Contains-push, Contains-append_cases, Contains-get_or}
use Rattle.list_facts.proofs.ContainsLemmas.{Contains-cons_cases, Contains-cons_first}
use Rattle.group_meaning.specs.Groups.{Group, id_of}
use Rattle.channel_groups.specs.Grouping.{slot_at}
use Rattle.channel_groups.proofs.RegroupedLemmas.{contained_or_not}
use Rattle.channel_groups.specs.Writing.{Clears, Puts, Marks}

-- before the first node all stays
pub Clears-none : (X : Type 0) (nodes : List ℕ) (xs : List (Option X)) → Clears X (take 0 nodes) (λ n. get_or xs n None) (λ n. get_or xs n None)
Clears-none X nodes xs = record { gone = λ n there. absurd (omega (arith, there.1)); stays = λ n none. refl }

-- one node more is cleared
pub Clears-more : (X : Type 0) (nodes : List ℕ) (i : ℕ) (old xs : List (Option X)) → i < length nodes → get_or nodes i 0 < length xs →
    Clears X (take i nodes) (λ n. get_or old n None) (λ n. get_or xs n None) →
    Clears X (take (i + 1) nodes) (λ n. get_or old n None) (λ n. get_or (set xs (get_or nodes i 0) None) n None)
Clears-more X nodes i old xs inside below so_far =
    let node = get_or nodes i 0 in
    let more : take (i + 1) nodes ≡ take i nodes ++ node ∷ [] = take_more nodes i 0 inside in
    record {
      gone = λ n there.
          elim (cases_eq n node) [
            | inl same ↦ ap (λ m. get_or (set xs node None) m None) same ∙ get_or-set_same xs node None None below
            | inr other ↦
                get_or-set_other xs node n None None other
                ∙ so_far.gone n (elim (Contains-push_cases (take i nodes) node n (rw more at there)) [
                  | inl before ↦ before
                  | inr same ↦ absurd (other (sym same))
                ])
          ];
      stays = λ n none.
          get_or-set_other xs node n None None (λ same. none (rw (more, same) (Contains-push (take i nodes) node)))
          ∙ so_far.stays n (λ before. none (rw more (Contains-append_left (take i nodes) (node ∷ []) n before)));
    }

-- before the first member no class changes
pub Marks-none : (members : List ℕ) (id : ℕ) (xs : List (Option ℕ)) → Marks (take 0 members) id xs xs
Marks-none members id xs = record { count = refl; marked = λ n there. absurd (omega (arith, there.1)); stays = λ n none. refl }

-- one member more has the class
pub Marks-more : (members : List ℕ) (id i : ℕ) (old xs : List (Option ℕ)) → i < length members → get_or members i 0 < length xs →
    Marks (take i members) id old xs → Marks (take (i + 1) members) id old (set xs (get_or members i 0) (Some id))
Marks-more members id i old xs inside below so_far =
    let node = get_or members i 0 in
    let more : take (i + 1) members ≡ take i members ++ node ∷ [] = take_more members i 0 inside in
    record {
      count = length-set xs node (Some id) ∙ so_far.count;
      marked = λ n there.
          elim (cases_eq n node) [
            | inl same ↦ ap (λ m. get_or (set xs node (Some id)) m None) same ∙ get_or-set_same xs node (Some id) None below
            | inr other ↦
                get_or-set_other xs node n (Some id) None other
                ∙ so_far.marked n (elim (Contains-push_cases (take i members) node n (rw more at there)) [
                  | inl before ↦ before
                  | inr same ↦ absurd (other (sym same))
                ])
          ];
      stays = λ n none.
          get_or-set_other xs node n (Some id) None (λ same. none (rw (more, same) (Contains-push (take i members) node)))
          ∙ so_far.stays n (λ before. none (rw more (Contains-append_left (take i members) (node ∷ []) n before)));
    }

-- a group is put in: its members have its class, and it stands at its id
pub Puts-one : (group : Group) (classes more : List (Option ℕ)) (slots : List (Option Group)) → Marks group.members (id_of group) classes more →
    id_of group < length slots → Puts (group ∷ []) classes more slots (set slots (id_of group) (Some group))
Puts-one group classes more slots marks below =
    let one : (other : Group) → Contains (group ∷ []) other → group ≡ other =
    λ other there. elim (Contains-cons_cases group [] other there) [ inl same ↦ same | inr none ↦ absurd (omega (arith, none.1)) ] in
    let here = Contains-cons_first group [] group refl in
    record {
      class = λ other node there member.
          let same = one other there in
          marks.marked node (subst (λ (g : Group). Contains g.members node) (sym same) member) ∙ ap (λ (g : Group). Some (id_of g)) same;
      class_stays = λ node none. marks.stays node (λ member. none group here member);
      slot = λ other there.
          let same = one other there in
          subst (λ (g : Group). get_or (set slots (id_of group) (Some group)) (id_of g) None ≡ Some g) same
          (get_or-set_same slots (id_of group) (Some group) None below);
      slot_stays = λ node none. get_or-set_other slots (id_of group) node (Some group) None (λ same. none group here (sym same));
      classes_count = marks.count;
      slots_count = length-set slots (id_of group) (Some group);
    }

pub Puts-none : (classes : List (Option ℕ)) (slots : List (Option Group)) → Puts [] classes classes slots slots
Puts-none classes slots = record {
  class = λ group node there member. absurd (omega (arith, there.1));
  class_stays = λ node none. refl;
  slot = λ group there. absurd (omega (arith, there.1));
  slot_stays = λ node none. refl;
  classes_count = refl;
  slots_count = refl;
}

-- one group more is put in behind others: where it shares a member with one of them it is the same one
pub Puts-more : (groups : List Group) (group : Group) (a b c : List (Option ℕ)) (p q r : List (Option Group)) →
    ((other : Group) (node : ℕ) → Contains groups other → Contains other.members node → Contains group.members node → other ≡ group) →
    0 < length group.members → ((other : Group) → Contains groups other → 0 < length other.members) →
    Puts groups a b p q → Puts (group ∷ []) b c q r → Puts (groups ++ group ∷ []) a c p r
Puts-more groups group a b c p q r apart some all_some first second =
    let here = Contains-cons_first group [] group refl in
    let one : (other : Group) → Contains (group ∷ []) other → group ≡ other =
    λ other there. elim (Contains-cons_cases group [] other there) [ inl same ↦ same | inr none ↦ absurd (omega (arith, none.1)) ] in
    record {
      class = λ other node there member.
          elim (Contains-append_cases groups (group ∷ []) other there) [
            | inr last ↦ second.class other node last member
            | inl before ↦
                elim (contained_or_not group.members node) [
                  | inl shared ↦
                      let same = apart other node before member shared in
                      second.class group node here shared ∙ ap (λ (g : Group). Some (id_of g)) (sym same)
                  | inr alone ↦
                      second.class_stays node (λ last is in_last. alone (subst (λ (g : Group). Contains g.members node) (sym (one last is)) in_last))
                      ∙ first.class other node before member
                ]
          ];
      class_stays = λ node none.
          second.class_stays node (λ last is. none last (Contains-append_right groups (group ∷ []) last is))
          ∙ first.class_stays node (λ other is. none other (Contains-append_left groups (group ∷ []) other is));
      slot = λ other there.
          elim (Contains-append_cases groups (group ∷ []) other there) [
            | inr last ↦ second.slot other last
            | inl before ↦
                elim (cases_eq (id_of group) (id_of other)) [
                  | inl same_id ↦
                      let in_other = Contains-get_or other.members 0 0 (all_some other before) in
                      let in_group = subst (Contains group.members) same_id (Contains-get_or group.members 0 0 some) in
                      let same = apart other (id_of other) before in_other in_group in
                      subst (λ (g : Group). slot_at r (id_of g) ≡ Some g) (sym same) (second.slot group here)
                  | inr apart_ids ↦
                      second.slot_stays (id_of other) (λ last is same. apart_ids (ap id_of (one last is) ∙ same)) ∙ first.slot other before
                ]
          ];
      slot_stays = λ node none.
          second.slot_stays node (λ last is. none last (Contains-append_right groups (group ∷ []) last is))
          ∙ first.slot_stays node (λ other is. none other (Contains-append_left groups (group ∷ []) other is));
      classes_count = second.classes_count ∙ first.classes_count;
      slots_count = second.slots_count ∙ first.slots_count;
    }
