-- The parts of groups that are stepped by vicinities: while parts lose their groups or come, such groups are known as long as none of their members
-- loses its part.
use Rattle.std.proofs.Common.{◌≡◌, ◌≢◌, ℕ, ◌<◌, ◌≤◌, inl, inr, List, [], ◌∷◌, ◌++◌, length, take, Option, None, Some, refl, sym, ap, subst, ◌∙◌, arith}
use Rattle.std.specs.Prelude.{Contains, slice_set}
use Rattle.std.proofs.lemmas.List.{get_or-take, get_or_default, length-take}
use Rattle.ternary.specs.declared.tern.Tern.{Tern}
use Rattle.switch_paths.specs.Graphs.{GraphData, IsStorage}
use Rattle.machine_parts.specs.declared.part.MachinePart.{MachinePart}
use Rattle.machine_parts.specs.Parts.{Stands, IsMemberAt, HasMember, AreApart}
use Rattle.machine_parts.proofs.PartLemmas.{same_part}
use Rattle.vicinity.specs.Wides.{WideData}
use Rattle.wide_groups.specs.Moving.{HasStaleOnly, graph_in}
use Rattle.wide_groups.specs.Awake.{HoldsWide}
use Rattle.wide_groups.specs.Staying.{HoldsAny, ForgetsWith}
use Rattle.wide_groups.proofs.StayingLemmas.{forgets_none}
use Rattle.machine_laws.specs.Seating.{IsVacant, Loses, KeepsKnown}
use Rattle.machine_laws.proofs.SlotLemmas.{Stands-other, Stands-same, Stands-before}
use Rattle.machine_laws.proofs.HeldLemmas.{known_or_not}

-- what is taken of a part's map is a member of the part
pub taken_member : (parts : List MachinePart) (k : ℕ) (part : MachinePart) → Stands parts k part → (node : ℕ) → Contains (take part.members part.map.items) node →
    HasMember parts k node
taken_member parts k part stands node there =
    let place = there.0 in
    let long = length-take part.members part.map.items in
    let before : place < part.members = omega (arith, there.1, long) in
    let within : place < length part.map.items = omega (arith, there.1, long) in
    record {
      part = part;
      stands = stands;
      place = place;
      member = record {
        inside = before;
        within = within;
        here = get_or_default part.map.items place 0 node within ∙ (sym (get_or-take part.members part.map.items place node before) ∙ there.2);
      };
    }

-- and a member is taken
pub member_taken : (parts : List MachinePart) (k : ℕ) (part : MachinePart) → Stands parts k part → (node : ℕ) → HasMember parts k node →
    Contains (take part.members part.map.items) node
member_taken parts k part stands node has =
    let same : has.part ≡ part = same_part parts k has.part part has.stands stands in
    let member : IsMemberAt part has.place node = subst (λ one. IsMemberAt one has.place node) same has.member in (
      has.place,
      omega (arith, member.inside, member.within, length-take part.members part.map.items),
      get_or-take part.members part.map.items has.place node member.inside ∙ (get_or_default part.map.items has.place node 0 member.within ∙ member.here),
    )

pub taken_some : (part : MachinePart) (node : ℕ) → Contains (take part.members part.map.items) node → 0 < part.members
taken_some part node there = omega (arith, there.1, length-take part.members part.map.items)

-- if nothing changes, what is known is known
pub KeepsKnown-same : (parts : List MachinePart) (wide : Option WideData) → KeepsKnown parts parts wide wide
KeepsKnown-same parts wide = record { known = λ one is. (is, λ k part node stands there storage. stands); lost = λ one is. inl is }

-- what was lost before is lost after it
loses_first : (g : GraphData) (a b c : List MachinePart) → length a ≤ length b →
    ((k : ℕ) (part : MachinePart) → Stands c k part → k < length b → 0 < part.members → Stands b k part) → Loses g a b → Loses g a c
loses_first g a b c count back loses = record {
  node = loses.node;
  storage = loses.storage;
  gone = λ k part stood there stands.
      loses.gone k part stood there (back k part stands (omega (arith, stood.inside, count)) (taken_some part loses.node there));
}

-- and one change after another
pub KeepsKnown-then : (a b c : List MachinePart) (x y z : Option WideData) → length a ≤ length b →
    ((k : ℕ) (part : MachinePart) → Stands c k part → k < length b → 0 < part.members → Stands b k part) → KeepsKnown a b x y → KeepsKnown b c y z →
    KeepsKnown a c x z
KeepsKnown-then a b c x y z count back first then = record {
  known = λ wide is.
      let (between, stands_then) = then.known wide is in
      let (before, stands_first) = first.known wide between in
      (before, λ k part node stands there storage. stands_then k part node (stands_first k part node stands there storage) there storage);
  lost = λ wide is.
      elim (first.lost wide is) [
        | inl between ↦
            elim (then.lost wide between) [
              | inl after ↦ inl after
              | inr (none, loses) ↦
                  inr (
                    none,
                    record {
                      node = loses.node;
                      storage = loses.storage;
                      gone = λ k part stood there stands.
                          loses.gone k part (back k part stands (omega (arith, stood.inside, count)) (taken_some part loses.node there)) there stands;
                    },
                  )
            ]
        | inr (none, loses) ↦
            elim (known_or_not z) [
              | inl (one, known) ↦
                  let both : None ≡ Some one = sym none ∙ (then.known one known).0 in
                  absurd cc
              | inr gone ↦ inr (gone, loses_first wide.graph a b c count back loses)
            ]
      ];
}

-- a part comes behind the others
pub KeepsKnown-seated : (parts : List MachinePart) (e : MachinePart) (old new : Option WideData) → new ≡ old →
    KeepsKnown parts (parts ++ e ∷ []) old new
KeepsKnown-seated parts e old new same = record {
  known = λ wide is. (sym same ∙ is, λ k part node stands there storage. Stands-before parts e k part stands);
  lost = λ wide is. inl (same ∙ is);
}

-- a part lost its group
module _ (parts : List MachinePart) (k : ℕ) (gone e : MachinePart) (stands : Stands parts k gone) (apart : AreApart parts) (vacant : IsVacant e) (old new : Option WideData)
    (forgets : ForgetsWith (take gone.members gone.map.items) old new) where
  -- a part with a member of the groups that are known still is another one
  other_part : (wide : WideData) → new ≡ Some wide → (l : ℕ) (part : MachinePart) (node : ℕ) → Stands parts l part →
      Contains (take part.members part.map.items) node → IsStorage wide.graph node → l ≢ k
  other_part wide is l part node stood there storage same =
      let (was, free) = forgets_none (take gone.members gone.map.items) old new forgets wide is in
      let one : part ≡ gone = same_part parts k part gone (subst (λ n. Stands parts n part) same stood) stands in
      free (
        node,
        subst (λ (it : MachinePart). Contains (take it.members it.map.items) node) one there,
        subst (λ known. IsStorage (graph_in known) node) (sym was) storage,
      )

  -- no part has a node that the part had
  lost_with : (wide : WideData) → old ≡ Some wide → HoldsAny old (take gone.members gone.map.items) → Loses wide.graph parts (slice_set parts k e)
  lost_with wide is any = record {
    node = any.0;
    storage = subst (λ known. IsStorage (graph_in known) any.0) is any.2;
    gone = λ l part stood there still.
        let mine = taken_member parts k gone stands any.0 any.1 in
        let its = taken_member parts l part stood any.0 there in
        let same : l ≡ k = apart l k any.0 its mine in
        let written : part ≡ e =
        Stands-same parts k e stands.inside part (subst (λ n. Stands (slice_set parts k e) n part) same still) in
        omega (arith, taken_some part any.0 there, ap (λ (it : MachinePart). it.members) written, vacant.members);
  }

  pub KeepsKnown-vacated : KeepsKnown parts (slice_set parts k e) old new
  KeepsKnown-vacated = record {
    known = λ wide is.
        let (was, free) = forgets_none (take gone.members gone.map.items) old new forgets wide is in (
          was,
          λ l part node stood there storage.
              Stands-other parts k e stands.inside l part (other_part wide is l part node stood there storage) stood,
        );
    lost = λ wide is.
        elim forgets [
          | inl (same, free) ↦ inl (same ∙ is)
          | inr (none, any) ↦ inr (none, lost_with wide is any)
        ];
  }

-- where each part stands that has a storage node of a graph, these are members of stale parts still
pub HasStaleOnly-kept : (old new : List MachinePart) (g : GraphData) → HasStaleOnly old g →
    ((k : ℕ) (part : MachinePart) (node : ℕ) → Stands old k part → Contains (take part.members part.map.items) node → IsStorage g node → Stands new k part) →
    HasStaleOnly new g
HasStaleOnly-kept old new g only stays node storage =
    let (k, has, stale) = only node storage in
    let there = member_taken old k stale.part stale.stands node has in
    let stands : Stands new k stale.part = stays k stale.part node stale.stands there storage in (
      k,
      taken_member new k stale.part stands node there,
      record { part = stale.part; stands = stands; some = stale.some; none = stale.none },
    )

-- and the machine can go on with the groups that are known still
pub holds_kept : (old new : List MachinePart) (state : List Tern) (room : ℕ) (a c : Option WideData) → KeepsKnown old new a c → HoldsWide old state room a →
    HoldsWide new state room c
holds_kept old new state room a None keeps holds = tt
holds_kept old new state room a (Some wide) keeps holds =
    let (was, stays) = keeps.known wide refl in
    let before : HoldsWide old state room (Some wide) = subst (HoldsWide old state room) was holds in
    record { listed = before.listed; stale_only = HasStaleOnly-kept old new wide.graph before.stale_only stays; enough = before.enough }
