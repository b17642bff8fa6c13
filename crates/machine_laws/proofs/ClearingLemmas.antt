-- Parts lose their groups, node by node.
use Rattle.std.proofs.Common.{◌≡◌, ◌≢◌, ℕ, zero, suc, ◌<◌, inl, inr, ◌⊎◌, List, [], ◌∷◌, ◌++◌, length, None, Result, Ok, Err, refl, sym, ap, subst, ◌∙◌, arith}
use Rattle.std.specs.Prelude.{Contains, OnOk, slice_index_or, slice_set}
use Rattle.std.proofs.lemmas.Bool.{cases_eq}
use Rattle.std.proofs.lemmas.List.{get_or-set_same, get_or-set_other, get_or_past, length-set, length_push}
use Rattle.std.proofs.lemmas.List.Elements.{Contains-push, Contains-push_cases, Contains-append_left}
use Rattle.machine_parts.specs.declared.part.MachinePart.{MachinePart}
use Rattle.machine_parts.specs.Parts.{Stands, HasMember, AreApart}
use Rattle.machine_laws.specs.Machines.{MachineData}
use Rattle.machine_parts.specs.Marking.{IsMarked}
use Rattle.machine_laws.specs.Seating.{KeepsKnown, KeepsRest, Vacates, Seats, Clears, Renews, IsStalePartOf, IsTidy}
use Rattle.machine_parts.proofs.MarkLemmas.{marked-push, marked-push_cases}
use Rattle.machine_laws.proofs.HeldParts.{KeepsKnown-same, KeepsKnown-then, KeepsKnown-seated}
use Rattle.machine_laws.proofs.SlotLemmas.{Stands-other, Stands-was, Stands-same, has_not_k, HasMember-was, Stands-before, Stands-last, Stands-cases}

-- what follows on success
pub on_ok : {T E : Type 0} (P Q : Type 0) (result : Result T E) → (P → Q) → OnOk result P → OnOk result Q
on_ok P Q (Ok made) then fact = then fact
on_ok P Q (Err fault) then fact = tt

-- one node alone
only_one : (node other : ℕ) → Contains (node ∷ []) other → node ≡ other
only_one node other (zero, inside, here) = here
only_one node other (suc i, inside, here) = absurd (omega (arith, inside))

-- if nothing changes the rest stays
pub KeepsRest-same : (m : MachineData) → KeepsRest m m
KeepsRest-same m = record { groups = refl; state = refl; last = refl; moves = refl; placed = refl; spare = refl }

-- and what stays twice stays
pub KeepsRest-then : (old mid new : MachineData) → KeepsRest old mid → KeepsRest mid new → KeepsRest old new
KeepsRest-then old mid new first then = record {
  groups = then.groups ∙ first.groups;
  state = then.state ∙ first.state;
  last = then.last ∙ first.last;
  moves = then.moves ∙ first.moves;
  placed = then.placed ∙ first.placed;
  spare = then.spare ∙ first.spare;
}

-- if no part has one of the nodes, nothing is to be cleared
Clears-same : (nodes : List ℕ) (m : MachineData) → ((k node : ℕ) → Contains nodes node → ¬ HasMember m.parts k node) → Clears nodes m m
Clears-same nodes m none = record {
  was = λ k part stands some. stands;
  uses = λ k part stands some. refl;
  stays = λ k part stands free. stands;
  none = none;
  tidy = λ tidy. tidy;
  marks = refl;
  count = refl;
  wide = KeepsKnown-same m.parts m.wide;
  rest = KeepsRest-same m;
}

pub Clears-none : (node : ℕ) (m : MachineData) → ((k : ℕ) → ¬ HasMember m.parts k node) → Clears (node ∷ []) m m
Clears-none node m none = Clears-same (node ∷ []) m (λ k other there has. none k (subst (HasMember m.parts k) (sym (only_one node other there)) has))

-- before the first node nothing is cleared
pub Clears-start : (m : MachineData) → Clears [] m m
Clears-start m = Clears-same [] m (λ k node (i, inside, here) has. omega (arith, inside))

-- a tidy machine is tidy after a part lost its group
IsTidy-vacated : (k : ℕ) (old new : MachineData) → k < length old.parts → Vacates k old new → IsTidy old → IsTidy new
IsTidy-vacated k old new inside vacates tidy =
    let back = λ (l : ℕ) (part : MachinePart) (stands : Stands new.parts l part). subst (λ list. Stands list l part) vacates.parts stands in
    record {
      counted = ap length vacates.uses ∙ length-set old.uses k None ∙ tidy.counted ∙ sym (length-set old.parts k vacates.part) ∙ sym (ap length vacates.parts);
      textless = λ l part stands lacks.
          elim (cases_eq l k) [
            | inl same ↦
                ap (λ list. slice_index_or list l None) vacates.uses
                ∙ ap (λ n. slice_index_or (slice_set old.uses k None) n None) same
                ∙ get_or-set_same old.uses k None None (omega (arith, inside, tidy.counted))
            | inr differs ↦
                ap (λ list. slice_index_or list l None) vacates.uses ∙ get_or-set_other old.uses k l None None differs
                ∙ tidy.textless l part (Stands-was old.parts k vacates.part inside l part differs (back l part stands)) lacks
          ];
      quiet = λ l part stands none.
          elim (cases_eq l k) [
            | inl same ↦
                let is = Stands-same old.parts k vacates.part inside part (subst (λ n. Stands (slice_set old.parts k vacates.part) n part) same (back l part stands)) in
                ap (λ (one : MachinePart). one.reads.items) is ∙ vacates.none.reads
            | inr differs ↦ tidy.quiet l part (Stands-was old.parts k vacates.part inside l part differs (back l part stands)) none
          ];
    }

-- and after a part came behind the others
IsTidy-seated : (members : List ℕ) (old new : MachineData) → Seats members old new → IsTidy old → IsTidy new
IsTidy-seated members old new seats tidy =
    let cases = λ (l : ℕ) (part : MachinePart) (stands : Stands new.parts l part).
    Stands-cases old.parts seats.part l part (subst (λ list. Stands list l part) seats.parts stands) in
    record {
      counted = omega (arith, seats.more_uses, tidy.counted, ap length seats.parts, length_push old.parts seats.part);
      textless = λ l part stands lacks.
          elim (cases l part stands) [
            | inl before ↦ seats.uses l ∙ tidy.textless l part before lacks
            | inr (last, is) ↦ seats.uses l ∙ get_or_past old.uses l None (omega (arith, last, tidy.counted))
          ];
      quiet = λ l part stands none.
          elim (cases l part stands) [
            | inl before ↦ tidy.quiet l part before none
            | inr (last, is) ↦ ap (λ (one : MachinePart). one.reads.items) is ∙ seats.is_new.reads
          ];
    }

-- where the part that has it loses its group, the node is cleared
pub Clears-vacated : (node k : ℕ) (old new : MachineData) → AreApart old.parts → HasMember old.parts k node → Vacates k old new →
    Clears (node ∷ []) old new
Clears-vacated node k old new apart has vacates =
    let inside : k < length old.parts = has.stands.inside in
    let back = λ (l : ℕ) (part : MachinePart) (stands : Stands new.parts l part). subst (λ list. Stands list l part) vacates.parts stands in
    let not_k : (l : ℕ) (part : MachinePart) → Stands new.parts l part → 0 < part.members → l ≢ k =
    λ l part stands some same.
    let is = Stands-same old.parts k vacates.part inside part (subst (λ n. Stands (slice_set old.parts k vacates.part) n part) same (back l part stands)) in
    omega (arith, some, ap (λ (one : MachinePart). one.members) is, vacates.none.members) in
    record {
      was = λ l part stands some. Stands-was old.parts k vacates.part inside l part (not_k l part stands some) (back l part stands);
      uses = λ l part stands some.
          ap (λ list. slice_index_or list l None) vacates.uses ∙ get_or-set_other old.uses k l None None (not_k l part stands some);
      stays = λ l part stands free.
          let differs : l ≢ k = λ same. free node (0, omega arith, refl) (subst (λ n. HasMember old.parts n node) (sym same) has) in
          subst (λ list. Stands list l part) (sym vacates.parts) (Stands-other old.parts k vacates.part inside l part differs stands);
      none = λ l other there held.
          let now = subst (λ n. HasMember new.parts l n) (sym (only_one node other there)) held in
          let in_new = subst (λ list. HasMember list l node) vacates.parts now in
          let was = HasMember-was old.parts k vacates.part inside vacates.none l node in_new in
          has_not_k old.parts k vacates.part inside vacates.none l node in_new (apart l k node was has);
      tidy = IsTidy-vacated k old new inside vacates;
      marks = vacates.marks;
      count = ap length vacates.parts ∙ length-set old.parts k vacates.part;
      wide = vacates.wide;
      rest = vacates.rest;
    }

-- who has a member once nodes are cleared had it before
had : (nodes : List ℕ) (old new : MachineData) → Clears nodes old new → (k other : ℕ) → HasMember new.parts k other → HasMember old.parts k other
had nodes old new clears k other has = record {
  part = has.part;
  stands = clears.was k has.part has.stands (omega (arith, has.member.inside));
  place = has.place;
  member = has.member;
}

module _ (nodes : List ℕ) (node : ℕ) (old mid new : MachineData) (first : Clears nodes old mid) (then : Clears (node ∷ []) mid new) where
  member_was : (k other : ℕ) → HasMember new.parts k other → HasMember mid.parts k other
  member_was = had (node ∷ []) mid new then

  member_before : (k other : ℕ) → HasMember mid.parts k other → HasMember old.parts k other
  member_before = had nodes old mid first

  -- one node more is cleared
  pub Clears-more : Clears (nodes ++ node ∷ []) old new
  Clears-more = record {
    was = λ k part stands some. first.was k part (then.was k part stands some) some;
    uses = λ k part stands some. then.uses k part stands some ∙ first.uses k part (then.was k part stands some) some;
    stays = λ k part stands free.
        let middle = first.stays k part stands (λ other there. free other (Contains-append_left nodes (node ∷ []) other there)) in
        then.stays k part middle (λ other there has.
        let same = only_one node other there in
        free other (subst (Contains (nodes ++ node ∷ [])) same (Contains-push nodes node)) (member_before k other has));
    none = λ k other there has.
        elim (Contains-push_cases nodes node other there) [
          | inl before ↦ first.none k other before (member_was k other has)
          | inr same ↦ then.none k other (0, omega arith, same) has
        ];
    tidy = λ tidy. then.tidy (first.tidy tidy);
    marks = then.marks ∙ first.marks;
    count = then.count ∙ first.count;
    wide = KeepsKnown-then old.parts mid.parts new.parts old.wide mid.wide new.wide (omega (arith, first.count)) (λ k part stands inside some. then.was k part stands some)
        first.wide then.wide;
    rest = KeepsRest-then old mid new first.rest then.rest;
  }

module _ (members : List ℕ) (old mid new : MachineData) (counted : length mid.marks ≡ length mid.parts) (clears : Clears members old mid)
    (seats : Seats members mid new) where
  seated : (k : ℕ) (part : MachinePart) → Stands new.parts k part → Stands mid.parts k part ⊎ ((k ≡ length mid.parts) × (part ≡ seats.part))
  seated k part stands = Stands-cases mid.parts seats.part k part (subst (λ list. Stands list k part) seats.parts stands)

  inside_old : (k : ℕ) (part : MachinePart) → Stands old.parts k part → length mid.parts ≡ length old.parts → k < length mid.parts
  inside_old k part stands same = omega (arith, stands.inside, same)

  -- what is known is known with the part behind the others
  seated_known : KeepsKnown old.parts (mid.parts ++ seats.part ∷ []) old.wide new.wide
  seated_known =
      KeepsKnown-then old.parts mid.parts (mid.parts ++ seats.part ∷ []) old.wide mid.wide new.wide (omega (arith, clears.count))
      (λ k part stands inside some.
      elim (Stands-cases mid.parts seats.part k part stands) [
        | inl before ↦ before
        | inr (last, is) ↦ absurd (omega (arith, last, inside))
      ])
      clears.wide (KeepsKnown-seated mid.parts seats.part mid.wide new.wide seats.wide)

  -- nodes are cleared, and then a part for them is seated
  pub Renews-seated : length mid.parts ≡ length old.parts → Renews members old new
  Renews-seated same_count = record {
    was = λ k part stands some.
        elim (seated k part stands) [
          | inl before ↦ inl (clears.was k part before some)
          | inr (last, is) ↦ inr (last ∙ same_count, subst (IsStalePartOf members) (sym is) seats.is_new)
        ];
    uses = λ k part stands inside some.
        elim (seated k part stands) [
          | inl before ↦ seats.uses k ∙ clears.uses k part before some
          | inr (last, is) ↦ absurd (omega (arith, last, inside, same_count))
        ];
    untold = λ tidy k past.
        let middle = clears.tidy tidy in
        seats.uses k ∙ get_or_past mid.uses k None (omega (arith, past, middle.counted, same_count));
    marks = λ k inside. (
      λ marked.
          elim (marked-push_cases mid.marks k (subst (λ list. IsMarked list k) seats.marks marked)) [
            | inl before ↦ subst (λ list. IsMarked list k) clears.marks before
            | inr last ↦ absurd (omega (arith, last, inside, counted, same_count))
          ],
      λ marked.
          subst (λ list. IsMarked list k) (sym seats.marks) (marked-push mid.marks k (subst (λ list. IsMarked list k) (sym clears.marks) marked)),
    );
    stays = λ k part stands free.
        subst (λ list. Stands list k part) (sym seats.parts) (Stands-before mid.parts seats.part k part (clears.stays k part stands free));
    k = length mid.parts;
    part = seats.part;
    stands = subst (λ list. Stands list (length mid.parts) seats.part) (sym seats.parts) (Stands-last mid.parts seats.part);
    is_new = seats.is_new;
    count = omega (arith, same_count, ap length seats.parts, length_push mid.parts seats.part);
    tidy = λ tidy. IsTidy-seated members mid new seats (clears.tidy tidy);
    wide = subst (λ parts. KeepsKnown old.parts parts old.wide new.wide) (sym seats.parts) seated_known;
    rest = KeepsRest-then old mid new clears.rest seats.rest;
  }
