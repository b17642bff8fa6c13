-- Parts lose their codes before a machine has them, one by one.
use Rattle.std.proofs.Common.{◌≡◌, ◌≢◌, append-nil, ℕ, ◌+◌, ◌<◌, ◌⊎◌, Bool, true, false, cond, inl, inr, List, [], ◌∷◌, ◌++◌, Option, Some, None, Vec, Global, refl, sym, ap, subst, ◌∙◌, arith, true≢false}
use Rattle.std.specs.Prelude.{Contains, is_some, slice_get, slice_index, slice_set}
use Rattle.std.proofs.lemmas.Bool.{cases_eq}
use Rattle.std.proofs.lemmas.List.{length-set}
use Rattle.std.proofs.lemmas.List.Elements.{Contains-push, Contains-push_cases, Contains-append_left}
use Rattle.std.proofs.lemmas.Option.{slice_get_within}
use Rattle.machine_parts.specs.declared.part.MachinePart.{MachinePart}
use Rattle.part_steps.proofs.PuttingLemmas.{set_here, set_other}
use Rattle.vicinity.specs.Wides.{WideData}
use Rattle.wide_groups.specs.Staying.{HoldsNode}
use Rattle.machine_laws.specs.Finishing.{IsLoosened, Loosens}

-- if no group is stepped by vicinities, no node is a member of one
pub none_holds : (wide : Option WideData) → wide ≡ None → (node : ℕ) → ¬ HoldsNode wide node
none_holds wide none node holds =
    let inside : node < 0 = (subst (λ (known : Option WideData). HoldsNode known node) none holds).inside in
    omega (arith, inside)

-- if no part loses its code, all stay
pub Loosens-same : (parts : List MachinePart) → Loosens parts parts
Loosens-same parts = record {
  count = refl;
  each = λ i was now at_was at_now.
      let both : Some now ≡ Some was = sym at_now ∙ at_was in
      let same : now ≡ was = cc in
      inl same;
}

-- a part that loses its code or stays has its map
pub same_map : (part now : MachinePart) → (now ≡ part) ⊎ IsLoosened part now → now.map ≡ part.map
same_map part now then =
    elim then [
      | inl same ↦ ap (λ (one : MachinePart). one.map) same
      | inr loosened ↦ loosened.map
    ]

-- a part that has lost its code can do so again
loosened_then : (was mid now : MachinePart) → (mid ≡ was) ⊎ IsLoosened was mid → IsLoosened mid now → IsLoosened was now
loosened_then was mid now before loosened =
    elim before [
      | inl same ↦ record {
        code = loosened.code;
        map = loosened.map ∙ ap (λ (part : MachinePart). part.map) same;
        members = loosened.members ∙ ap (λ (part : MachinePart). part.members) same;
        reads = loosened.reads;
      }
      | inr first ↦ record {
        code = loosened.code;
        map = loosened.map ∙ first.map;
        members = loosened.members ∙ first.members;
        reads = loosened.reads;
      }
    ]

loosens_then : (was mid now : MachinePart) → (mid ≡ was) ⊎ IsLoosened was mid → (now ≡ mid) ⊎ IsLoosened mid now → (now ≡ was) ⊎ IsLoosened was now
loosens_then was mid now before then =
    elim then [
      | inr loosened ↦ inr (loosened_then was mid now before loosened)
      | inl same ↦ subst (λ (one : MachinePart). (one ≡ was) ⊎ IsLoosened was one) (sym same) before
    ]

-- so one part more loses its code or stays
pub Loosens-set : (old mid : List MachinePart) (k : ℕ) (part now : MachinePart) → slice_get mid k ≡ Some part → (now ≡ part) ⊎ IsLoosened part now → Loosens old mid →
    Loosens old (slice_set mid k now)
Loosens-set old mid k part now at then so_far = record {
  count = length-set mid k now ∙ so_far.count;
  each = λ i was new at_was at_new.
      elim (cases_eq i k) [
        | inl same ↦
            let within = slice_get_within mid k part at in
            let both : Some new ≡ Some now = sym at_new ∙ (ap (slice_get (slice_set mid k now)) same ∙ set_here mid k now within) in
            let is : new ≡ now = cc in
            let before = so_far.each i was part at_was (ap (slice_get mid) same ∙ at) in
            subst (λ (one : MachinePart). (one ≡ was) ⊎ IsLoosened was one) (sym is) (loosens_then was part now before then)
        | inr differs ↦ so_far.each i was new at_was (sym (set_other mid k i now differs) ∙ at_new)
      ];
}

-- of the parts up to a place none has code whose group is stepped by vicinities
abbrev pub LoosensUpTo : Option WideData → ℕ → List MachinePart → Type 0
LoosensUpTo wide place parts =
    (i : ℕ) (part : MachinePart) → i < place → slice_get parts i ≡ Some part → HoldsNode wide (slice_index part.map.items 0) → part.code ≡ None

-- so it is with the next part
pub up_to-set : (wide : Option WideData) (place : ℕ) (parts : List MachinePart) (part now : MachinePart) → slice_get parts place ≡ Some part →
    (now ≡ part) ⊎ IsLoosened part now → (HoldsNode wide (slice_index part.map.items 0) → now.code ≡ None) → LoosensUpTo wide place parts →
    LoosensUpTo wide (place + 1) (slice_set parts place now)
up_to-set wide place parts part now at then held so_far i one before at_i holds =
    elim (cases_eq i place) [
      | inl same ↦
          let within = slice_get_within parts place part at in
          let both : Some one ≡ Some now = sym at_i ∙ (ap (slice_get (slice_set parts place now)) same ∙ set_here parts place now within) in
          let is : one ≡ now = cc in
          let map_is : one.map ≡ part.map = ap (λ (it : MachinePart). it.map) is ∙ same_map part now then in
          ap (λ (it : MachinePart). it.code) is ∙ held (subst (λ (map : Vec ℕ Global). HoldsNode wide (slice_index map.items 0)) map_is holds)
      | inr differs ↦ so_far i one (omega (arith, before, differs)) (sym (set_other parts place i now differs) ∙ at_i) holds
    ]

-- what is added to a list, or isn't
pub added : (add : Bool) (k : ℕ) (old new : List ℕ) (n : ℕ) → new ≡ old ++ cond add (k ∷ []) [] → Contains new n → Contains old n ⊎ ((add ≡ true) × (k ≡ n))
added true k old new n is there =
    elim (Contains-push_cases old k n (subst (λ xs. Contains xs n) is there)) [
      | inl before ↦ inl before
      | inr same ↦ inr (refl, same)
    ]
added false k old new n is there = inl (subst (λ xs. Contains xs n) (is ∙ append-nil old) there)

pub added_stays : (add : Bool) (k : ℕ) (old new : List ℕ) (n : ℕ) → new ≡ old ++ cond add (k ∷ []) [] → Contains old n → Contains new n
added_stays add k old new n is there = subst (λ xs. Contains xs n) (sym is) (Contains-append_left old (cond add (k ∷ []) []) n there)

pub added_itself : (add : Bool) (k : ℕ) (old new : List ℕ) → new ≡ old ++ cond add (k ∷ []) [] → add ≡ true → Contains new k
added_itself true k old new is adds = subst (λ xs. Contains xs k) (sym is) (Contains-push old k)
added_itself false k old new is adds = absurd (true≢false (sym adds))

-- something is there if it isn't nothing
pub is_there : {X : Type 0} (found : Option X) → is_some found ≡ true → found ≢ None
is_there None is none = absurd cc
is_there (Some x) is none = absurd cc

pub there_is : {X : Type 0} (found : Option X) → found ≢ None → is_some found ≡ true
there_is None some = absurd (some refl)
there_is (Some x) some = refl
