-- Parts that are put apart, and parts that go back.
use Rattle.std.proofs.Common.{◌≡◌, ℕ, ◌+◌, ◌<◌, ◌≤◌, inl, inr, ◌↔◌, Bool, true, List, [], ◌∷◌, ◌++◌, length, take, get_or, Some, sym, ap, subst, ◌∙◌, arith}
use Rattle.std.specs.Prelude.{Contains, Option, slice_set}
use Rattle.std.proofs.lemmas.List.{length-set, take_all, take_more}
use Rattle.std.proofs.lemmas.List.Elements.{Contains-append_left, Contains-push, Contains-push_cases}
use Rattle.ternary.specs.declared.tern.Tern.{Tern}
use Rattle.machine_parts.specs.Marking.{IsMarked, MarksAll}
use Rattle.machine_parts.specs.Parts.{HasMember, ReadsAt}
use Rattle.machine_parts.proofs.SetMarks.{marked-set, marked-stays, marked-set_cases}
use Rattle.machine_laws.specs.Machines.{MachineData}
use Rattle.beside.specs.Laws.{GoBack, PutsApart}
use Rattle.beside.specs.Returning.{MayGoBack, GoesBack, ReturnsSoFar}

-- the owner and the readers of a node are the parts that it concerns
pub puts_apart : (m : MachineData) (node : ℕ) (owner : Option ℕ) (readers : List ℕ) (old mid new : List Bool) →
    ((k : ℕ) → (owner ≡ Some k) ↔ HasMember m.parts k node) → ((k : ℕ) → Contains readers k ↔ ReadsAt m.parts k node) →
    MarksAll (λ k. owner ≡ Some k) old mid → MarksAll (Contains readers) mid new → PutsApart m node old new
puts_apart m node owner readers old mid new owned read first then = record {
  count = then.count ∙ first.count;
  stays = λ k was. then.stays k (first.stays k was);
  set = λ k concerns. elim concerns [
    | inl has ↦ then.stays k (first.set k ((owned k).1 has))
    | inr reads ↦ then.set k ((read k).1 reads)
  ];
  only = λ k is. elim (then.only k is) [
    | inr there ↦ inr (inr ((read k).0 there))
    | inl before ↦ elim (first.only k before) [ inl was ↦ inl was | inr own ↦ inr (inl ((owned k).0 own)) ]
  ];
}

-- the owner is put in
pub owner_marked : (owner : Option ℕ) (k : ℕ) (marks : List Bool) → owner ≡ Some k → k < length marks → MarksAll (λ j. owner ≡ Some j) marks (slice_set marks k true)
owner_marked owner k marks is inside = record {
  count = length-set marks k true;
  stays = λ j was. marked-stays marks k j was;
  set = λ j own.
      let same : k ≡ j = cc (is, own) in
      subst (IsMarked (slice_set marks k true)) same (marked-set marks k inside);
  only = λ j marked. elim (marked-set_cases marks k j marked) [ inl was ↦ inl was | inr same ↦ inr (is ∙ ap Some (sym same)) ];
}

-- none was looked at yet
pub Returns-start : (touched : List Bool) (m : MachineData) (good : List Tern) (list : List ℕ) (kept : List Bool) → ((k : ℕ) → ¬ IsMarked kept k) →
    ReturnsSoFar touched m good list 0 kept
Returns-start touched m good list kept empty = record {
  only = λ k is. absurd (empty k is);
  back = λ k there out. absurd (omega (arith, there.1));
}

-- one part more
pub Returns-more : (touched : List Bool) (m : MachineData) (good : List Tern) (list : List ℕ) (i k : ℕ) (old new : List Bool) → i < length list → k ≡ get_or list i 0 →
    ReturnsSoFar touched m good list i old → GoesBack touched m good k old new → ReturnsSoFar touched m good list (i + 1) new
Returns-more touched m good list i k old new inside is so_far one =
    let more : take (i + 1) list ≡ take i list ++ k ∷ [] = take_more list i 0 inside ∙ ap (λ x. take i list ++ x ∷ []) (sym is) in
    record {
      only = λ l is_in. subst (λ xs. Contains xs l) (sym more) (elim (one.only l is_in) [
        | inl was ↦ Contains-append_left (take i list) (k ∷ []) l (so_far.only l was)
        | inr same ↦ subst (Contains (take i list ++ k ∷ [])) (sym same) (Contains-push (take i list) k)
      ]);
      back = λ l there out. elim (Contains-push_cases (take i list) k l (subst (λ xs. Contains xs l) more there)) [
        | inl before ↦ so_far.back l before (λ was. out (one.stays l was))
        | inr same ↦ subst (MayGoBack touched m good) same (one.back (λ is_in. out (subst (IsMarked new) same is_in)))
      ];
    }

-- a part is kept
pub kept_part : (touched : List Bool) (m : MachineData) (good : List Tern) (k : ℕ) (kept : List Bool) → k < length kept →
    GoesBack touched m good k kept (slice_set kept k true)
kept_part touched m good k kept inside = record {
  count = length-set kept k true;
  stays = λ l was. marked-stays kept k l was;
  only = λ l is. marked-set_cases kept k l is;
  back = λ out. absurd (out (marked-set kept k inside));
}

-- once all were looked at, those that aren't kept go back
pub goes_back_all : (touched : List Bool) (m : MachineData) (good : List Tern) (apart : List Bool) (list : List ℕ) (i : ℕ) (kept : List Bool) → length list ≤ i →
    ((k : ℕ) → IsMarked apart k → Contains list k) → ((k : ℕ) → Contains list k → IsMarked apart k) → length kept ≡ length apart →
    ReturnsSoFar touched m good list i kept → GoBack touched m good apart kept
goes_back_all touched m good apart list i kept past listed only counted so_far =
    let all : take i list ≡ list = take_all i list past in
    let back : (k : ℕ) → IsMarked apart k → (¬ IsMarked kept k) → MayGoBack touched m good k =
    λ k was out. so_far.back k (subst (λ xs. Contains xs k) (sym all) (listed k was)) out in
    record {
      count = counted;
      fewer = λ k is. only k (subst (λ xs. Contains xs k) all (so_far.only k is));
      untouched = λ k was out. (back k was out).untouched;
      unmarked = λ k was out. (back k was out).unmarked;
      agreed = λ k was out. (back k was out).agreed;
    }
