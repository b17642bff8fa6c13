-- A part leaves its members, and the nodes that it reads.
use Rattle.std.proofs.Common.{◌≡◌, ◌≢◌, ℕ, ◌+◌, ◌<◌, inl, inr, List, [], ◌∷◌, ◌++◌, length, take, get_or, Option, None, sym, ap, subst, ◌∙◌}
use Rattle.std.specs.Prelude.{Contains, slice_index_or, slice_set}
use Rattle.std.proofs.lemmas.Bool.{cases_eq}
use Rattle.std.proofs.lemmas.List.{get_or-set_same, get_or-set_other, length-set, take_more}
use Rattle.std.proofs.lemmas.List.Elements.{Contains-push, Contains-push_cases, Contains-append_left}
use Rattle.machine_laws.specs.Seating.{Disowns}

-- one node more has no owner
pub Disowns-more : (members : List ℕ) (i node : ℕ) (old mid : List (Option ℕ)) → i < length members → node ≡ get_or members i 0 →
    node < length mid → Disowns (take i members) old mid → Disowns (take (i + 1) members) old (slice_set mid node None)
Disowns-more members i node old mid i_inside is inside so_far =
    let more : take (i + 1) members ≡ take i members ++ node ∷ [] = take_more members i 0 i_inside ∙ ap (λ n. take i members ++ n ∷ []) (sym is) in
    subst (λ xs. Disowns xs old (slice_set mid node None)) (sym more) (record {
      count = length-set mid node None ∙ so_far.count;
      gone = λ other there.
          elim (cases_eq other node) [
            | inl same ↦ ap (λ n. slice_index_or (slice_set mid node None) n None) same ∙ get_or-set_same mid node None None inside
            | inr differs ↦
                get_or-set_other mid node other None None differs
                ∙ elim (Contains-push_cases (take i members) node other there) [
                  | inl before ↦ so_far.gone other before
                  | inr same ↦ absurd (differs (sym same))
                ]
          ];
      stays = λ other none.
          let differs : other ≢ node = λ same. none (subst (Contains (take i members ++ node ∷ [])) (sym same) (Contains-push (take i members) node)) in
          get_or-set_other mid node other None None differs
          ∙ so_far.stays other (λ there. none (Contains-append_left (take i members) (node ∷ []) other there));
    })
