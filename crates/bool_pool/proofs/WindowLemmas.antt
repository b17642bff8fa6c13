-- Marks of a window: one is set, and the last one is cut off.
use Rattle.std.proofs.Common.{◌≡◌, ℕ, ◌+◌, ◌-◌, ◌<◌, ◌≤◌, ◌⊎◌, ◌↔◌, inl, inr, ⊎_elim, Bool, true, false, List, [], ◌∷◌, ◌++◌, length, set, Contains, refl, sym, subst, ◌∙◌, arith}
use Rattle.std.specs.Prelude.{replicate, Option, None, Some}
use Rattle.std.specs.Option.{IfNone}
use Rattle.std.proofs.lemmas.Bool.{cases_lt, cases_eq, false≢true}
use Rattle.std.proofs.lemmas.List.{length-replicate, length-append, get_or-set_same, get_or-set_other, get_or-replicate, get_or_push, get_or_append_left, get_or_past}
use Rattle.std.proofs.lemmas.List.Elements.{Contains-append_left, Contains-push, Contains-push_cases}
use Rattle.bool_pool.specs.declared.gate.Gate.{Gate}
use Rattle.bool_pool.specs.declared.gate.Gate.TheVariants.{And, Or}
use Rattle.bool_pool.specs.declared.gate.Id.{Id}
use Rattle.bool_pool.specs.Gate.{IsOperand}
use Rattle.bool_pool.specs.Collecting.{IsMarkedFrom, Waits, IsTakenOut}

-- a place with a mark is one of the window
pub marked_inside : (bottom : ℕ) (marks : List Bool) (place : ℕ) → IsMarkedFrom bottom marks place → place < bottom + length marks
marked_inside bottom marks place marked =
    elim (cases_lt (place - bottom) (length marks)) [
      | inl inside ↦ omega (arith, inside, marked.0)
      | inr outside ↦ absurd (false≢true (sym (get_or_past marks (place - bottom) false (omega arith)) ∙ marked.1))
    ]

-- a window with no mark set
pub none_marked : (bottom size place : ℕ) → ¬ IsMarkedFrom bottom (replicate size false) place
none_marked bottom size place marked =
    elim (cases_lt (place - bottom) size) [
      | inl inside ↦ absurd (false≢true (sym (get_or-replicate size (place - bottom) false false inside) ∙ marked.1))
      | inr outside ↦
          absurd (false≢true (sym (get_or_past (replicate size false) (place - bottom) false (omega (arith, outside, length-replicate size false))) ∙ marked.1))
    ]

-- a mark that stands before the last one
pub IsMarkedFrom-before : (bottom : ℕ) (marks : List Bool) (last : Bool) (k : ℕ) → IsMarkedFrom bottom marks k
    → IsMarkedFrom bottom (marks ++ last ∷ []) k
IsMarkedFrom-before bottom marks last k marked =
    let inside = marked_inside bottom marks k marked in
    (marked.0, get_or_append_left marks (last ∷ []) false (k - bottom) (omega (arith, inside, marked.0)) ∙ marked.1)

-- a mark is the last one or stands before it
pub IsMarkedFrom-cases : (bottom : ℕ) (marks : List Bool) (last : Bool) (k : ℕ) → IsMarkedFrom bottom (marks ++ last ∷ []) k
    → IsMarkedFrom bottom marks k ⊎ ((k ≡ bottom + length marks) × (last ≡ true))
IsMarkedFrom-cases bottom marks last k marked =
    elim (cases_lt (k - bottom) (length marks)) [
      | inl inside ↦ inl (marked.0, sym (get_or_append_left marks (last ∷ []) false (k - bottom) inside) ∙ marked.1)
      | inr outside ↦
          let more = marked_inside bottom (marks ++ last ∷ []) k marked in
          let at : length marks ≡ k - bottom = omega (arith, more, marked.0, outside, length-append marks (last ∷ [])) in
          inr (omega (arith, at, marked.0), sym (get_or_push marks last false (k - bottom) at) ∙ marked.1)
    ]

-- a mark that is not set is cut off
pub IsMarkedFrom-unset : (bottom : ℕ) (marks : List Bool) (k : ℕ) → IsMarkedFrom bottom (marks ++ false ∷ []) k ↔ IsMarkedFrom bottom marks k
IsMarkedFrom-unset bottom marks k = (
  λ marked. ⊎_elim (λ before. before) (λ last. absurd (false≢true last.1)) (IsMarkedFrom-cases bottom marks false k marked),
  IsMarkedFrom-before bottom marks false k,
)

-- a mark that is set is cut off, and its place is taken out
pub IsTakenOut-last : (bottom : ℕ) (marks : List Bool)
    → IsTakenOut (IsMarkedFrom bottom (marks ++ true ∷ [])) (IsMarkedFrom bottom marks) (bottom + length marks)
IsTakenOut-last bottom marks = record {
  each = λ k. (
    λ marked. ⊎_elim (λ before. inl before) (λ last. inr last.0) (IsMarkedFrom-cases bottom marks true k marked),
    ⊎_elim (IsMarkedFrom-before bottom marks true k)
        (λ same. (omega (arith, same), get_or_push marks true false (k - bottom) (omega (arith, same)))),
  );
  below = λ k marked. marked_inside bottom marks k marked;
}

-- one mark more is set
pub IsMarkedFrom-set : (bottom : ℕ) (marks : List Bool) (place k : ℕ) → bottom ≤ place → place < bottom + length marks
    → IsMarkedFrom bottom (set marks (place - bottom) true) k ↔ (IsMarkedFrom bottom marks k ⊎ (k ≡ place))
IsMarkedFrom-set bottom marks place k from inside = (forth, back)
  where
    forth : IsMarkedFrom bottom (set marks (place - bottom) true) k → IsMarkedFrom bottom marks k ⊎ (k ≡ place)
    forth marked =
        elim (cases_eq k place) [
          | inl same ↦ inr same
          | inr other ↦
              inl (
                marked.0,
                sym (get_or-set_other marks (place - bottom) (k - bottom) true false
                    (λ same. other (omega (arith, same, marked.0, from)))) ∙ marked.1,
              )
        ]

    here : IsMarkedFrom bottom (set marks (place - bottom) true) place
    here = (from, get_or-set_same marks (place - bottom) true false (omega (arith, from, inside)))

    back : IsMarkedFrom bottom marks k ⊎ (k ≡ place) → IsMarkedFrom bottom (set marks (place - bottom) true) k
    back (inl marked) =
        elim (cases_eq k place) [
          | inl same ↦ subst (IsMarkedFrom bottom (set marks (place - bottom) true)) (sym same) here
          | inr other ↦ (
            marked.0,
            get_or-set_other marks (place - bottom) (k - bottom) true false
                (λ same. other (omega (arith, same, marked.0, from))) ∙ marked.1,
          )
        ]
    back (inr same) = subst (IsMarkedFrom bottom (set marks (place - bottom) true)) (sym same) here

-- the last of the older ones gets a mark: the same places wait
pub Waits-marked : (older rest : List ℕ) (bottom : ℕ) (marks : List Bool) (place k : ℕ) → older ≡ rest ++ place ∷ [] → bottom ≤ place
    → place < bottom + length marks → Waits rest bottom (set marks (place - bottom) true) k ↔ Waits older bottom marks k
Waits-marked older rest bottom marks place k is from inside =
    let each = IsMarkedFrom-set bottom marks place k from inside in (
      ⊎_elim
          (λ held. inl (subst (λ all. Contains all k) (sym is) (Contains-append_left rest (place ∷ []) k held)))
          (λ marked. ⊎_elim (λ before. inr before)
          (λ same. inl (subst (λ all. Contains all k) (sym is) (subst (Contains (rest ++ place ∷ [])) (sym same) (Contains-push rest place))))
          (each.0 marked)),
      ⊎_elim
          (λ held. ⊎_elim (λ other. inl other) (λ same. inr (each.1 (inr (sym same))))
          (Contains-push_cases rest place k (subst (λ all. Contains all k) is held)))
          (λ marked. inr (each.1 (inl marked))),
    )

-- a gate with two operands has these
pub operand_of_two : (gate : Gate) (a b : Id) (place : ℕ) → (gate ≡ And a b) ⊎ (gate ≡ Or a b)
    → (place ≡ a.place) ⊎ (place ≡ b.place) → IsOperand gate place
operand_of_two gate a b place (inl is) operand = subst (λ g. IsOperand g place) (sym is) operand
operand_of_two gate a b place (inr is) operand = subst (λ g. IsOperand g place) (sym is) operand

-- and no other
operand_is_one : (gate : Gate) (a b : Id) (place : ℕ) → (gate ≡ And a b) ⊎ (gate ≡ Or a b) → IsOperand gate place
    → (place ≡ a.place) ⊎ (place ≡ b.place)
operand_is_one gate a b place (inl is) operand = subst (λ g. IsOperand g place) is operand
operand_is_one gate a b place (inr is) operand = subst (λ g. IsOperand g place) is operand

-- its two operands wait, one after the other
pub waits_two : (gate : Gate) (a b : Id) (k : ℕ) (old middle new : Type 0) → (gate ≡ And a b) ⊎ (gate ≡ Or a b)
    → (middle ↔ (old ⊎ (k ≡ a.place))) → (new ↔ (middle ⊎ (k ≡ b.place))) → new ↔ (old ⊎ IsOperand gate k)
waits_two gate a b k old middle new is first second = (
  λ held. ⊎_elim
      (λ before. ⊎_elim (λ was. inl was) (λ same. inr (operand_of_two gate a b k is (inl same))) (first.0 before))
      (λ same. inr (operand_of_two gate a b k is (inr same)))
      (second.0 held),
  ⊎_elim
      (λ was. second.1 (inl (first.1 (inl was))))
      (λ operand. ⊎_elim (λ same. second.1 (inl (first.1 (inr same)))) (λ same. second.1 (inr same)) (operand_is_one gate a b k is operand)),
)

-- the greatest of the older ones is taken out, and the others wait
pub IsTakenOut-older : (older rest : List ℕ) (bottom : ℕ) (marks : List Bool) (place : ℕ) (after : ℕ → Type 0)
    → older ≡ rest ++ place ∷ [] → ((k : ℕ) → Contains rest k → k < place) → ((k : ℕ) → ¬ IsMarkedFrom bottom marks k)
    → ((k : ℕ) → after k ↔ Contains rest k) → IsTakenOut (Waits older bottom marks) after place
IsTakenOut-older older rest bottom marks place after is below none each = record {
  each = λ k. (
    ⊎_elim
        (λ held. ⊎_elim (λ other. inl ((each k).1 other)) (λ same. inr (sym same))
        (Contains-push_cases rest place k (subst (λ all. Contains all k) is held)))
        (λ marked. absurd (none k marked)),
    ⊎_elim
        (λ other. inl (subst (λ all. Contains all k) (sym is) (Contains-append_left rest (place ∷ []) k ((each k).0 other))))
        (λ same. inl (subst (λ all. Contains all k) (sym is) (subst (Contains (rest ++ place ∷ [])) (sym same) (Contains-push rest place)))),
  );
  below = λ k other. below k ((each k).0 other);
}

-- the last place with a mark is above the older ones
pub IsTakenOut-marked : (older : List ℕ) (bottom : ℕ) (before after : List Bool) (place : ℕ)
    → ((k : ℕ) → Contains older k → k < bottom) → bottom ≤ place → IsTakenOut (IsMarkedFrom bottom before) (IsMarkedFrom bottom after) place
    → IsTakenOut (Waits older bottom before) (Waits older bottom after) place
IsTakenOut-marked older bottom before after place apart from out = record {
  each = λ k. (
    ⊎_elim (λ held. inl (inl held)) (λ marked. ⊎_elim (λ still. inl (inr still)) (λ same. inr same) ((out.each k).0 marked)),
    ⊎_elim
        (⊎_elim (λ held. inl held) (λ still. inr ((out.each k).1 (inl still))))
        (λ same. inr ((out.each k).1 (inr same))),
  );
  below = λ k. ⊎_elim (λ held. omega (arith, apart k held, from)) (out.below k);
}

-- what is the same as the same is the same
pub ↔-trans : {A B C : Type 0} → (A ↔ B) → (B ↔ C) → A ↔ C
↔-trans first second = (λ a. second.0 (first.0 a), λ c. first.1 (second.1 c))

-- where no mark is set, the older ones wait
pub Waits-unmarked : (older : List ℕ) (bottom size : ℕ) (marks : List Bool) (k : ℕ) → marks ≡ replicate size false
    → Waits older bottom marks k ↔ Contains older k
Waits-unmarked older bottom size marks k is = (
  ⊎_elim (λ held. held) (λ marked. absurd (none_marked bottom size k (subst (λ all. IsMarkedFrom bottom all k) is marked))),
  λ held. inl held,
)

-- the same of a window with no place
pub Waits-none : (older : List ℕ) (bottom : ℕ) (marks : List Bool) (k : ℕ) → marks ≡ [] → Waits older bottom marks k ↔ Contains older k
Waits-none older bottom marks k is = Waits-unmarked older bottom 0 marks k is

-- what holds if nothing was found holds, since no place was
pub none_found : (found : Option ℕ) (P : Type 0) → ((place : ℕ) → ¬ (found ≡ Some place)) → IfNone found P → P
none_found None P not holds = holds
none_found (Some place) P not holds = absurd (not place refl)
