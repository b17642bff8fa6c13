-- The notes tell of each node which of 0 and 1 it had in one of the states.
use Rattle.std.proofs.Common.{◌≡◌, ℕ, Bool, ◌<◌, ◌↔◌, inl, inr, ◌⊎◌, List, [], ◌∷◌, length, true, false, IsTrue, refl, sym, ◌∙◌, ap, arith, subst}
use Rattle.std.proofs.lemmas.Bool.{cases_lt}
use Rattle.std.proofs.lemmas.List.{ext_get_or}
use Rattle.ternary.specs.declared.tern.Tern.{Tern}
use Rattle.ternary.specs.declared.tern.Tern.TheVariants.{Zero, One, Unk}
use Rattle.switch_paths.specs.Switching.{state_at}
use Rattle.settling.specs.Passing.{see_all}
use Rattle.state_cover.specs.declared.had.Had.{Had}
use Rattle.state_cover.specs.Cover.{none_had, had_more, had_after, had_at}
use Rattle.state_cover.specs.Laws.{HasIn, TellStates, NotesTellTheStates}
use Rattle.state_cover.proofs.CoverLemmas.{had_after-at, had_after-beyond}

-- a node that has a state more had 0 if it had it before, or has it now
more_zero : (had : Had) (state : Tern) → IsTrue (had_more had state).zero ↔ (IsTrue had.zero ⊎ (state ≡ Zero))
more_zero had Zero = ((λ has. inr refl), (λ either. refl))
more_zero had One = ((λ has. inl has), (λ either. elim either [ inl had ↦ had | inr other ↦ absurd cc ]))
more_zero had Unk = ((λ has. inl has), (λ either. elim either [ inl had ↦ had | inr other ↦ absurd cc ]))

more_one : (had : Had) (state : Tern) → IsTrue (had_more had state).one ↔ (IsTrue had.one ⊎ (state ≡ One))
more_one had Zero = ((λ has. inl has), (λ either. elim either [ inl had ↦ had | inr other ↦ absurd cc ]))
more_one had One = ((λ has. inr refl), (λ either. refl))
more_one had Unk = ((λ has. inl has), (λ either. elim either [ inl had ↦ had | inr other ↦ absurd cc ]))

module _ (flag : Had → Type 0) (value : Tern) (more : (had : Had) (state : Tern) → flag (had_more had state) ↔ (flag had ⊎ (state ≡ value))) where
  -- after one state more
  after_one : (hads : List Had) (states : List Tern) (node : ℕ) →
      flag (had_at (had_after hads states) node) ↔ (flag (had_at hads node) ⊎ ((node < length states) × (state_at states node ≡ value)))
  after_one hads states node = elim (cases_lt node (length states)) [
    | inl inside ↦
        let is = had_after-at hads states node inside in
        let both = more (had_at hads node) (state_at states node) in (
          (λ has. elim (both.0 (subst flag is has)) [ inl before ↦ inl before | inr now ↦ inr (inside, now) ]),
          (λ either. elim either [
            | inl before ↦ subst flag (sym is) (both.1 (inl before))
            | inr now ↦ subst flag (sym is) (both.1 (inr now.1))
          ]),
        )
    | inr outside ↦
        let is = had_after-beyond hads states node (omega (arith, outside)) in (
          (λ has. inl (subst flag is has)),
          (λ either. elim either [
            | inl before ↦ subst flag (sym is) before
            | inr now ↦ absurd (omega (arith, outside, now.0))
          ]),
        )
  ]

  -- after all of them
  after_all : (passed : List (List Tern)) (hads : List Had) (node : ℕ) →
      flag (had_at (see_all had_after hads passed) node) ↔ (flag (had_at hads node) ⊎ HasIn passed node value)
  after_all [] hads node = ((λ has. inl has), (λ either. elim either [ inl before ↦ before | inr never ↦ absurd never ]))
  after_all (states ∷ passed) hads node =
      let one = after_one hads states node in
      let rest = after_all passed (had_after hads states) node in (
        (λ has. elim (rest.0 has) [
          | inl before ↦ elim (one.0 before) [ inl earlier ↦ inl earlier | inr now ↦ inr (inl now) ]
          | inr later ↦ inr (inr later)
        ]),
        (λ either. elim either [
          | inl earlier ↦ rest.1 (inl (one.1 (inl earlier)))
          | inr among ↦ elim among [
            | inl now ↦ rest.1 (inl (one.1 (inr now)))
            | inr later ↦ rest.1 (inr later)
          ]
        ]),
      )

  -- of nodes that had nothing at first
  from_none : (none : flag none_had → ⊥) (passed : List (List Tern)) (node : ℕ) →
      flag (had_at (see_all had_after [] passed) node) ↔ HasIn passed node value
  from_none none passed node =
      let all = after_all passed [] node in (
        (λ has. elim (all.0 has) [ inl before ↦ absurd (none before) | inr among ↦ among ]),
        (λ among. all.1 (inr among)),
      )

pub notes_tell : NotesTellTheStates
notes_tell passed node = (
  from_none (λ had. IsTrue had.zero) Zero more_zero (λ has. absurd cc) passed node,
  from_none (λ had. IsTrue had.one) One more_one (λ has. absurd cc) passed node,
)

-- ---- and there is one list of such notes

same_flag : (a b : Bool) → (IsTrue a ↔ IsTrue b) → a ≡ b
same_flag true true both = refl
same_flag true false both = absurd (cc (both.0 refl))
same_flag false true both = absurd (cc (both.1 refl))
same_flag false false both = refl

both_ways : {A B C : Type 0} → (A ↔ C) → (B ↔ C) → (A ↔ B)
both_ways one two = ((λ a. two.1 (one.0 a)), (λ b. one.1 (two.0 b)))

same_had : (a b : Had) → (IsTrue a.zero ↔ IsTrue b.zero) → (IsTrue a.one ↔ IsTrue b.one) → a ≡ b
same_had a b zero one =
    ap (λ (flag : Bool). record { zero = flag; one = a.one }) (same_flag a.zero b.zero zero)
    ∙ ap (λ (flag : Bool). record { zero = b.zero; one = flag }) (same_flag a.one b.one one)

pub told_once : (passed : List (List Tern)) (hads other : List Had) → length hads ≡ length other → TellStates passed hads → TellStates passed other →
    hads ≡ other
told_once passed hads other count tells also = ext_get_or none_had hads other count (λ node inside.
    same_had (had_at hads node) (had_at other node) (both_ways (tells node).0 (also node).0) (both_ways (tells node).1 (also node).1))
