-- Laws of states: a state is known by its rails, a join has each rail of its parts, and `==` on states is equality.
use Rattle.std.proofs.Common.{◌≡◌, ◌≢◌, Bool, ◌||◌, ◌⊎◌, inl, inr, List, Some, refl, rules}
use Rattle.std.specs.Bool.{Decides}
use Rattle.std.specs.Cmp.Lexicographic.{pointwise, pointwise_decides}
use Rattle.std.proofs.lemmas.Bool.{cases_Bool}
use Rattle.std.proofs.lemmas.Bool.Decides.{not_from_Decides}
use Rattle.ternary.specs.declared.tern.Tern.{Tern}
use Rattle.ternary.specs.declared.tern.Tern.TheVariants.{Zero, One, Unk}
use Rattle.ternary.specs.contracts.tern.TernPartialEq.TheImpl as eq
use Rattle.ternary.specs.Tern.{may_one, may_zero, of_rails, join}

-- a state's rails give the state back
pub of_rails-rails : (t : Tern) → of_rails (may_one t) (may_zero t) ≡ Some t
of_rails-rails Zero = refl
of_rails-rails One = refl
of_rails-rails Unk = refl

-- two states with the same rails are equal
pub same_rails : (s t : Tern) → may_one s ≡ may_one t → may_zero s ≡ may_zero t → s ≡ t
same_rails s t one zero =
    let same : Some s ≡ Some t = cc (of_rails-rails s, of_rails-rails t) in
    cc

-- `==` on states decides whether they are equal
pub tern_eq-Decides : (s t : Tern) → Decides (eq.eq-value.it s t) (s ≡ t)
tern_eq-Decides s t = search rules

-- what a test decides holds or doesn't
decided : {P : Type 0} (test : Bool) → Decides test P → P ⊎ (¬ P)
decided test decides =
    elim (cases_Bool test) [ inl passes ↦ inl (decides.0 passes) | inr fails ↦ inr (not_from_Decides test decides fails) ]

-- two states are the same or not
pub same_or_other : (s t : Tern) → (s ≡ t) ⊎ (s ≢ t)
same_or_other s t = decided (eq.eq-value.it s t) (tern_eq-Decides s t)

-- and so it is with the states of all nodes
pub all_same_or_other : (xs ys : List Tern) → (xs ≡ ys) ⊎ (xs ≢ ys)
all_same_or_other xs ys = decided (pointwise eq.eq-value.it xs ys) (pointwise_decides tern_eq-Decides xs ys)

-- each rail of a join is set if one of the two states sets it
join_rails : (s t : Tern) →
    (may_one (join s t) ≡ (may_one s || may_one t)) × (may_zero (join s t) ≡ (may_zero s || may_zero t))
join_rails Zero Zero = (refl, refl)
join_rails Zero One = (refl, refl)
join_rails Zero Unk = (refl, refl)
join_rails One Zero = (refl, refl)
join_rails One One = (refl, refl)
join_rails One Unk = (refl, refl)
join_rails Unk Zero = (refl, refl)
join_rails Unk One = (refl, refl)
join_rails Unk Unk = (refl, refl)

-- a join may be 1 if one of the two may
pub may_one-join : (s t : Tern) → may_one (join s t) ≡ (may_one s || may_one t)
may_one-join s t = (join_rails s t).0

-- and 0 if one of the two may
pub may_zero-join : (s t : Tern) → may_zero (join s t) ≡ (may_zero s || may_zero t)
may_zero-join s t = (join_rails s t).1

-- the join of a state with itself is that state
pub join-same : (t : Tern) → join t t ≡ t
join-same Zero = refl
join-same One = refl
join-same Unk = refl

-- a state that is joined with another stays or becomes X
pub join-fades : (s t : Tern) → (join s t ≡ s) ⊎ (join s t ≡ Unk)
join-fades Zero Zero = inl refl
join-fades Zero One = inr refl
join-fades Zero Unk = inr refl
join-fades One Zero = inr refl
join-fades One One = inl refl
join-fades One Unk = inr refl
join-fades Unk Zero = inr refl
join-fades Unk One = inr refl
join-fades Unk Unk = inr refl
