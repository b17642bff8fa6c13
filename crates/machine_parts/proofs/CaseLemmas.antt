-- Cases: two states are one or not, a mark is set or not, an option is something or nothing.
use Rattle.std.proofs.Common.{◌≡◌, ◌≢◌, Bool, true, false, inl, inr, ◌⊎◌, Option, Some, None, not, refl, sym, ap, ◌∙◌}
use Rattle.std.proofs.lemmas.Bool.{not-false}
use Rattle.ternary.specs.declared.tern.Tern.{Tern}
use Rattle.ternary.specs.declared.tern.Tern.TheVariants.{Zero, One, Unk}
use Rattle.ternary.specs.Tern.{join}
use Rattle.ternary.specs.contracts.tern.TernPartialEq.TheImpl as eq
use Rattle.ternary.proofs.TernLemmas.{tern_eq-Decides}
use Rattle.part_words.specs.Noting.{after}

-- two states are one or not
pub same_or_not : (s t : Tern) → (s ≡ t) ⊎ (s ≢ t)
same_or_not Zero Zero = inl refl
same_or_not Zero One = inr (λ e. absurd (cc))
same_or_not Zero Unk = inr (λ e. absurd (cc))
same_or_not One Zero = inr (λ e. absurd (cc))
same_or_not One One = inl refl
same_or_not One Unk = inr (λ e. absurd (cc))
same_or_not Unk Zero = inr (λ e. absurd (cc))
same_or_not Unk One = inr (λ e. absurd (cc))
same_or_not Unk Unk = inl refl

-- what `!=` says of two states
pub differs_from : (s t : Tern) (answer : Bool) → answer ≡ not (eq.eq-value.it s t) → answer ≡ true → s ≢ t
differs_from s t answer is set same =
    let equal : eq.eq-value.it s t ≡ true = (tern_eq-Decides s t).1 same in
    let unset : answer ≡ false = is ∙ ap not equal in
    absurd (cc)

pub same_from : (s t : Tern) (answer : Bool) → answer ≡ not (eq.eq-value.it s t) → answer ≡ false → s ≡ t
same_from s t answer is unset = (tern_eq-Decides s t).0 (not-false (eq.eq-value.it s t) (sym is ∙ unset))

-- a test is true or not
pub true_or_not : (b : Bool) → (b ≡ true) ⊎ (¬ (b ≡ true))
true_or_not true = inl refl
true_or_not false = inr (λ e. absurd (cc))

-- what isn't nothing is something
pub something : {X : Type 0} (o : Option X) → o ≢ None → (x : X) × (o ≡ Some x)
something None other = absurd (other refl)
something (Some x) other = (x, refl)

-- the join of a state with itself is that state
join-same : (s : Tern) → join s s ≡ s
join-same Zero = refl
join-same One = refl
join-same Unk = refl

-- a node that is given its own state keeps it
pub after-same : (joining : Bool) (s : Tern) → after joining s s ≡ s
after-same true s = join-same s
after-same false s = refl

-- a join that differs from the first state is X
join-differs : (s t : Tern) → join s t ≢ s → join s t ≡ Unk
join-differs Zero Zero other = absurd (other refl)
join-differs Zero One other = refl
join-differs Zero Unk other = refl
join-differs One Zero other = refl
join-differs One One other = absurd (other refl)
join-differs One Unk other = refl
join-differs Unk Zero other = refl
join-differs Unk One other = refl
join-differs Unk Unk other = refl

-- so in a joining step a node that changes becomes X
pub after-differs : (joining : Bool) → joining ≡ true → (s t : Tern) → after joining s t ≢ s → after joining s t ≡ Unk
after-differs true is s t other = join-differs s t other
after-differs false is s t other = absurd (cc)
