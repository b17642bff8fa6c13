-- Steps and phases, one after another: what lies behind two lists of them, and what is seen of these.
use Rattle.std.proofs.Common.{◌≡◌, ℕ, List, [], ◌∷◌, ◌++◌, refl, ap, ◌∙◌}
use Rattle.ternary.specs.declared.tern.Tern.{Tern}
use Rattle.settling.specs.Passes.{Pass, state_behind, see_pass, see_passes, last_behind}

-- behind two lists is what is behind the second after the first
pub last_behind-append : (old : List Tern) (front back : List Pass) →
    last_behind old (front ++ back) ≡ last_behind (last_behind old front) back
last_behind-append old [] back = refl
last_behind-append old (pass ∷ front) back = last_behind-append (state_behind pass) front back

-- what is seen of two lists is what is seen of the second after the first
pub see_passes-append : {S : Type 0} → (begin see : S → List Tern → S) (rest : S → ℕ → S) (before : S) (front back : List Pass) →
    see_passes begin see rest before (front ++ back) ≡ see_passes begin see rest (see_passes begin see rest before front) back
see_passes-append begin see rest before [] back = refl
see_passes-append begin see rest before (pass ∷ front) back =
    see_passes-append begin see rest (see_pass begin see rest before pass) front back

-- one is another if all that is told of it is
pub same_pass : (one other : Pass) → one.before ≡ other.before → one.states ≡ other.states → one.steps ≡ other.steps → one ≡ other
same_pass one other before states steps =
    ap (λ (b : List Tern). record one { before = b }) before
    ∙ (ap (λ (s : List (List Tern)). record other { states = s; steps = one.steps }) states
    ∙ ap (λ (n : ℕ). record other { steps = n }) steps)
