-- What is a stage's own for nodes to be given stays so, from one call to the next.
use Rattle.std.proofs.Common.{◌≡◌, ℕ, ◌<◌, refl, sym, subst, ◌∙◌}
use Rattle.ternary.specs.declared.tern.Tern.{Tern}
use Rattle.column_stage.specs.Truths.{KeepsGiven}

module _ {M A : Type 0} (columns : M → ℕ) (gives : M → A → Type 0) (letter_of : M → A → ℕ → Tern) (bound : M → ℕ) where
  -- nothing was done
  pub keeps_none : (stage : M) → KeepsGiven columns gives letter_of bound stage stage
  keeps_none stage = record { own = λ given is. is; same = λ given column is inside. refl; bounded = refl }

  -- and more was
  pub keeps_more : (old mid new : M) → columns mid ≡ columns old → KeepsGiven columns gives letter_of bound old mid → KeepsGiven columns gives letter_of bound mid new →
      KeepsGiven columns gives letter_of bound old new
  keeps_more old mid new count first later = record {
    own = λ given is. later.own given (first.own given is);
    same = λ given column is inside.
        later.same given column (first.own given is) (subst (λ (n : ℕ). column < n) (sym count) inside) ∙ first.same given column is inside;
    bounded = later.bounded ∙ first.bounded;
  }
