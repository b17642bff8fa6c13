-- In a joining step each part stays marked, in a plain one a stale part.
use Rattle.std.proofs.Common.{inl, inr, refl, sym, ◌∙◌, true≢false}
use Rattle.column_machines.proofs.advance.stays_on.Goals as goal

pub returns-then-joining : goal.returns-then-joining
returns-then-joining c = (λ is. inl c.if-joining.true, λ either. refl)

pub returns : goal.returns
returns c = (
  λ is. inr (c.is_bare.ensures.0 is),
  λ either.
      elim either [
        | inl is ↦ absurd (true≢false (sym is ∙ c.if-joining.false))
        | inr bare ↦ c.is_bare.ensures.1 bare
      ],
)
