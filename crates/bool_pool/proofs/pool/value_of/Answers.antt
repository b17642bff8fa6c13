-- Each place that is read is an operand's.
use Rattle.std.proofs.Common.{refl, sym, subst, inl, inr}
use Rattle.bool_pool.specs.Gate.{IsOperand}
use Rattle.bool_pool.proofs.pool.value_of.Goals as goal

pub bounds-done-a : goal.bounds-done-a
bounds-done-a c = c.requires _ (subst (λ gate. IsOperand gate c.in-Not.a.place) (sym c.in-Not.is) refl)

pub bounds-done-a-in-And : goal.bounds-done-a-in-And
bounds-done-a-in-And c = c.requires _ (subst (λ gate. IsOperand gate c.in-And.a.place) (sym c.in-And.is) (inl refl))

pub bounds-done-b : goal.bounds-done-b
bounds-done-b c = c.requires _ (subst (λ gate. IsOperand gate c.in-And.b.place) (sym c.in-And.is) (inr refl))

pub bounds-done-a-in-Or : goal.bounds-done-a-in-Or
bounds-done-a-in-Or c = c.requires _ (subst (λ gate. IsOperand gate c.in-Or.a.place) (sym c.in-Or.is) (inl refl))

pub bounds-done-b-else-done-a-2 : goal.bounds-done-b-else-done-a-2
bounds-done-b-else-done-a-2 c = c.requires _ (subst (λ gate. IsOperand gate c.in-Or.b.place) (sym c.in-Or.is) (inr refl))
