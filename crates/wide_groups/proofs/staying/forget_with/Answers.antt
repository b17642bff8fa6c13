-- One of the nodes is a member of one of them, or none is.
use Rattle.std.proofs.Common.{inl, inr, refl}
use Rattle.wide_groups.proofs.staying.forget_with.Goals as goal

pub returns-then-holds_any : goal.returns-then-holds_any
returns-then-holds_any c = inr (refl, c.holds_any.ensures.0 c.if-holds_any.true)

pub returns-else-holds_any : goal.returns-else-holds_any
returns-else-holds_any c = inl (refl, λ any. absurd (cc (c.holds_any.ensures.1 any, c.if-holds_any.false)))
