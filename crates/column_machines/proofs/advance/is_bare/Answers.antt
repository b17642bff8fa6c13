use Rattle.std.proofs.Common.{sym, true≢false}
use Rattle.column_machines.proofs.advance.is_bare.Goals as goal

pub returns-in-Some : goal.returns-in-Some
returns-in-Some c = (λ is. absurd (true≢false (sym is)), λ bare. absurd (cc (c.in-Some.is, bare.none)))

pub returns-in-None : goal.returns-in-None
returns-in-None c = (
  λ is. record { some = c.has_members.ensures.0 is; none = c.in-None.is },
  λ bare. c.has_members.ensures.1 bare.some,
)
