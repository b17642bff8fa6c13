-- The count stays at the last value of its type, and nothing else is touched.
use Rattle.std.proofs.Common.{◌≡◌, ℕ, refl, ap, rules}
use Rattle.session_meaning.specs.Effects.{one_more}
use Rattle.session_meaning.proofs.StayingLemmas.{held_beside, session_of}
use Rattle.cosmos_session.proofs.session.Session.count_line.Goals as goal

pub invariant_of-self : goal.invariant_of-self
invariant_of-self g c =
    let held = c.self.invariant.0 in
    let session = session_of c.self.invariant.0 in (
      held_beside g.M.Columns.columns g.M.Columns.states g.M.Columns.serves session session.stage c.saturating_add-self-inside.result session.core.kept refl
          held.some held.sound held.served held,
      c.self.invariant.1,
    )

pub returns-clause-core : goal.returns-clause-core
returns-clause-core g c =
    let core = (session_of c.self.invariant.0).core in
    let counted : c.saturating_add-self-inside.result ≡ one_more core.count = search rules in
    rw (← c.self.view_is) (ap (λ (n : ℕ). record core { count = n }) counted)

pub returns-clause-stage : goal.returns-clause-stage
returns-clause-stage g c = rw (← c.self.view_is) refl

pub returns-clause-fits : goal.returns-clause-fits
returns-clause-fits g c = rw (← c.self.view_is) (λ fits. fits)
