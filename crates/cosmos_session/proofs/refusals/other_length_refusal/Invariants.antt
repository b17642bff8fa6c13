use Rattle.std.proofs.Common.{◌≡◌, ℕ, List, length, drop, Some, None, if◌then◌else◌}
use Rattle.std.specs.Prelude.{◌==◌}
use Rattle.ternary.specs.declared.tern.Tern.{Tern}
use Rattle.session_meaning.specs.declared.fault.Refusal.TheVariants.{ClockLength}
use Rattle.session_meaning.specs.Refusals.{first_refusal}
use Rattle.cosmos_session.proofs.refusals.other_length_refusal.Given as goal

abbrev pub invariant-loop-states : goal.invariant-loop-states
invariant-loop-states l =
    let refusal = (λ (other : List ℕ × List Tern). if length other.1 == l.count then None else Some ClockLength) in
    first_refusal refusal (drop l.states-index l.others) ≡ first_refusal refusal l.others
