use Rattle.std.proofs.Common.{◌≡◌, drop}
use Rattle.session_meaning.specs.Refusals.{first_refusal, clock_refusal}
use Rattle.cosmos_session.proofs.refusals.cycle_refusal.Given as goal

abbrev pub invariant-loop-clock : goal.invariant-loop-clock
invariant-loop-clock l =
    first_refusal (clock_refusal l.circuit) (drop l.clock-index l.clocks) ≡ first_refusal (clock_refusal l.circuit) l.clocks
