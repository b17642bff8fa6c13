-- The places so far between the rails are listed.
use Rattle.std.proofs.Common.{ℕ, take, Contains}
use Rattle.switch_paths.specs.declared.TheConstants.{GND, VDD}
use Rattle.circuit_lint.specs.Conducting.{IsClosedAcross}
use Rattle.circuit_lint.proofs.starts.direct_starts.Given as goal

abbrev pub invariant-loop-place : goal.invariant-loop-place
invariant-loop-place l = record {
  only : (place : ℕ) → Contains l.starts.items place → IsClosedAcross l.graph place VDD GND;
  all : (place : ℕ) → Contains (take l.place-index l.at_vdd) place → IsClosedAcross l.graph place VDD GND → Contains l.starts.items place;
}
