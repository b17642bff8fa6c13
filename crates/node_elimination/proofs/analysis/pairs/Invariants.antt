-- The pairs so far.
use Rattle.std.proofs.Common.{◌≡◌, ℕ, ◌<◌, length, Some}
use Rattle.std.specs.Prelude.{slice_get}
use Rattle.bool_pool.specs.declared.gate.Rails.{Rails}
use Rattle.node_elimination.specs.Growth.{place_of}
use Rattle.node_elimination.proofs.analysis.pairs.Given as goal

abbrev pub invariant-loop-k : goal.invariant-loop-k
invariant-loop-k l = record {
  count : length l.answers.items ≡ l.k;
  pairs : (k : ℕ) (rails : Rails) → slice_get l.answers.items k ≡ Some rails →
      (k < l.k) × (rails.hi.place ≡ place_of l.one k) × (rails.lo.place ≡ place_of l.zero k);
}
