-- What leads to the entry that was reached goes on to the wanted one over the hops so far, last hop first.
use Rattle.std.proofs.Common.{◌≡◌, ℕ, List, ◌++◌, reverse, Some}
use Rattle.std.specs.Prelude.{slice_get}
use Rattle.why_path.specs.Search.{IsTrail}
use Rattle.why_path.proofs.reasons.trail.Given as goal

abbrev pub invariant-loop-entry : goal.invariant-loop-entry
invariant-loop-entry l = record {
  here : slice_get l.found l.reached ≡ Some l.entry;
  leads : (front : List ℕ) (root : ℕ) → IsTrail l.found l.reached front root →
      IsTrail l.found l.at (front ++ reverse l.hops.items) root;
}

abbrev pub decreases-loop-entry : goal.decreases-loop-entry
decreases-loop-entry l = l.reached
