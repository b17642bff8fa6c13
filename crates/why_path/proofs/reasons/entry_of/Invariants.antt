-- No entry so far is for the node.
use Rattle.std.proofs.Common.{◌≡◌, ℕ, ◌<◌, Some}
use Rattle.std.specs.Prelude.{slice_get}
use Rattle.why_path.specs.declared.search.Found.{Found}
use Rattle.why_path.proofs.reasons.entry_of.Given as goal

abbrev pub invariant-loop-at : goal.invariant-loop-at
invariant-loop-at l = (k : ℕ) (entry : Found) → k < l.at → slice_get l.found k ≡ Some entry → ¬ (entry.node ≡ l.node)
