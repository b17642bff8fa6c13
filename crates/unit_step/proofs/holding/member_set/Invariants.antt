-- The members of the parts so far are in.
use Rattle.std.proofs.Common.{◌≡◌, ℕ, take, length}
use Rattle.std.specs.Prelude.{◌↔◌}
use Rattle.vicinity.specs.NodeSets.{IsIn}
use Rattle.unit_step.specs.Holding.{IsOfThese}
use Rattle.unit_step.proofs.holding.member_set.Given as goal

abbrev pub invariant-loop-k : goal.invariant-loop-k
invariant-loop-k l = record {
  count : length l.set.inside ≡ l.nodes;
  members : (node : ℕ) → IsIn l.set.inside node ↔ IsOfThese l.parts (take l.k-index l.these) node;
}
