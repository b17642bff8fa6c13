-- Only numbers without a place are added.
use Rattle.std.proofs.Common.{◌≡◌, ◌+◌, ◌-◌, length}
use Rattle.part_steps.proofs.dense.DenseParts.number_up_to.Given as goal

abbrev pub invariant-loop-self : goal.invariant-loop-self
invariant-loop-self l = record {
  codes : l.self.codes ≡ l.fn.self.codes;
  nodes : l.self.nodes ≡ l.fn.self.nodes;
  seats : l.self.seats ≡ l.fn.self.seats;
  known : l.self.known ≡ l.fn.self.known;
}

abbrev pub decreases-loop-self : goal.decreases-loop-self
decreases-loop-self l = l.number + 1 - length l.self.places.items
