-- Those of the parts so far are held.
use Rattle.std.proofs.Common.{All, take}
use Rattle.machine_laws.specs.Finishing.{first_node}
use Rattle.wide_groups.specs.Staying.{HoldsNode}
use Rattle.unit_step.proofs.holding.holds_all.Given as goal

abbrev pub invariant-loop-k : goal.invariant-loop-k
invariant-loop-k l = All (λ k. HoldsNode l.wide (first_node l.parts k)) (take l.k-index l.these)
