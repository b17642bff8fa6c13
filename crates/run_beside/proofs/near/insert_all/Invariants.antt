-- The nodes so far are in.
use Rattle.std.proofs.Common.{◌≡◌, ℕ, List, ◌++◌, take}
use Rattle.std.specs.Prelude.{Contains}
use Rattle.machine_parts.specs.Marking.{MarksAll}
use Rattle.run_beside.proofs.near.insert_all.Given as goal

abbrev pub invariant-loop-node : goal.invariant-loop-node
invariant-loop-node l = record {
  marks : MarksAll (Contains (take l.node-index l.nodes)) l.fn.set.inside l.set.inside;
  list : (more : List ℕ) × (l.set.list ≡ l.fn.set.list ++ more);
}
