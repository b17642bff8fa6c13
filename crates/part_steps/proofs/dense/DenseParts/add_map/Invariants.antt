-- The nodes so far came behind the others.
use Rattle.std.proofs.Common.{◌≡◌, ◌++◌, take}
use Rattle.part_steps.proofs.dense.DenseParts.add_map.Given as goal

abbrev pub invariant-loop-node : goal.invariant-loop-node
invariant-loop-node l = record {
  codes : l.self.codes ≡ l.fn.self.codes;
  seats : l.self.seats ≡ l.fn.self.seats;
  known : l.self.known ≡ l.fn.self.known;
  nodes : l.self.nodes.items ≡ l.fn.self.nodes.items ++ take l.node-index l.map;
}
