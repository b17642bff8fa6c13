use Rattle.std.proofs.Common.{◌≡◌, ◌≤◌, ◌+◌, ◌-◌, ◌++◌, map, take, length, vec_len, vec_capacity}
use Rattle.switch_paths.specs.Switching.{state_at}
use Rattle.cosmos_session.proofs.waves.push_column.Given as goal

abbrev pub invariant-loop-node : goal.invariant-loop-node
invariant-loop-node g l = record {
  items : l.values.items ≡ l.initial.values.items ++ map (state_at (g.M.Columns.states l.stage l.column)) (take l.node-index l.nodes);
  room : vec_len l.values + (length l.nodes - l.node-index) ≤ vec_capacity l.values;
  capacity : vec_capacity l.values ≡ vec_capacity l.initial.values;
}
