-- The states of the columns before this one are there, column by column.
use Rattle.std.proofs.Common.{◌≡◌, ℕ, ◌<◌, ◌*◌, length, map, vec_capacity}
use Rattle.switch_paths.specs.Switching.{state_at}
use Rattle.told_lines.specs.Rows.{values_at}
use Rattle.cosmos_session.proofs.waves.push_columns.Given as goal

abbrev pub invariant-loop-column : goal.invariant-loop-column
invariant-loop-column g l = record {
  end : l.column-end ≡ g.M.Columns.columns l.stage;
  count : length l.values.items ≡ l.column * length l.nodes;
  each : (past : ℕ) → past < l.column → values_at (length l.nodes) l.values.items past ≡ map (state_at (g.M.Columns.states l.stage past)) l.nodes;
  capacity : vec_capacity l.values ≡ vec_capacity l.initial.values;
}
