-- The level stands behind the others so many times so far, and there is room for those that are left.
use Rattle.std.proofs.Common.{◌≡◌, ◌+◌, ◌≤◌, ◌++◌, replicate, vec_len, vec_capacity}
use Rattle.switch_paths.proofs.graph.push_levels.Given as goal

abbrev pub invariant-loop : goal.invariant-loop
invariant-loop l =
    (l.levels.items ≡ l.fn.levels.items ++ replicate l.counter l.level)
    × (vec_len l.levels + l.count ≤ vec_capacity l.levels + l.counter)
