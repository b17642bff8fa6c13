-- The nodes up to this one are there.
use Rattle.std.proofs.Common.{ℕ, ◌≡◌, ◌+◌, ◌-◌, ◌<◌, ◌≤◌, ◌++◌, List, length, replicate, vec_len, vec_capacity}
use Rattle.ternary.specs.declared.tern.Tern.{Tern}
use Rattle.ternary.specs.declared.tern.Tern.TheVariants.{Unk}
use Rattle.word_columns.specs.Columns.{AreRailsIn}
use Rattle.column_machines.proofs.rails.grow_rails.Given as goal

abbrev pub invariant-loop-node : goal.invariant-loop-node
invariant-loop-node l = record {
  has : (column : ℕ) (state : List Tern) → column < 64 → AreRailsIn column l.initial.rails.hi.items l.initial.rails.lo.items state →
      AreRailsIn column l.rails.hi.items l.rails.lo.items (state ++ replicate (l._node - length state) Unk);
  highs : vec_len l.rails.hi ≡ l._node;
  lows : vec_len l.rails.lo ≡ l._node;
  high : vec_len l.rails.hi + (l.nodes - l._node) ≤ vec_capacity l.rails.hi;
  low : vec_len l.rails.lo + (l.nodes - l._node) ≤ vec_capacity l.rails.lo;
  from : vec_len l.initial.rails.hi ≤ l._node;
  to : l._node - vec_len l.initial.rails.hi ≤ l.nodes - vec_len l.initial.rails.hi;
}
