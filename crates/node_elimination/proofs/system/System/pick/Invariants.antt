-- The best so far is left; while there is none, nothing of what was passed is left.
use Rattle.std.proofs.Common.{◌≡◌, ℕ, ◌<◌, true, false}
use Rattle.std.specs.Prelude.{IfSome, IsNone}
use Rattle.node_elimination.specs.Equations.{is_left}
use Rattle.node_elimination.proofs.system.System.pick.Given as goal

abbrev pub invariant-loop-i : goal.invariant-loop-i
invariant-loop-i l = record {
  found : IfSome l.best (λ k. (k < l.self.size) × (is_left l.self k ≡ true));
  none : IsNone l.best → (i : ℕ) → i < l.i → is_left l.self i ≡ false;
}
