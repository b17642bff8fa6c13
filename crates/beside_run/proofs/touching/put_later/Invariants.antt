-- Of the parts so far those behind the first so many are in.
use Rattle.std.proofs.Common.{◌≡◌, ℕ, ◌<◌, ◌≤◌, length}
use Rattle.vicinity.specs.NodeSets.{IsIn}
use Rattle.beside_run.proofs.touching.put_later.Given as goal

abbrev pub invariant-loop-k : goal.invariant-loop-k
invariant-loop-k l = record {
  counted : length l.set.inside ≡ length l.fn.set.inside;
  all : (n : ℕ) → l.count ≤ n → n < l.k → IsIn l.set.inside n;
  only : (n : ℕ) → IsIn l.set.inside n → l.count ≤ n;
  from : l.count ≤ l.k;
}
