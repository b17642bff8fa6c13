-- The used texts from some number on were moved to the front, the last one first.
use Rattle.std.proofs.Common.{◌≡◌, ◌≤◌, length}
use Rattle.analysis_cache.specs.Keeping.{texts_of}
use Rattle.analysis_cache.proofs.UseLemmas.{all_to_front}
use Rattle.kept_parts.proofs.BoundLemmas.{in_use_from}
use Rattle.kept_parts.proofs.uses.TextUses.use_all.Given as goal

abbrev pub invariant-loop-number : goal.invariant-loop-number
invariant-loop-number l = record {
  inside : l.number ≤ length l.self.known;
  texts : texts_of l.kept ≡ all_to_front (in_use_from l.number l.self) (texts_of l.fn.kept);
  bound : l.kept.bound ≡ l.fn.kept.bound;
}

abbrev pub decreases-loop-number : goal.decreases-loop-number
decreases-loop-number l = l.number
