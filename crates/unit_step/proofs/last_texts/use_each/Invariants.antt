-- The texts from some place on were moved to the front, the last one first.
use Rattle.std.proofs.Common.{◌≡◌, ◌≤◌, length, drop}
use Rattle.analysis_cache.specs.Keeping.{texts_of}
use Rattle.group_analysis.specs.Using.{used_texts}
use Rattle.unit_step.specs.LastTexts.{texts_numbered}
use Rattle.unit_step.proofs.last_texts.use_each.Given as goal

abbrev pub invariant-loop-place : goal.invariant-loop-place
invariant-loop-place l = record {
  inside : l.place ≤ length l.numbers;
  texts : texts_of l.kept ≡ used_texts (texts_numbered l.uses.known (drop l.place l.numbers)) (texts_of l.fn.kept);
  bound : l.kept.bound ≡ l.fn.kept.bound;
}

abbrev pub decreases-loop-place : goal.decreases-loop-place
decreases-loop-place l = l.place
