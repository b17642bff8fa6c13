-- The texts from some noted node on that no part has were moved to the front, the last one first.
use Rattle.std.proofs.Common.{◌≡◌, ◌≤◌, length, drop}
use Rattle.analysis_cache.specs.Keeping.{texts_of}
use Rattle.group_analysis.specs.Held.{set_of}
use Rattle.group_analysis.specs.Using.{used_texts}
use Rattle.unit_step.specs.LastTexts.{texts_left}
use Rattle.unit_step.proofs.last_texts.LastTexts.use_leavers.Given as goal

abbrev pub invariant-loop-place : goal.invariant-loop-place
invariant-loop-place l = record {
  inside : l.place ≤ length l.self.changed.items;
  texts : texts_of l.kept ≡ used_texts (texts_left l.uses l.self.numbers.items (drop l.place l.self.changed.items)) (texts_of l.fn.kept);
  set : set_of (texts_of l.kept) ≡ set_of (texts_of l.fn.kept);
  bound : l.kept.bound ≡ l.fn.kept.bound;
}

abbrev pub decreases-loop-place : goal.decreases-loop-place
decreases-loop-place l = l.place
