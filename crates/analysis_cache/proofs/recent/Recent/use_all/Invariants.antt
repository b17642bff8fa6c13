-- The texts from some place on were moved to the front, the last one first.
use Rattle.std.proofs.Common.{◌≡◌, ◌≤◌, Contains, length, drop}
use Rattle.analysis_cache.specs.Keeping.{Entry, entry_texts}
use Rattle.analysis_cache.proofs.UseLemmas.{all_to_front}
use Rattle.analysis_cache.proofs.recent.Recent.use_all.Given as goal

abbrev pub invariant-loop-left : goal.invariant-loop-left
invariant-loop-left l =
    record {
      inside : l.left ≤ length l.texts;
      texts : entry_texts l.self ≡ all_to_front (drop l.left l.texts) (entry_texts l.fn.self);
      same : (entry : Entry) → Contains l.self entry → Contains l.fn.self entry;
    }

abbrev pub decreases-loop-left : goal.decreases-loop-left
decreases-loop-left l = l.left
