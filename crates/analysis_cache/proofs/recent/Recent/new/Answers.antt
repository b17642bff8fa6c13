-- No text is kept twice if there is none.
use Rattle.analysis_cache.proofs.TableLemmas.{IsKept-none}
use Rattle.analysis_cache.proofs.recent.Recent.new.Goals as goal

pub invariant_of-result : goal.invariant_of-result
invariant_of-result c = (IsKept-none, tt)
