-- By the lemmas on what is kept after a build.
use Rattle.analysis_cache.proofs.UseLemmas.{each_present}
use Rattle.analysis_cache.proofs.SettleLemmas.{none_is_new_again, kept_after-again}
use Rattle.analysis_cache.proofs.laws.builds_settle.Goals as goal

pub returns : goal.returns
returns c = record { kept = each_present; new = none_is_new_again; same = kept_after-again }
