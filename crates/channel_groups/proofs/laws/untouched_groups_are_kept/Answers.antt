-- The laws of edits.
use Rattle.channel_groups.proofs.ChangeLemmas.{DifferAt-undo}
use Rattle.channel_groups.proofs.KeptLemmas.{IsKept-untouched}
use Rattle.channel_groups.proofs.laws.untouched_groups_are_kept.Goals as goal

pub returns : goal.returns
returns c = record { differ = DifferAt-undo; kept = IsKept-untouched }
