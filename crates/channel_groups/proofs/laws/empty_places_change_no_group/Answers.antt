-- The law of empty places.
use Rattle.channel_groups.proofs.EditLemmas.{AreOf-empty_place}
use Rattle.channel_groups.proofs.laws.empty_places_change_no_group.Goals as goal

pub returns : goal.returns
returns c = AreOf-empty_place
