-- The law of texts.
use Rattle.group_text.proofs.WellFormedTexts.{well_formed}
use Rattle.group_text.proofs.laws.texts_are_well_formed.Goals as goal

pub returns : goal.returns
returns c = well_formed
