-- The law of small texts.
use Rattle.group_text.proofs.SmallTexts.{texts_small}
use Rattle.group_text.proofs.laws.texts_are_small.Goals as goal

pub returns : goal.returns
returns c = texts_small
