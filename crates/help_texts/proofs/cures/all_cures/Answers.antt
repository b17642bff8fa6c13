use Rattle.std.proofs.Common.{refl}
use Rattle.help_texts.specs.Texts.{cures}
use Rattle.help_texts.proofs.cures.all_cures.Goals as goal

pub returns : goal.returns
unfolding cures
returns c = refl
