use Rattle.std.proofs.Common.{refl}
use Rattle.help_texts.specs.Texts.{symbolic_cures}
use Rattle.help_texts.proofs.cures.all_symbolic_cures.Goals as goal

pub returns : goal.returns
unfolding symbolic_cures
returns c = refl
