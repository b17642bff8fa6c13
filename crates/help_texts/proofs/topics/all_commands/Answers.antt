use Rattle.std.proofs.Common.{refl}
use Rattle.help_texts.specs.Texts.{commands}
use Rattle.help_texts.proofs.topics.all_commands.Goals as goal

pub returns : goal.returns
unfolding commands
returns c = refl
