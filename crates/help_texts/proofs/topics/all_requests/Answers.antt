use Rattle.std.proofs.Common.{refl}
use Rattle.help_texts.specs.Texts.{requests}
use Rattle.help_texts.proofs.topics.all_requests.Goals as goal

pub returns : goal.returns
unfolding requests
returns c = refl
