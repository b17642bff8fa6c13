use Rattle.session_meaning.proofs.UniqueEffects.{effect_unique, performs_one}
use Rattle.session_meaning.proofs.laws.commands_have_one_effect.Goals as goal

pub returns-clause-effect : goal.returns-clause-effect
returns-clause-effect c = effect_unique

pub returns-clause-performed : goal.returns-clause-performed
returns-clause-performed c = performs_one
