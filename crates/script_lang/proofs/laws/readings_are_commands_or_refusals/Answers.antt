use Rattle.script_lang.proofs.ReadingLemmas.{reading-named, reading-formed}
use Rattle.script_lang.proofs.laws.readings_are_commands_or_refusals.Goals as goal

pub returns-clause-formed : goal.returns-clause-formed
returns-clause-formed c = reading-formed

pub returns-clause-named : goal.returns-clause-named
returns-clause-named c = reading-named
