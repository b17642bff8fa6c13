-- The function that is made is the variable's.
use Rattle.symbol_session.proofs.StartLemmas.{stand_more}
use Rattle.symbol_session.proofs.starting.name_variable.Goals as goal

pub returns-in-Ok-clause-stand : goal.returns-in-Ok-clause-stand
returns-in-Ok-clause-stand c =
    stand_more c.args.stage.now.machine c.variable.new.self.machine c.args.k c.args.names.now c.add.new.self c.args.name.now c.in_ok-function.function
    c.in_ok-function.ensures.makes c.requires.stand c.in-Ok.ensures.ok c.in_ok-function.ensures.inside c.in_ok-function.ensures.value
