-- The function is kept beside the nodes.
use Rattle.symbol_stage.proofs.ServingLemmas.{serves_still}
use Rattle.symbol_expecting.proofs.MissingLemmas.{columns_more, states_more}
use Rattle.symbol_session.proofs.missing.MissingWorkSymbolStage.work.Goals as goal

pub missed_or-self-requires-clause-pairs : goal.missed_or-self-requires-clause-pairs
missed_or-self-requires-clause-pairs c = c.requires.0

pub missed_or-self-requires-clause-before : goal.missed_or-self-requires-clause-before
missed_or-self-requires-clause-before c = c.requires.1

pub returns-clause-columns : goal.returns-clause-columns
returns-clause-columns c = columns_more c.args.stage.now c.missed_or-self.new.stage c.missed_or-self.ensures.makes

pub returns-clause-states : goal.returns-clause-states
returns-clause-states c = states_more c.args.stage.now c.missed_or-self.new.stage c.missed_or-self.ensures.makes

pub returns-clause-serves : goal.returns-clause-serves
returns-clause-serves c = λ g.
    serves_still c.args.stage.now c.missed_or-self.new.stage c.missed_or-self.ensures.built g (c.missed_or-self.ensures.makes.fits g)

pub returns-clause-done : goal.returns-clause-done
returns-clause-done c = c.missed_or-self.ensures
