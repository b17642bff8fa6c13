-- What was found is kept beside what was looked for.
use Rattle.symbol_stage.proofs.ServingLemmas.{serves_still}
use Rattle.symbol_expecting.proofs.MissingLemmas.{columns_more, states_more}
use Rattle.symbol_expecting.proofs.search.SearchWorkSymbolStage.work.Goals as goal

pub returns-clause-columns : goal.returns-clause-columns
returns-clause-columns c = columns_more c.args.stage.now c.first_missed.new.stage c.first_missed.ensures.makes.makes

pub returns-clause-states : goal.returns-clause-states
returns-clause-states c = states_more c.args.stage.now c.first_missed.new.stage c.first_missed.ensures.makes.makes

pub returns-clause-serves : goal.returns-clause-serves
returns-clause-serves c = λ g.
    let makes = c.first_missed.ensures.makes in
    serves_still c.args.stage.now c.first_missed.new.stage makes.built g (makes.makes.fits g)

pub returns-clause-done : goal.returns-clause-done
returns-clause-done c = record {
  makes = c.first_missed.ensures.makes;
  spent = c.first_missed.ensures.spent;
  first = c.first_missed.ensures.first;
}
