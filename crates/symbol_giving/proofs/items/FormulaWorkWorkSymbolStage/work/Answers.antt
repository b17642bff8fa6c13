-- The letters are those that the stage makes.
use Rattle.symbol_giving.proofs.LetterLemmas.{columns_more}
use Rattle.symbol_giving.proofs.items.FormulaWorkWorkSymbolStage.work.Goals as goal

pub returns-clause-columns : goal.returns-clause-columns
returns-clause-columns c = columns_more c.args.stage.now c.letters-self.new.self c.letters-self.ensures.makes

pub returns-clause-states : goal.returns-clause-states
returns-clause-states c = c.letters-self.ensures.makes.states

pub returns-clause-serves : goal.returns-clause-serves
returns-clause-serves c = c.letters-self.ensures.serves

pub returns-clause-done : goal.returns-clause-done
returns-clause-done c = record {
  makes = c.letters-self.ensures.makes;
  own = c.letters-self.ensures.own;
  letter = c.letters-self.ensures.letter;
  spent = c.letters-self.ensures.full;
}
