-- What the assignments before this one give is right, and what was made so far is all that was done.
use Rattle.std.proofs.Common.{◌≡◌, ℕ, ◌<◌, ◌++◌, All}
use Rattle.symbol_stage.specs.Given.{GivesLetters, letter_given}
use Rattle.symbol_stage.specs.Stages.{columns_on}
use Rattle.session_meaning.specs.Truths.{letters_in_column}
use Rattle.symbol_giving.specs.Letters.{OnlyMakes}
use Rattle.symbol_giving.specs.Giving.{states_in_column}
use Rattle.symbol_giving.proofs.GivingLemmas.{states_from}
use Rattle.symbol_giving.proofs.giving.all_letters.Given as goal

abbrev pub invariant-loop-own : goal.invariant-loop-own
invariant-loop-own l = record {
  only : OnlyMakes l.fn.session l.session;
  own : All (λ pair. GivesLetters l.session.stage pair.1) l.given.items;
  states : (column : ℕ) → column < columns_on l.fn.session.stage →
      letters_in_column letter_given l.session.stage l.given.items column ++ states_from l.table l.list l.fn.session column l.own-index
      ≡ states_in_column l.table l.list l.fn.session column;
}
