-- What the nodes before this one are given.
use Rattle.std.proofs.Common.{◌≡◌, ℕ, ◌<◌, ◌++◌, All, drop}
use Rattle.node_values.specs.Givings.{states_given}
use Rattle.symbol_stage.specs.Given.{GivesLetters, letter_given}
use Rattle.symbol_stage.specs.Stages.{columns_on}
use Rattle.session_meaning.specs.Truths.{letters_in_column}
use Rattle.symbol_giving.specs.Letters.{pairs_in}
use Rattle.symbol_giving.proofs.giving.add_given.Given as goal

abbrev pub invariant-loop-node : goal.invariant-loop-node
invariant-loop-node l = record {
  own : All (λ pair. GivesLetters l.stage pair.1) l.given.items;
  states : (column : ℕ) → column < columns_on l.stage →
      letters_in_column letter_given l.stage l.given.items column ++ states_given (pairs_in l.stage (drop l.node-index l.pairs) column)
      ≡ letters_in_column letter_given l.stage l.fn.given.items column ++ states_given (pairs_in l.stage l.pairs column);
}
