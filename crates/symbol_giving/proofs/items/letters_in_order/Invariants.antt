-- The letters of the items before this one are right, and what was made so far is all that was done.
use Rattle.std.proofs.Common.{◌≡◌, ℕ, ◌<◌, ◌++◌, All, drop, map}
use Rattle.symbol_stage.specs.Stages.{columns_on}
use Rattle.symbol_meaning.specs.Readings.{letter_under}
use Rattle.symbol_giving.specs.Letters.{IsLetterOf, OnlyMakes, letter_in, named_in}
use Rattle.symbol_giving.proofs.items.letters_in_order.Given as goal

abbrev pub invariant-loop-item : goal.invariant-loop-item
invariant-loop-item l = record {
  only : OnlyMakes l.fn.session l.session;
  letters : (column : ℕ) → column < columns_on l.fn.session.stage →
      map (letter_in l.session.stage column) l.letters.items ++ map (letter_under (named_in l.fn.session.stage l.table column)) (drop l.item-index l.items)
      ≡ map (letter_under (named_in l.fn.session.stage l.table column)) l.items;
  own : All (IsLetterOf l.session.stage) l.letters.items;
}
