-- The states of the nodes before this one.
use Rattle.std.proofs.Common.{◌≡◌, take}
use Rattle.symbol_comparing.specs.Rails.{letters_in, rails_seen}
use Rattle.symbol_comparing.specs.Words.{column_with}
use Rattle.symbol_comparing.proofs.rails.letters.Given as goal

abbrev pub invariant-loop-k : goal.invariant-loop-k
invariant-loop-k l = l.states.items ≡ take l.k (letters_in l.symbols (rails_seen l.rails) (column_with l.symbols l.vars))
