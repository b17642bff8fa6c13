-- A vector's letters are told, and a node's if its value is no formula.
use Rattle.symbol_expecting.proofs.telling.chosen.Goals as goal

pub returns-then-vector : goal.returns-then-vector
returns-then-vector c = λ wanted is. rw c.if-vector.true is

pub returns : goal.returns
returns c = λ wanted is. rw (c.if-vector.false, c.if-formula.false) is
