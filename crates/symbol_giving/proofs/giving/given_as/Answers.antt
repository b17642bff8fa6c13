-- A letter that is the same in all columns is made so, and that of a truth value is the stage's own.
use Rattle.std.proofs.Common.{Some, refl, ap}
use Rattle.ternary.specs.declared.tern.Tern.{Tern}
use Rattle.symbol_giving.specs.Letters.{IsTruthLetter}
use Rattle.symbol_giving.proofs.giving.given_as.Goals as goal

pub returns-in-Any-clause-letter : goal.returns-in-Any-clause-letter
returns-in-Any-clause-letter c = λ column inside. rw c.in-Any.is refl

pub returns-in-Same-clause-letter : goal.returns-in-Same-clause-letter
returns-in-Same-clause-letter c = λ column inside. rw c.in-Same.is (ap (λ (state : Tern). Some state) (c.alike.ensures.letter column inside))

pub returns-in-Truth-clause-own : goal.returns-in-Truth-clause-own
returns-in-Truth-clause-own c =
    let is : IsTruthLetter c.args.stage.now c.in-Truth.own = rw c.in-Truth.is at c.requires in
    is.own

pub returns-in-Truth-clause-letter : goal.returns-in-Truth-clause-letter
returns-in-Truth-clause-letter c = λ column inside. rw c.in-Truth.is refl
