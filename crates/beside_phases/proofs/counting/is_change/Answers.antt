-- Each way.
use Rattle.std.proofs.Common.{inl, inr}
use Rattle.std.proofs.lemmas.Bool.{OnTrue_from, OnFalse_from}
use Rattle.beside_phases.proofs.counting.is_change.Goals as goal

pub returns-then-follows-clause-yes : goal.returns-then-follows-clause-yes
returns-then-follows-clause-yes c = OnTrue_from c.args.follows _ (λ set. inl set)

pub returns-else-follows-clause-yes : goal.returns-else-follows-clause-yes
returns-else-follows-clause-yes c = OnTrue_from c.args.moved _ (λ set. inr set)

pub returns-then-follows-clause-no : goal.returns-then-follows-clause-no
returns-then-follows-clause-no c = OnFalse_from c.args.follows _ (λ unset. absurd (cc (c.if-follows.true, unset)))

pub returns-else-follows-clause-no : goal.returns-else-follows-clause-no
returns-else-follows-clause-no c = OnFalse_from c.args.moved _ (λ unset. (c.if-follows.false, unset))
