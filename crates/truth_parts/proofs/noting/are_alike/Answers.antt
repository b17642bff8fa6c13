-- If rails aren't the same, there is a column in which they differ.
use Rattle.std.proofs.Common.{sym, ◌∙◌, true≢false}
use Rattle.std.proofs.lemmas.Bool.{OnTrue_from}
use Rattle.truth_parts.specs.Noting.{AreAlike}
use Rattle.truth_parts.proofs.NotingLemmas.{some_column}
use Rattle.truth_parts.proofs.noting.are_alike.Goals as goal

pub returns-then-not-same-clause-unlike : goal.returns-then-not-same-clause-unlike
returns-then-not-same-clause-unlike g c = λ _.
    let holds = g.T.Truths.holds c.args.truths.now in
    let (column, inside, other) = some_column (g.T.Truths.columns c.args.truths.now) (holds c.args.hi) (holds c.args.old_hi)
    (λ all. true≢false (sym (c.same.ensures.1 all) ∙ c.if-not-same.true)) in
    record { column = column; inside = inside; other = λ both. other both.0 }

pub returns-clause-alike : goal.returns-clause-alike
returns-clause-alike g c =
    let columns = g.T.Truths.columns c.args.truths.now in
    let holds = g.T.Truths.holds c.args.truths.now in
    OnTrue_from _ (AreAlike columns holds c.args.hi c.args.lo c.args.old_hi c.args.old_lo)
    (λ yes. record { high = c.same.ensures.0 c.if-not-same.false; low = c.same-2.ensures.0 yes })

pub returns-clause-unlike : goal.returns-clause-unlike
returns-clause-unlike g c = λ differs.
    let holds = g.T.Truths.holds c.args.truths.now in
    let (column, inside, other) = some_column (g.T.Truths.columns c.args.truths.now) (holds c.args.lo) (holds c.args.old_lo)
    (λ all. true≢false (sym (c.same-2.ensures.1 all) ∙ differs)) in
    record { column = column; inside = inside; other = λ both. other both.1 }
