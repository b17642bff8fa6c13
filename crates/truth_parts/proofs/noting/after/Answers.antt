-- A plain step gives what is given, and a joining one both.
use Rattle.std.proofs.Common.{sym, ap, ◌∙◌}
use Rattle.std.proofs.lemmas.Result.{err_from_is_err_and}
use Rattle.truth_columns.proofs.ColumnLemmas.{AreKept-same}
use Rattle.truth_parts.specs.Noting.{after_rail}
use Rattle.truth_parts.proofs.noting.after.Goals as goal

pub returns-then-not-joining-clause-kept : goal.returns-then-not-joining-clause-kept
returns-then-not-joining-clause-kept g c = AreKept-same _ _ _

pub returns-then-not-joining-clause-value : goal.returns-then-not-joining-clause-value
returns-then-not-joining-clause-value g c = λ column inside.
    let old = g.T.Truths.holds c.args.truths.now c.args.old column in
    let given = g.T.Truths.holds c.args.truths.now c.args.given column in
    ap (λ joining. after_rail joining old given) (sym c.if-not-joining.true)

pub returns-clause-value : goal.returns-clause-value
returns-clause-value g c = λ column inside.
    let old = g.T.Truths.holds c.args.truths.now c.args.old column in
    let given = g.T.Truths.holds c.args.truths.now c.args.given column in
    c.in_ok-made.ensures.value column inside ∙ ap (λ joining. after_rail joining old given) (sym c.if-not-joining.false)

-- what a fault tells that is passed on is so still
pub returns-in_err-made-clause-spent : goal.returns-in_err-made-clause-spent
returns-in_err-made-clause-spent g c =
    let p = err_from_is_err_and c.from_residual.result c.from_residual.ensures.1 in
    rw (p.1, p.2) c.in_err-made.ensures.spent
