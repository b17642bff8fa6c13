-- Both places of the output stand in the array, and in each column they have its rails.
use Rattle.std.proofs.Common.{subst, sym, ap, ◌∙◌, arith}
use Rattle.std.proofs.lemmas.Result.{err_from_is_err_and}
use Rattle.ternary.specs.Tern.{may_one, may_zero}
use Rattle.straight_code.proofs.RunMappedLemmas.{pair_reads}
use Rattle.truth_columns.proofs.ColumnLemmas.{output_in_column}
use Rattle.truth_columns.proofs.run.output.Goals as goal

pub offset_bounds-values-pair : goal.offset_bounds-values-pair
offset_bounds-values-pair g c =
    let reads = pair_reads c.args.code.now c.dense.result.now c.dense.ensures.flat c.dense.ensures.program c.args.k c.requires.inside c.index-pair.result.now c.index-pair.ensures in
    omega (arith, reads.hi)

pub offset_bounds-values-pair-2 : goal.offset_bounds-values-pair-2
offset_bounds-values-pair-2 g c =
    let reads = pair_reads c.args.code.now c.dense.result.now c.dense.ensures.flat c.dense.ensures.program c.args.k c.requires.inside c.index-pair.result.now c.index-pair.ensures in
    omega (arith, reads.lo)

pub bounds-values-pair : goal.bounds-values-pair
bounds-values-pair g c =
    let reads = pair_reads c.args.code.now c.dense.result.now c.dense.ensures.flat c.dense.ensures.program c.args.k c.requires.inside c.index-pair.result.now c.index-pair.ensures in
    omega (arith, reads.hi)

pub bounds-values-pair-2 : goal.bounds-values-pair-2
bounds-values-pair-2 g c =
    let reads = pair_reads c.args.code.now c.dense.result.now c.dense.ensures.flat c.dense.ensures.program c.args.k c.requires.inside c.index-pair.result.now c.index-pair.ensures in
    omega (arith, reads.lo)

pub settle-requires-clause-one : goal.settle-requires-clause-one
settle-requires-clause-one g c =
    let reads = pair_reads c.args.code.now c.dense.result.now c.dense.ensures.flat c.dense.ensures.program c.args.k c.requires.inside c.index-pair.result.now c.index-pair.ensures in
    subst (g.T.Truths.has c.args.truths.now) (sym c.index-values-pair.is) (c.requires.has _ c.index-values-pair.result (omega (arith, reads.hi)))

pub settle-requires-clause-zero : goal.settle-requires-clause-zero
settle-requires-clause-zero g c =
    let reads = pair_reads c.args.code.now c.dense.result.now c.dense.ensures.flat c.dense.ensures.program c.args.k c.requires.inside c.index-pair.result.now c.index-pair.ensures in
    subst (g.T.Truths.has c.args.truths.now) (sym c.index-values-pair-2.is) (c.requires.has _ c.index-values-pair-2.result (omega (arith, reads.lo)))

pub returns-clause-rails : goal.returns-clause-rails
returns-clause-rails g c = λ column input inside many whole.
    let state = output_in_column c.args.code.now c.dense.result.now c.dense.ensures.flat c.dense.ensures.program c.args.k c.requires.inside
    c.index-pair.result.now c.index-pair.ensures (g.T.Truths.holds c.args.truths.now) column input c.args.values.now
    c.index-values-pair.result c.index-values-pair-2.result many c.requires.room c.index-values-pair.is c.index-values-pair-2.is whole in
    let rails = c.in_ok-rails.ensures.rails column inside in
    (rails.0 ∙ ap may_one state, rails.1 ∙ ap may_zero state)

-- what a fault tells that is passed on is so still
pub returns-in_err-rails-clause-spent : goal.returns-in_err-rails-clause-spent
returns-in_err-rails-clause-spent g c =
    let p = err_from_is_err_and c.from_residual.result c.from_residual.ensures.1 in
    rw (p.1, p.2) c.in_err-rails.ensures.spent
