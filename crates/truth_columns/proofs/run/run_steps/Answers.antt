-- In each column each instruction gives its result in the array.
use Rattle.std.proofs.Common.{◌≡◌, ◌+◌, ◌*◌, ◌<◌, take, refl, ap, ◌∙◌, arith}
use Rattle.std.proofs.lemmas.Result.{err_from_is_err_and}
use Rattle.straight_code.specs.Code.{results}
use Rattle.truth_columns.specs.Columns.{values_in}
use Rattle.truth_columns.proofs.ColumnLemmas.{front_read, all_there, ran_more, all_written, AreKept-trans, AreKept-same}
use Rattle.truth_columns.proofs.run.run_steps.Goals as goal

pub loop-k-init : goal.loop-k-init
unfolding results
loop-k-init g c = record {
  kept = AreKept-same (g.T.Truths.columns c.args.truths.now) (g.T.Truths.has c.args.truths.now) (g.T.Truths.holds c.args.truths.now);
  bound = refl;
  has = c.requires.has;
  ran = λ column input inside many begins.
      let place : 2 + 2 * c.args.code.now.inputs + 0 ≡ 2 + 2 * c.args.code.now.inputs = omega arith in
      ap (λ count. take count (values_in (g.T.Truths.holds c.args.truths.now) column c.args.values.now)) place ∙ begins;
}

pub perform_step-requires-clause-a : goal.perform_step-requires-clause-a
perform_step-requires-clause-a g c =
    (front_read c.args.code.now c.deref-step-items.result.now (c.deref-step-items.ensures.value ∙ c.dense.ensures.flat.steps) c.dense.ensures.program
    (g.T.Truths.columns c.loop-k.truths) (g.T.Truths.columns c.loop-k.truths) (g.T.Truths.has c.loop-k.truths) (g.T.Truths.has c.loop-k.truths)
    (g.T.Truths.holds c.loop-k.truths) (g.T.Truths.holds c.loop-k.truths) (AreKept-same _ _ _) c.loop-k.values c.loop-k.invariant.has
    c.inputs.result c.loop-k.k c.inputs.ensures (omega arith) (omega arith)).a

pub perform_step-requires-clause-b : goal.perform_step-requires-clause-b
perform_step-requires-clause-b g c =
    (front_read c.args.code.now c.deref-step-items.result.now (c.deref-step-items.ensures.value ∙ c.dense.ensures.flat.steps) c.dense.ensures.program
    (g.T.Truths.columns c.loop-k.truths) (g.T.Truths.columns c.loop-k.truths) (g.T.Truths.has c.loop-k.truths) (g.T.Truths.has c.loop-k.truths)
    (g.T.Truths.holds c.loop-k.truths) (g.T.Truths.holds c.loop-k.truths) (AreKept-same _ _ _) c.loop-k.values c.loop-k.invariant.has
    c.inputs.result c.loop-k.k c.inputs.ensures (omega arith) (omega arith)).b

pub loop-k-preserved : goal.loop-k-preserved
loop-k-preserved g c =
    let old = c.loop-k.truths in
    let new = c.perform_step.new.truths in
    let steps = c.deref-step-items.result.now in
    let flat = c.deref-step-items.ensures.value ∙ c.dense.ensures.flat.steps in
    record {
      kept = AreKept-trans _ _ _ _ _ _ _ _ _ c.loop-k.invariant.kept c.perform_step.ensures.kept;
      bound = c.perform_step.ensures.bound ∙ c.loop-k.invariant.bound;
      has = all_there c.args.code.now steps flat c.dense.ensures.program (g.T.Truths.columns old) (g.T.Truths.columns new) (g.T.Truths.has old) (g.T.Truths.has new)
          (g.T.Truths.holds old) (g.T.Truths.holds new) c.perform_step.ensures.kept c.loop-k.values c.loop-k.invariant.has
          c.inputs.result c.loop-k.k c.inputs.ensures (omega arith) (omega arith) c.in_ok-made.made c.in_ok-made.ensures.has;
      ran = λ column input inside many begins.
          let within : column < g.T.Truths.columns old = omega (arith, c.loop-k.invariant.kept.count, inside) in
          ran_more c.args.code.now steps flat c.dense.ensures.program (g.T.Truths.columns old) (g.T.Truths.columns new) (g.T.Truths.has old) (g.T.Truths.has new)
          (g.T.Truths.holds old) (g.T.Truths.holds new) c.perform_step.ensures.kept c.loop-k.values c.loop-k.invariant.has
          c.inputs.result c.loop-k.k c.inputs.ensures (omega arith) (omega arith) column input c.in_ok-made.made within many
          (c.in_ok-made.ensures.value column within) (c.loop-k.invariant.ran column input inside many begins);
    }

pub returns-clause-ran : goal.returns-clause-ran
returns-clause-ran g c = λ column input inside many begins.
    all_written c.args.code.now c.deref-step-items.result.now (c.deref-step-items.ensures.value ∙ c.dense.ensures.flat.steps) c.dense.ensures.program
    c.loop-k.k input (values_in (g.T.Truths.holds c.loop-k.truths) column c.loop-k.values) (omega arith) (c.loop-k.invariant.ran column input inside many begins)

-- what a fault tells that is passed on is so still
pub returns-in_err-made-clause-spent : goal.returns-in_err-made-clause-spent
returns-in_err-made-clause-spent g c =
    let p = err_from_is_err_and c.from_residual.result c.from_residual.ensures.1 in
    rw (p.1, p.2) c.in_err-made.ensures.spent
