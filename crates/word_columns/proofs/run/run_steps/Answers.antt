-- In each column each instruction gives its result in the array.
use Rattle.std.proofs.Common.{◌≡◌, ◌+◌, ◌*◌, take, refl, ap, ◌∙◌, arith}
use Rattle.std.proofs.lemmas.List.{take-set-le}
use Rattle.straight_code.specs.Code.{results}
use Rattle.word_columns.specs.Columns.{column_bits}
use Rattle.straight_code.proofs.RunMappedLemmas.{length-steps}
use Rattle.word_columns.proofs.RunLemmas.{front_read, step_written, all_written}
use Rattle.word_columns.proofs.run.run_steps.Goals as goal

pub loop-done-init : goal.loop-done-init
unfolding results
loop-done-init g c = record {
  done = λ column input inside many begins.
      let place : 2 + 2 * c.args.code.now.inputs + 0 ≡ 2 + 2 * c.args.code.now.inputs = omega arith in
      ap (λ count. take count (column_bits column c.args.values.now)) place ∙ begins;
  front = refl;
  steps = omega arith;
}

pub step_words-requires : goal.step_words-requires
step_words-requires g c =
    let read = front_read c.args.code.now c.deref-step-items.result.now (c.deref-step-items.ensures.value ∙ c.dense.ensures.flat.steps)
    c.dense.ensures.program c.inputs.result c.loop-done.done c.loop-done.values c.inputs.ensures (omega arith) (omega arith) in
    record { a = read.a; b = read.b }

pub loop-done-preserved : goal.loop-done-preserved
loop-done-preserved g c = record {
  done = λ column input inside many begins.
      rw c.inputs.ensures
      (step_written c.args.code.now c.deref-step-items.result.now (c.deref-step-items.ensures.value ∙ c.dense.ensures.flat.steps)
      c.dense.ensures.program c.loop-done.done (omega arith) column input c.loop-done.values c.step_words.result many (omega arith)
      (rw c.inputs.ensures at c.step_words.ensures column inside) (c.loop-done.invariant.done column input inside many begins));
  front = take-set-le (2 + 2 * c.args.code.now.inputs) c.loop-done.values _ _ (omega (arith, c.inputs.ensures)) ∙ c.loop-done.invariant.front;
  steps = omega (arith, c.tick.ensures, c.loop-done.invariant.steps);
}

pub returns-clause-ran : goal.returns-clause-ran
returns-clause-ran g c column input inside many begins =
    all_written c.args.code.now c.deref-step-items.result.now (c.deref-step-items.ensures.value ∙ c.dense.ensures.flat.steps)
    c.dense.ensures.program c.loop-done.done column input c.loop-done.values (omega arith)
    (c.loop-done.invariant.done column input inside many begins)

pub returns-clause-steps : goal.returns-clause-steps
returns-clause-steps g c =
    let flat = c.deref-step-items.ensures.value ∙ c.dense.ensures.flat.steps in
    omega (arith, length-steps c.args.code.now c.deref-step-items.result.now flat c.dense.ensures.program, c.loop-done.invariant.steps)
