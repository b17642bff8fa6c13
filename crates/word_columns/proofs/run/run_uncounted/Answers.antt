-- In each column each instruction gives its result in the array.
use Rattle.std.proofs.Common.{◌≡◌, ◌+◌, ◌*◌, take, ap, ◌∙◌, arith}
use Rattle.straight_code.specs.Code.{results}
use Rattle.word_columns.specs.Columns.{column_bits}
use Rattle.word_columns.proofs.RunLemmas.{front_read, step_written, all_written}
use Rattle.word_columns.proofs.run.run_uncounted.Goals as goal

pub loop-k-init : goal.loop-k-init
unfolding results
loop-k-init c column input inside many begins =
    let place : 2 + 2 * c.args.code.now.inputs + 0 ≡ 2 + 2 * c.args.code.now.inputs = omega arith in
    ap (λ count. take count (column_bits column c.args.values.now)) place ∙ begins

pub step_words-requires : goal.step_words-requires
step_words-requires c =
    let read = front_read c.args.code.now c.deref-step-items.result.now (c.deref-step-items.ensures.value ∙ c.dense.ensures.flat.steps)
    c.dense.ensures.program c.inputs.result c.loop-k.k c.loop-k.values c.inputs.ensures (omega arith) (omega arith) in
    record { a = read.a; b = read.b }

pub loop-k-preserved : goal.loop-k-preserved
loop-k-preserved c column input inside many begins =
    rw c.inputs.ensures
    (step_written c.args.code.now c.deref-step-items.result.now (c.deref-step-items.ensures.value ∙ c.dense.ensures.flat.steps)
    c.dense.ensures.program c.loop-k.k (omega arith) column input c.loop-k.values c.step_words.result many (omega arith)
    (rw c.inputs.ensures at c.step_words.ensures column inside) (c.loop-k.invariant column input inside many begins))

pub returns-clause-ran : goal.returns-clause-ran
returns-clause-ran c column input inside many begins =
    all_written c.args.code.now c.deref-step-items.result.now (c.deref-step-items.ensures.value ∙ c.dense.ensures.flat.steps)
    c.dense.ensures.program c.loop-k.k column input c.loop-k.values (omega arith)
    (c.loop-k.invariant column input inside many begins)
