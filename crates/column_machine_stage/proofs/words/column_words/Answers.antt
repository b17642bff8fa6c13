use Rattle.std.proofs.Common.{◌≡◌, length, subst, arith}
use Rattle.column_machine_stage.specs.Stages.{HasValuesBelow}
use Rattle.column_machine_stage.proofs.ColumnLemmas.{HasValuesBelow-more}
use Rattle.column_machine_stage.proofs.words.column_words.Goals as goal

pub loop-column-init : goal.loop-column-init
loop-column-init c = λ column inside. absurd (omega (arith, inside))

pub loop-column-preserved : goal.loop-column-preserved
loop-column-preserved c =
    HasValuesBelow-more c.args.states.now c.loop-column.column c.loop-column.words c.with_bit.result c.with_bit-in-loop-column.result c.may_one.result c.may_zero.result
    (omega arith) c.loop-column.invariant c.may_one.ensures c.may_zero.ensures c.with_bit.ensures.here c.with_bit.ensures.other
    c.with_bit-in-loop-column.ensures.here c.with_bit-in-loop-column.ensures.other

pub returns : goal.returns
returns c =
    let end : c.loop-column.column ≡ length c.args.states.now = omega arith in
    subst (λ count. HasValuesBelow count c.args.states.now c.loop-column.words) end c.loop-column.invariant
