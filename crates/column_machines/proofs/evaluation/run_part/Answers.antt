-- What the code gives stands at the front of the outputs.
use Rattle.std.proofs.Common.{arith}
use Rattle.std.proofs.lemmas.List.{with_items_is}
use Rattle.column_machines.proofs.evaluation.run_part.Goals as goal

pub run_columns-requires-clause-highs : goal.run_columns-requires-clause-highs
run_columns-requires-clause-highs c = rw c.deref_mut.ensures.value c.requires.outs

pub run_columns-requires-clause-lows : goal.run_columns-requires-clause-lows
run_columns-requires-clause-lows c = rw (c.deref_mut.ensures.value, c.deref_mut-2.ensures.value) c.requires.rails

pub returns-clause-gives : goal.returns-clause-gives
returns-clause-gives c = λ part stands.
    let high = with_items_is c.args.workspace.now.out_hi c.run_columns.new.out_hi
    (omega (arith, c.run_columns.auto.out_hi, c.deref_mut.ensures.len)) in
    let low = with_items_is c.args.workspace.now.out_lo c.run_columns.new.out_lo
    (omega (arith, c.run_columns.auto.out_lo, c.deref_mut-2.ensures.len)) in
    rw (high, low) (c.run_columns.ensures.gives part stands)
