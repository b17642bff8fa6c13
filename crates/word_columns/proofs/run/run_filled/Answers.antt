-- In each column each output has its rails.
use Rattle.std.proofs.Common.{◌≡◌, ◌<◌, length, map, sym, ap, ◌∙◌, arith}
use Rattle.std.proofs.lemmas.List.{length-map, take_all}
use Rattle.ternary.specs.Tern.{may_one, may_zero}
use Rattle.straight_code.specs.Code.{results, output_state, code_value}
use Rattle.word_columns.specs.Columns.{column_bits}
use Rattle.word_columns.proofs.ColumnLemmas.{length-column_bits}
use Rattle.word_columns.proofs.RunLemmas.{rail_written}
use Rattle.word_columns.proofs.run.run_filled.Goals as goal

pub loop-k-preserved : goal.loop-k-preserved
loop-k-preserved c column input inside_column many begins =
    let code = c.args.code.now in
    let k = c.loop-k.k in
    let states = code_value code input in
    let whole = c.run_uncounted.ensures.ran column input inside_column many begins in
    let counted : length states ≡ length code.outputs = length-map code.outputs (output_state input (results input code.instructions)) in
    let so_far = c.loop-k.invariant column input inside_column many begins in
    let inside : k < length states = omega (arith, counted, c.outputs-k-end.ensures) in (
      rail_written column may_one states c.loop-k.out_hi k c.output_words-hi.result.0 inside (omega arith) (c.output_words-hi.ensures.hi column input inside_column many whole) so_far.0,
      rail_written column may_zero states c.loop-k.out_lo k c.output_words-hi.result.1 inside (omega arith) (c.output_words-hi.ensures.lo column input inside_column many whole) so_far.1,
    )

pub returns : goal.returns
returns c column input inside_column many begins =
    let code = c.args.code.now in
    let states = code_value code input in
    let counted : length states ≡ length code.outputs = length-map code.outputs (output_state input (results input code.instructions)) in
    let last : c.loop-k.k ≡ length code.outputs = omega (arith, c.outputs-k-end.ensures) in
    let done = c.loop-k.invariant column input inside_column many begins in
    let all = take_all c.loop-k.k states (omega (arith, last, counted)) in
    record {
      ones = sym (take_all c.loop-k.k (column_bits column c.loop-k.out_hi) (omega (arith, last, length-column_bits column c.loop-k.out_hi)))
          ∙ done.0 ∙ ap (map may_one) all;
      zeros = sym (take_all c.loop-k.k (column_bits column c.loop-k.out_lo) (omega (arith, last, length-column_bits column c.loop-k.out_lo)))
          ∙ done.1 ∙ ap (map may_zero) all;
    }
