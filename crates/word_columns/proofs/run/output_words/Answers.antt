-- Both places of the output stand in the array, and in each column they have its rails.
use Rattle.std.proofs.Common.{◌≡◌, ℕ, ◌+◌, ◌*◌, List, length, take, get_or, ap, ◌∙◌, arith}
use Rattle.ternary.specs.declared.tern.Tern.{Tern}
use Rattle.ternary.specs.Tern.{may_one, may_zero}
use Rattle.switch_paths.specs.Switching.{state_at}
use Rattle.straight_code.specs.Code.{settled, results, code_value}
use Rattle.straight_code.specs.Flat.{flat_values}
use Rattle.word_columns.specs.Columns.{is_in_column, column_bits}
use Rattle.straight_code.proofs.RunMappedLemmas.{IsPairWithin}
use Rattle.straight_code.proofs.RunMappedLemmas.{pair_reads}
use Rattle.word_columns.proofs.RunLemmas.{output_in_column}
use Rattle.word_columns.proofs.run.output_words.Goals.{After-index-pair}
use Rattle.word_columns.proofs.run.output_words.Goals as goal

-- where the output is read
reads : (c : After-index-pair) →
    IsPairWithin c.index-pair.result.now (2 + 2 * c.args.code.now.inputs + length c.args.code.now.instructions)
reads c =
    pair_reads c.args.code.now c.dense.result.now c.dense.ensures.flat c.dense.ensures.program c.args.k c.requires.inside
    c.index-pair.result.now c.index-pair.ensures

pub bounds-values-pair : goal.bounds-values-pair
bounds-values-pair c = omega (arith, (reads (goal.at.bounds-values-pair c).After-index-pair).hi, c.requires.values)

pub bounds-values-pair-2 : goal.bounds-values-pair-2
bounds-values-pair-2 c = omega (arith, (reads (goal.at.bounds-values-pair-2 c).After-index-pair).lo, c.requires.values)

-- in a column in which the code ran they have the rails of the output's state
settles : (c : After-index-pair) (column : ℕ) (input : List Tern) → length input ≡ c.args.code.now.inputs →
    take (2 + 2 * c.args.code.now.inputs + length c.args.code.now.instructions) (column_bits column c.args.values.now)
    ≡ flat_values input (results input c.args.code.now.instructions) →
    settled (is_in_column column (get_or c.args.values.now c.index-pair.result.now.hi 0)) (is_in_column column (get_or c.args.values.now c.index-pair.result.now.lo 0))
    ≡ state_at (code_value c.args.code.now input) c.args.k
settles c column input many whole =
    output_in_column c.args.code.now c.dense.result.now c.dense.ensures.flat c.dense.ensures.program c.args.k c.requires.inside
    c.index-pair.result.now c.index-pair.ensures column input c.args.values.now many c.requires.values whole

pub returns-clause-hi : goal.returns-clause-hi
returns-clause-hi c column input inside many whole =
    c.high_word.ensures column inside ∙ ap may_one (settles (goal.at.returns-clause-hi c).After-index-pair column input many whole)

pub returns-clause-lo : goal.returns-clause-lo
returns-clause-lo c column input inside many whole =
    c.low_word.ensures column inside ∙ ap may_zero (settles (goal.at.returns-clause-lo c).After-index-pair column input many whole)
