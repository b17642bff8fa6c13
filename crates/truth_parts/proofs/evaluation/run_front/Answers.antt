-- In each column the code runs on the inputs' states, and the outputs have its rails.
use Rattle.std.proofs.Common.{◌≡◌, ◌+◌, ◌*◌, ◌<◌, length, map, take, sym, ap, ◌∙◌, arith}
use Rattle.std.proofs.lemmas.List.{length-map}
use Rattle.switch_paths.specs.Switching.{state_at}
use Rattle.truth_columns.specs.Columns.{values_in}
use Rattle.truth_columns.proofs.ColumnLemmas.{All-kept}
use Rattle.truth_parts.proofs.KeptLemmas.{passed_on}
use Rattle.truth_parts.proofs.evaluation.run_front.Goals as goal

pub write_outputs-requires-clause-high_has : goal.write_outputs-requires-clause-high_has
write_outputs-requires-clause-high_has g c = All-kept _ _ _ _ _ _ c.args.out_hi.now c.run_steps.ensures.kept c.requires.high_has

pub write_outputs-requires-clause-low_has : goal.write_outputs-requires-clause-low_has
write_outputs-requires-clause-low_has g c = All-kept _ _ _ _ _ _ c.args.out_lo.now c.run_steps.ensures.kept c.requires.low_has

pub returns-clause-values_has : goal.returns-clause-values_has
returns-clause-values_has g c = All-kept _ _ _ _ _ _ c.run_steps.new.values c.write_outputs.ensures.kept c.run_steps.ensures.has

pub returns-clause-value : goal.returns-clause-value
returns-clause-value g c = λ column state inside has.
    let nodes = c.args.nodes.now in
    let input = map (state_at state) nodes in
    let many : length input ≡ c.args.code.now.inputs = length-map nodes (state_at state) ∙ c.requires.nodes in
    let begins = ap (λ count. take (2 + 2 * count) (values_in (g.T.Truths.holds c.args.truths.now) column c.fill.new.values)) (sym c.requires.nodes)
    ∙ c.fill.ensures.filled column state inside has in
    let within : column < g.T.Truths.columns c.run_steps.new.truths = omega (arith, inside, c.run_steps.ensures.kept.count) in
    c.in_ok-write_outputs.ensures.written column input within many (c.in_ok-run_steps.ensures.ran column input inside many begins)

pub returns-in_err-run_steps-clause-high_has : goal.returns-in_err-run_steps-clause-high_has
returns-in_err-run_steps-clause-high_has g c = All-kept _ _ _ _ _ _ c.args.out_hi.now c.run_steps.ensures.kept c.requires.high_has

pub returns-in_err-run_steps-clause-low_has : goal.returns-in_err-run_steps-clause-low_has
returns-in_err-run_steps-clause-low_has g c = All-kept _ _ _ _ _ _ c.args.out_lo.now c.run_steps.ensures.kept c.requires.low_has

pub returns-in_err-write_outputs-clause-values_has : goal.returns-in_err-write_outputs-clause-values_has
returns-in_err-write_outputs-clause-values_has g c = All-kept _ _ _ _ _ _ c.run_steps.new.values c.write_outputs.ensures.kept c.run_steps.ensures.has

pub returns-in_err-run_steps-clause-spent : goal.returns-in_err-run_steps-clause-spent
returns-in_err-run_steps-clause-spent g c = passed_on _ c.from_residual.result _ c.from_residual.ensures.1 c.in_err-run_steps.ensures.spent

pub returns-in_err-write_outputs-clause-spent : goal.returns-in_err-write_outputs-clause-spent
returns-in_err-write_outputs-clause-spent g c = passed_on _ c.from_residual-in_err-write_outputs.result _ c.from_residual-in_err-write_outputs.ensures.1 c.in_err-write_outputs.ensures.spent
