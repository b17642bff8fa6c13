-- In each column each output has its rails.
use Rattle.std.proofs.Common.{◌≡◌, ℕ, ◌+◌, ◌*◌, ◌<◌, length, map, take, refl, ap, ◌∙◌, subst, arith}
use Rattle.std.proofs.lemmas.Result.{err_from_is_err_and}
use Rattle.std.proofs.lemmas.List.{length-map, take_all}
use Rattle.std.proofs.lemmas.List.Elements.{All-set}
use Rattle.ternary.specs.Tern.{may_one, may_zero}
use Rattle.straight_code.specs.Code.{results, output_state, code_value}
use Rattle.straight_code.specs.Flat.{flat_values}
use Rattle.truth_columns.specs.Columns.{values_in, HasColumn}
use Rattle.truth_columns.proofs.ColumnLemmas.{All-kept, AreKept-same, AreKept-trans, rail_written, values_in-kept, values_in-take}
use Rattle.truth_columns.proofs.outputs.write_outputs.Goals as goal

pub loop-k-init : goal.loop-k-init
loop-k-init g c = record {
  kept = AreKept-same (g.T.Truths.columns c.args.truths.now) (g.T.Truths.has c.args.truths.now) (g.T.Truths.holds c.args.truths.now);
  bound = refl;
  high_has = c.requires.high_has;
  low_has = c.requires.low_has;
  written = λ column input inside many whole. (refl, refl);
}

pub output-requires-clause-has : goal.output-requires-clause-has
output-requires-clause-has g c =
    All-kept _ _ _ _ _ _ c.args.values.now c.loop-k.invariant.kept c.requires.has

pub loop-k-preserved : goal.loop-k-preserved
loop-k-preserved g c =
    let mid = c.loop-k.truths in
    let new = c.output.new.truths in
    let so_far = c.loop-k.invariant in
    let kept = c.output.ensures.kept in
    let code = c.args.code.now in
    let k = c.loop-k.k in
    let rails = c.in_ok-rails.rails in
    let end : ℕ = 2 + 2 * code.inputs + length code.instructions in
    record {
      kept = AreKept-trans _ _ _ _ _ _ _ _ _ so_far.kept kept;
      bound = c.output.ensures.bound ∙ so_far.bound;
      high_has = All-set (g.T.Truths.has new) c.loop-k.out_hi k rails.0 c.in_ok-rails.ensures.has.0
          (All-kept _ _ _ _ _ _ c.loop-k.out_hi kept so_far.high_has);
      low_has = All-set (g.T.Truths.has new) c.loop-k.out_lo k rails.1 c.in_ok-rails.ensures.has.1
          (All-kept _ _ _ _ _ _ c.loop-k.out_lo kept so_far.low_has);
      written = λ column input inside many whole.
          let within : column < g.T.Truths.columns mid = omega (arith, so_far.kept.count, inside) in
          let now : take end (values_in (g.T.Truths.holds mid) column c.args.values.now) ≡ flat_values input (results input code.instructions) =
          ap (take end) (values_in-kept _ _ _ _ _ _ column c.args.values.now so_far.kept
          c.requires.has inside) ∙ whole in
          let told = c.in_ok-rails.ensures.rails column input within many now in
          let before = so_far.written column input inside many whole in
          let states = code_value code input in
          let counted : length states ≡ length code.outputs = length-map code.outputs (output_state input (results input code.instructions)) in
          let below : k < length states = omega (arith, counted, c.outputs-k-end.ensures) in (
            rail_written (g.T.Truths.holds new) column may_one states c.loop-k.out_hi k rails.0 below (omega arith) told.0
                (ap (take k) (values_in-kept _ _ _ _ _ _ column c.loop-k.out_hi kept
                so_far.high_has within) ∙ before.0),
            rail_written (g.T.Truths.holds new) column may_zero states c.loop-k.out_lo k rails.1 below (omega arith) told.1
                (ap (take k) (values_in-kept _ _ _ _ _ _ column c.loop-k.out_lo kept
                so_far.low_has within) ∙ before.1),
          );
    }

pub returns-clause-written : goal.returns-clause-written
returns-clause-written g c = λ column input inside many whole.
    let new = c.loop-k.truths in
    let code = c.args.code.now in
    let k = c.loop-k.k in
    let states = code_value code input in
    let counted : length states ≡ length code.outputs = length-map code.outputs (output_state input (results input code.instructions)) in
    let last : k ≡ length code.outputs = omega (arith, c.outputs-k-end.ensures) in
    let done = c.loop-k.invariant.written column input inside many whole in
    let all = take_all k states (omega (arith, last, counted)) in
    subst (λ n. HasColumn (g.T.Truths.holds new) column (take n c.loop-k.out_hi) (take n c.loop-k.out_lo) states) last (record {
      ones = values_in-take (g.T.Truths.holds new) column k c.loop-k.out_hi ∙ done.0 ∙ ap (map may_one) all;
      zeros = values_in-take (g.T.Truths.holds new) column k c.loop-k.out_lo ∙ done.1 ∙ ap (map may_zero) all;
    })

-- what a fault tells that is passed on is so still
pub returns-in_err-rails-clause-spent : goal.returns-in_err-rails-clause-spent
returns-in_err-rails-clause-spent g c =
    let p = err_from_is_err_and c.from_residual.result c.from_residual.ensures.1 in
    rw (p.1, p.2) c.in_err-rails.ensures.spent
