-- What the code gives stands at the prefix of the outputs, and all that is written is the maker's.
use Rattle.std.proofs.Common.{length, ap, arith}
use Rattle.std.proofs.lemmas.List.{with_items_is}
use Rattle.truth_parts.proofs.evaluation.run_part.Goals as goal

pub run_front-requires-clause-values_has : goal.run_front-requires-clause-values_has
run_front-requires-clause-values_has g c = rw c.deref_mut.ensures.value c.requires.workspace.values

pub run_front-requires-clause-high_has : goal.run_front-requires-clause-high_has
run_front-requires-clause-high_has g c = rw c.deref_mut-2.ensures.value c.requires.workspace.highs

pub run_front-requires-clause-low_has : goal.run_front-requires-clause-low_has
run_front-requires-clause-low_has g c = rw c.deref_mut-3.ensures.value c.requires.workspace.lows

pub returns-clause-value : goal.returns-clause-value
returns-clause-value g c =
    let high = with_items_is c.args.workspace.now.out_hi c.run_front.new.out_hi (omega (arith, c.run_front.auto.out_hi, c.deref_mut-2.ensures.len)) in
    let low = with_items_is c.args.workspace.now.out_lo c.run_front.new.out_lo (omega (arith, c.run_front.auto.out_lo, c.deref_mut-3.ensures.len)) in
    rw (high, low) c.run_front.ensures.value

pub returns-clause-workspace : goal.returns-clause-workspace
returns-clause-workspace g c =
    let all = with_items_is c.args.workspace.now.values c.run_front.new.values (omega (arith, c.run_front.auto.values, c.deref_mut.ensures.len)) in
    let high = with_items_is c.args.workspace.now.out_hi c.run_front.new.out_hi (omega (arith, c.run_front.auto.out_hi, c.deref_mut-2.ensures.len)) in
    let low = with_items_is c.args.workspace.now.out_lo c.run_front.new.out_lo (omega (arith, c.run_front.auto.out_lo, c.deref_mut-3.ensures.len)) in
    record {
      even = omega (
        arith,
        ap length high,
        ap length low,
        c.run_front.auto.out_hi,
        c.run_front.auto.out_lo,
        ap length c.deref_mut-2.ensures.value,
        ap length c.deref_mut-3.ensures.value,
        c.requires.workspace.even,
      );
      values = rw all c.run_front.ensures.values_has;
      highs = rw high c.run_front.ensures.high_has;
      lows = rw low c.run_front.ensures.low_has;
    }
