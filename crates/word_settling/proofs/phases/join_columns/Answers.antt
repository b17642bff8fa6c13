-- In each column no joining step yet, one more, and the one that changes no column.
use Rattle.std.proofs.Common.{ℕ, ◌+◌, ◌<◌, ◌≤◌, true, length, get_or, refl, ap, ◌∙◌, inl, inr, arith}
use Rattle.settling.specs.declared.settling.TheConstants.{MOST_LIMIT}
use Rattle.settling.proofs.KnownStates.{known-all}
use Rattle.word_columns.specs.Columns.{is_in_column}
use Rattle.column_settling.proofs.JoiningLemmas.{sum_below-falls, known_in, known_in-falls}
use Rattle.word_settling.proofs.CountLemmas.{JoiningOn-start, JoiningOn-counts, JoiningOn-ends, bound-counts, no_bits, zero_bits, some_or_none, known_in-low}
use Rattle.word_settling.proofs.phases.join_columns.Goals as goal

pub joining-init : goal.joining-init
joining-init g c = record {
  fits = λ fits. fits;
  columns = refl;
  nodes = λ column inside. refl;
  on = λ fits column past inside.
      JoiningOn-start c.args.graph.now (g.M.WordStepper.state c.args.m.now column) (get_or c.args.out.now column past)
      (c.requires.unjoined column past (omega (arith, inside, c.requires.places)));
  bound = λ column past inside. omega (
    arith,
    c.requires.within column past (omega (arith, inside, c.requires.places)),
    known-all (λ _. true) (g.M.WordStepper.state c.args.m.now column),
  );
}

pub joining-preserved : goal.joining-preserved
joining-preserved g c =
    let loop = c.joining in
    let step = c.join_step-changed.ensures in
    let now = g.M.WordStepper.state loop.m in
    let next = g.M.WordStepper.state c.join_step-changed.new.self in
    let bit = λ (column : ℕ). is_in_column column c.join_step-changed.result in
    record {
      fits = λ fits. step.fits (loop.invariant.fits fits);
      columns = step.columns ∙ loop.invariant.columns;
      nodes = λ column inside. step.nodes column (omega (arith, inside, loop.invariant.columns)) ∙ loop.invariant.nodes column inside;
      on = λ fits column past inside.
          let own : column < g.M.WordStepper.columns loop.m = omega (arith, inside, loop.invariant.columns) in
          JoiningOn-counts (bit column) (now column) (next column) c.args.graph.now (g.M.WordStepper.state c.args.m.now column) (get_or c.args.out.now column past).steps
          (get_or loop.out column past) (get_or c.count_all.new.out column past) (c.count_all.ensures column past (omega (arith, inside, c.requires.places, loop.auto.out)))
          (step.changed column own) (step.same column own) (loop.invariant.on fits column past inside)
          (step.step (loop.invariant.fits fits) column own);
      bound = λ column past inside.
          let own : column < g.M.WordStepper.columns loop.m = omega (arith, inside, loop.invariant.columns) in
          bound-counts (bit column) (now column) (next column) (get_or loop.out column past) (get_or c.count_all.new.out column past)
          (MOST_LIMIT + length (g.M.WordStepper.state c.args.m.now column))
          (c.count_all.ensures column past (omega (arith, inside, c.requires.places, loop.auto.out)))
          (step.changed column own) (step.same column own) (step.nodes column own) (step.unknown column own)
          (loop.invariant.bound column past inside);
    }

pub joining-smaller : goal.joining-smaller
joining-smaller g c =
    let loop = c.joining in
    let step = c.join_step-changed.ensures in
    let word = c.join_step-changed.result in
    let columns = g.M.WordStepper.columns c.args.m.now in
    let now = g.M.WordStepper.state loop.m in
    let next = g.M.WordStepper.state c.join_step-changed.new.self in
    let within : (column : ℕ) → column < columns → column < g.M.WordStepper.columns loop.m =
    λ column inside. omega (arith, inside, loop.invariant.columns) in
    let low : (column : ℕ) → column < columns → known_in (next column) ≤ known_in (now column) = λ column inside.
    known_in-low (is_in_column column word) (now column) (next column) (step.changed column (within column inside))
    (step.same column (within column inside))
    (step.nodes column (within column inside)) (step.unknown column (within column inside)) in
    elim (some_or_none columns (λ column. is_in_column column word)) [
      | inl found ↦ sum_below-falls columns (λ column. known_in (next column)) (λ column. known_in (now column)) low found.0 found.1
          (known_in-falls (now found.0) (next found.0) (step.nodes found.0 (within found.0 found.1)) (step.unknown found.0 (within found.0 found.1))
          (step.changed found.0 (within found.0 found.1) found.2))
      | inr none ↦ absurd (c.if-changed-eq0.false (no_bits columns word none (λ column above. step.beyond column (omega (arith, above, loop.invariant.columns)))))
    ]

pub returns-then-changed-eq0-clause-joins : goal.returns-then-changed-eq0-clause-joins
returns-then-changed-eq0-clause-joins g c fits column past inside =
    let loop = c.joining in
    let own : column < g.M.WordStepper.columns loop.m = omega (arith, inside, loop.invariant.columns) in
    JoiningOn-ends c.args.graph.now (g.M.WordStepper.state c.args.m.now column) (get_or c.args.out.now column past).steps (g.M.WordStepper.state loop.m column)
    (g.M.WordStepper.state c.join_step-changed.new.self column) (get_or loop.out column past) (loop.invariant.on fits column past inside)
    (c.join_step-changed.ensures.step (loop.invariant.fits fits) column own)
    (c.join_step-changed.ensures.same column own (ap (is_in_column column) c.if-changed-eq0.true ∙ zero_bits column))
