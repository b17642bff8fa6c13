-- One joining step more in each column, and the one that changes none.
use Rattle.std.proofs.Common.{ℕ, ◌<◌, true, refl, ◌∙◌, inl, inr, arith}
use Rattle.std.proofs.lemmas.Result.{err_from_is_err_and}
use Rattle.settling.proofs.KnownStates.{known-all}
use Rattle.column_settling.proofs.JoiningLemmas.{JoinsOn-start, JoinsOn-steps, JoinsOn-moves, JoinsWithin-ends, front-ends, sum_below-falls, known_in, known_in-falls, known_in-low}
use Rattle.column_settling.proofs.ReachingLemmas.{reaches_more, reaches_none}
use Rattle.column_settling.proofs.phases.join_columns.Goals as goal

pub joining-init : goal.joining-init
joining-init g c = record {
  fits = c.requires;
  columns = refl;
  keeps = reaches_none g.M.ColumnStepper.keeps c.args.m.now;
  nodes = λ column inside. refl;
  each = λ column inside. JoinsOn-start c.args.graph.now (g.M.ColumnStepper.state c.args.m.now column);
  front = inl refl;
  bound = omega arith;
}

pub joining-preserved : goal.joining-preserved
joining-preserved g c =
    let loop = c.joining in
    let start = g.M.ColumnStepper.state c.args.m.now in
    let now = g.M.ColumnStepper.state loop.m in
    let next = g.M.ColumnStepper.state c.join_step.new.self in
    let graph = c.args.graph.now in
    let step = c.in_ok-moved.ensures in
    let found = step.moved c.if-not-moved.false in
    let inside : found.0 < g.M.ColumnStepper.columns c.args.m.now = omega (arith, found.1, loop.invariant.columns) in
    let lead = JoinsOn-moves graph loop.taken (start found.0) (now found.0) (next found.0) (loop.invariant.each found.0 inside)
    (step.step loop.invariant.fits found.0 found.1)
    (known_in-falls (now found.0) (next found.0) (step.nodes found.0 found.1) (step.unknown found.0 found.1) found.2) found.2 in
    record {
      fits = step.fits loop.invariant.fits;
      columns = step.columns ∙ loop.invariant.columns;
      keeps = reaches_more g.M.ColumnStepper.keeps c.args.m.now loop.m c.join_step.new.self loop.invariant.keeps step.keeps;
      nodes = λ column within. step.nodes column (omega (arith, within, loop.invariant.columns)) ∙ loop.invariant.nodes column within;
      each = λ column within.
          let own : column < g.M.ColumnStepper.columns loop.m = omega (arith, within, loop.invariant.columns) in
          JoinsOn-steps graph loop.taken (start column) (now column) (next column) (loop.invariant.each column within) (step.step loop.invariant.fits column own)
          (λ changed. known_in-falls (now column) (next column) (step.nodes column own) (step.unknown column own) changed);
      front = inr (found.0, inside, lead.0, lead.1, lead.2);
      bound = omega (arith, lead.0.left, lead.1, known-all (λ _. true) (start found.0), step.few found.0 found.1, step.nodes found.0 found.1, loop.invariant.nodes found.0 inside);
    }

pub joining-smaller : goal.joining-smaller
joining-smaller g c =
    let loop = c.joining in
    let now = g.M.ColumnStepper.state loop.m in
    let next = g.M.ColumnStepper.state c.join_step.new.self in
    let step = c.in_ok-moved.ensures in
    let found = step.moved c.if-not-moved.false in
    let inside : found.0 < g.M.ColumnStepper.columns c.args.m.now = omega (arith, found.1, loop.invariant.columns) in
    sum_below-falls (g.M.ColumnStepper.columns c.args.m.now) (λ column. known_in (next column)) (λ column. known_in (now column))
    (λ column within.
    let own : column < g.M.ColumnStepper.columns loop.m = omega (arith, within, loop.invariant.columns) in
    known_in-low (now column) (next column) (step.nodes column own) (step.unknown column own))
    found.0 inside (known_in-falls (now found.0) (next found.0) (step.nodes found.0 found.1) (step.unknown found.0 found.1) found.2)

pub returns-then-not-moved-clause-together : goal.returns-then-not-moved-clause-together
returns-then-not-moved-clause-together g c =
    let loop = c.joining in
    let start = g.M.ColumnStepper.state c.args.m.now in
    let now = g.M.ColumnStepper.state loop.m in
    let next = g.M.ColumnStepper.state c.join_step.new.self in
    let graph = c.args.graph.now in
    let step = c.in_ok-moved.ensures in
    let within : (column : ℕ) → column < g.M.ColumnStepper.columns c.args.m.now → column < g.M.ColumnStepper.columns loop.m =
    λ column inside. omega (arith, inside, loop.invariant.columns) in
    record {
      each = λ column inside.
          JoinsWithin-ends graph loop.taken (start column) (now column) (next column) (loop.invariant.each column inside)
          (step.step loop.invariant.fits column (within column inside)) (step.rests c.if-not-moved.true column (within column inside));
      front = elim loop.invariant.front [
        | inl none ↦ inl none
        | inr lead ↦ inr (
          lead.0,
          lead.1,
          lead.4,
          front-ends graph loop.taken (start lead.0) (now lead.0) (next lead.0) lead.2 lead.3
              (step.step loop.invariant.fits lead.0 (within lead.0 lead.1)) (step.rests c.if-not-moved.true lead.0 (within lead.0 lead.1)),
        )
      ];
    }

pub returns-then-not-moved-clause-keeps : goal.returns-then-not-moved-clause-keeps
returns-then-not-moved-clause-keeps g c =
    reaches_more g.M.ColumnStepper.keeps c.args.m.now c.joining.m c.join_step.new.self c.joining.invariant.keeps c.join_step.ensures.keeps

pub returns-in_err-moved-clause-keeps : goal.returns-in_err-moved-clause-keeps
returns-in_err-moved-clause-keeps g c =
    reaches_more g.M.ColumnStepper.keeps c.args.m.now c.joining.m c.join_step.new.self c.joining.invariant.keeps c.join_step.ensures.keeps

-- what a fault tells that is passed on is so still
pub returns-in_err-moved-clause-spent : goal.returns-in_err-moved-clause-spent
returns-in_err-moved-clause-spent g c =
    let p = err_from_is_err_and c.from_residual.result c.from_residual.ensures.1 in
    rw (p.1, p.2) c.in_err-moved.ensures.spent
