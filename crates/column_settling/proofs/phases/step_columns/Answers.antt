-- One step more in each column, the step that changes none, and the limit.
use Rattle.std.proofs.Common.{◌≡◌, ℕ, ◌<◌, refl, ◌∙◌, subst, arith}
use Rattle.std.proofs.lemmas.Result.{err_from_is_err_and}
use Rattle.switch_paths.specs.Step.{IsStep}
use Rattle.column_settling.proofs.GoingLemmas.{Going, Going-start, Going-rests, Going-ends, GoesOn-steps, Going-front, StepsWithin-rests, StepsWithin-ends}
use Rattle.column_settling.proofs.ReachingLemmas.{reaches_more, reaches_none}
use Rattle.column_settling.proofs.phases.step_columns.Goals as goal

pub loop-taken-init : goal.loop-taken-init
loop-taken-init g c =
    let state = g.M.ColumnStepper.state c.args.m.now in
    record {
      fits = λ fits. fits;
      columns = refl;
      keeps = reaches_none g.M.ColumnStepper.keeps c.args.m.now;
      each = λ fits column inside. record { count = 0; going = Going-start c.args.graph.now c.args.limit (state column) };
      front = λ fits. (0, c.requires.some, Going-start c.args.graph.now c.args.limit (state 0));
    }

pub loop-taken-preserved : goal.loop-taken-preserved
loop-taken-preserved g c =
    let loop = c.loop-taken in
    let start = g.M.ColumnStepper.state c.args.m.now in
    let now = g.M.ColumnStepper.state loop.m in
    let next = g.M.ColumnStepper.state c.step.new.self in
    let graph = c.args.graph.now in
    let within : (column : ℕ) → column < g.M.ColumnStepper.columns c.args.m.now → column < g.M.ColumnStepper.columns loop.m =
    λ column inside. omega (arith, inside, loop.invariant.columns) in
    record {
      fits = λ fits. c.step.ensures.fits (loop.invariant.fits fits);
      columns = c.step.ensures.columns ∙ loop.invariant.columns;
      keeps = reaches_more g.M.ColumnStepper.keeps c.args.m.now loop.m c.step.new.self loop.invariant.keeps c.step.ensures.keeps;
      each = λ fits column inside.
          GoesOn-steps graph c.args.limit loop.taken (start column) (now column) (next column) c.loop-taken-test.true (loop.invariant.each fits column inside)
          (c.in_ok-moved.ensures.step (loop.invariant.fits fits) column (within column inside));
      front = λ fits.
          let found = c.in_ok-moved.ensures.moved c.if-not-moved.false in
          let inside : found.0 < g.M.ColumnStepper.columns c.args.m.now = omega (arith, found.1, loop.invariant.columns) in (
            found.0,
            inside,
            Going-front graph c.args.limit loop.taken (start found.0) (now found.0) (next found.0) c.loop-taken-test.true (loop.invariant.each fits found.0 inside)
                (c.in_ok-moved.ensures.step (loop.invariant.fits fits) found.0 found.1) found.2,
          );
    }

pub returns-then-not-moved-clause-together : goal.returns-then-not-moved-clause-together
returns-then-not-moved-clause-together g c = λ fits.
    let loop = c.loop-taken in
    let start = g.M.ColumnStepper.state c.args.m.now in
    let now = g.M.ColumnStepper.state loop.m in
    let next = g.M.ColumnStepper.state c.step.new.self in
    let graph = c.args.graph.now in
    let within : (column : ℕ) → column < g.M.ColumnStepper.columns c.args.m.now → column < g.M.ColumnStepper.columns loop.m =
    λ column inside. omega (arith, inside, loop.invariant.columns) in
    let same : (column : ℕ) → column < g.M.ColumnStepper.columns c.args.m.now → next column ≡ now column =
    λ column inside. c.in_ok-moved.ensures.rests c.if-not-moved.true column (within column inside) in
    let rests : (column : ℕ) → column < g.M.ColumnStepper.columns c.args.m.now → IsStep graph (now column) (now column) =
    λ column inside. subst (IsStep graph (now column)) (same column inside) (c.in_ok-moved.ensures.step (loop.invariant.fits fits) column (within column inside)) in
    let front = loop.invariant.front fits in
    record {
      each = λ column inside.
          rw (same column inside) (StepsWithin-rests graph c.args.limit loop.taken (start column) (now column) (omega (arith, c.loop-taken-test.true))
          (loop.invariant.each fits column inside) (rests column inside));
      front = (
        front.0,
        front.1,
        rw (same front.0 front.1) (Going-rests graph c.args.limit loop.taken (start front.0) loop.taken (now front.0) (omega (arith, c.loop-taken-test.true)) front.2
            (rests front.0 front.1)),
      );
    }

pub returns-clause-together : goal.returns-clause-together
returns-clause-together g c = λ fits.
    let loop = c.loop-taken in
    let start = g.M.ColumnStepper.state c.args.m.now in
    let now = g.M.ColumnStepper.state loop.m in
    let graph = c.args.graph.now in
    let last : loop.taken ≡ c.args.limit = omega arith in
    let front = loop.invariant.front fits in
    record {
      each = λ column inside. StepsWithin-ends graph c.args.limit (start column) (now column) (rw last at loop.invariant.each fits column inside);
      front = (
        front.0,
        front.1,
        Going-ends graph c.args.limit (start front.0) c.args.limit (now front.0)
            (subst (λ n. Going graph c.args.limit n (start front.0) n (now front.0)) last front.2),
      );
    }

pub returns-then-not-moved-clause-keeps : goal.returns-then-not-moved-clause-keeps
returns-then-not-moved-clause-keeps g c =
    reaches_more g.M.ColumnStepper.keeps c.args.m.now c.loop-taken.m c.step.new.self c.loop-taken.invariant.keeps c.step.ensures.keeps

pub returns-in_err-moved-clause-keeps : goal.returns-in_err-moved-clause-keeps
returns-in_err-moved-clause-keeps g c =
    reaches_more g.M.ColumnStepper.keeps c.args.m.now c.loop-taken.m c.step.new.self c.loop-taken.invariant.keeps c.step.ensures.keeps

-- what a fault tells that is passed on is so still
pub returns-in_err-moved-clause-spent : goal.returns-in_err-moved-clause-spent
returns-in_err-moved-clause-spent g c =
    let p = err_from_is_err_and c.from_residual.result c.from_residual.ensures.1 in
    rw (p.1, p.2) c.in_err-moved.ensures.spent
