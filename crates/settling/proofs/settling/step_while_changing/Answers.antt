-- No step yet, one more with the rounds that are passed over, the step that changes nothing, and the limit.
use Rattle.std.proofs.Common.{◌+◌, length, refl, sym, ◌∙◌, arith, ap, subst}
use Rattle.std.proofs.lemmas.Bool.{OnTrue_at, OnFalse_at}
use Rattle.settling.specs.Recurring.{Changing}
use Rattle.ternary.proofs.CountsLemmas.{raised-none}
use Rattle.settling.proofs.MovesLemmas.{moved_ahead}
use Rattle.settling.proofs.RecurringLemmas.{KeptChanging, kept-none, kept-more, kept-on, step-on, ends-at-rest, ends-at-limit}
use Rattle.settling.proofs.settling.step_while_changing.Goals as goal

pub loop-count-init : goal.loop-count-init
loop-count-init g c = record {
  changing = λ fits. refl;
  kept = λ fits. kept-none c.args.graph.now c.forget.new.self 0 (g.M.Stepper.state c.args.m.now) c.forget.ensures;
  fits = λ fits. fits;
  within = omega arith;
  unmoved = λ none. refl;
  nodes = refl;
  moves = raised-none (g.M.Stepper.moves c.args.m.now);
  placed = refl;
  fixed = refl;
}

pub loop-count-smaller : goal.loop-count-smaller
loop-count-smaller g c = omega (arith, c.loop-count-test.true)

pub loop-count-preserved : goal.loop-count-preserved
loop-count-preserved g c =
    let loop = c.loop-count in
    let graph = c.args.graph.now in
    let start = g.M.Stepper.state c.args.m.now in
    let moves = g.M.Stepper.moves c.args.m.now in
    let now = g.M.Stepper.state loop.m in
    let next = g.M.Stepper.state c.step.new.self in
    let changed = OnTrue_at c.if-not-step.false c.step.ensures.changed in
    let passed = c.pass_rounds-ahead.ensures in
    let ahead = c.pass_rounds-ahead.result in
    let recall = c.pass_rounds-ahead.new.recall in
    record {
      changing = λ fits. subst (Changing graph (loop.count + 1 + ahead) start) (sym passed.state)
          (step-on graph loop.recall recall loop.count ahead start now next (loop.invariant.changing fits) (loop.invariant.kept fits)
          (c.step.ensures.step (loop.invariant.fits fits)) changed passed.recalls);
      kept = λ fits. subst (KeptChanging graph recall (loop.count + 1 + ahead)) (sym passed.state)
          (kept-on graph loop.recall recall next (loop.count + 1) ahead
          (kept-more graph loop.recall loop.count now next (loop.invariant.kept fits) (c.step.ensures.step (loop.invariant.fits fits)) changed)
          passed.recalls);
      fits = λ fits. passed.fits graph (c.step.ensures.fits (loop.invariant.fits fits));
      within = omega (arith, passed.left);
      unmoved = λ none. absurd (omega (arith, none));
      nodes = ap length passed.state ∙ (c.step.ensures.nodes ∙ loop.invariant.nodes);
      moves = moved_ahead moves _ _ _ loop.count ahead loop.invariant.moves (OnTrue_at c.if-not-step.false c.step.ensures.moved) passed.moves;
      placed = passed.placed ∙ (c.step.ensures.placed ∙ loop.invariant.placed);
      fixed = passed.fixed ∙ (c.step.ensures.fixed ∙ loop.invariant.fixed);
    }

pub returns-then-not-step-clause-stepping : goal.returns-then-not-step-clause-stepping
returns-then-not-step-clause-stepping g c = λ fits.
    let loop = c.loop-count in
    ends-at-rest c.args.graph.now c.args.limit loop.count (g.M.Stepper.state c.args.m.now) (g.M.Stepper.state loop.m)
    (g.M.Stepper.state c.step.new.self) c.loop-count-test.true (loop.invariant.changing fits) (c.step.ensures.step (loop.invariant.fits fits))
    (OnFalse_at c.if-not-step.true c.step.ensures.same)

pub returns-clause-stepping : goal.returns-clause-stepping
returns-clause-stepping g c = λ fits.
    let loop = c.loop-count in
    ends-at-limit c.args.graph.now c.args.limit loop.count (g.M.Stepper.state c.args.m.now) (g.M.Stepper.state loop.m) loop.invariant.within
    c.loop-count-test.false (loop.invariant.changing fits)
