-- No joining step yet, one more, and the one that changes nothing.
use Rattle.std.proofs.Common.{◌+◌, true, inl, ◌∙◌, refl, arith, zero-add}
use Rattle.std.proofs.lemmas.Bool.{OnTrue_at, OnFalse_at}
use Rattle.settling.specs.Settling.{Joining}
use Rattle.ternary.proofs.CountsLemmas.{raised-none}
use Rattle.settling.proofs.KnownStates.{known-all}
use Rattle.settling.proofs.MovesLemmas.{moved_once}
use Rattle.settling.proofs.SettlingLemmas.{counted, counted_none, Joining-more, Joining-rests, all-falls, storage-more, fades-more, rested_at}
use Rattle.settling.proofs.settling.join_while_changing.Goals as goal

pub loop-count-init : goal.loop-count-init
loop-count-init g c = record {
  joining = λ fits more new rest. rw (zero-add more) rest;
  fits = λ fits. fits;
  nodes = refl;
  storage = λ fits none. absurd (omega (arith, none));
  fades = λ node inside. inl refl;
  unmoved = λ none. refl;
  fewer = omega arith;
  bound = omega (arith, known-all (λ _. true) (g.M.Stepper.state c.args.m.now));
  moves = raised-none (g.M.Stepper.moves c.args.m.now);
  placed = refl;
  fixed = refl;
}

pub loop-count-preserved : goal.loop-count-preserved
loop-count-preserved g c =
    let loop = c.loop-count in
    let old = g.M.Stepper.state loop.m in
    let new = g.M.Stepper.state c.join_step.new.self in
    let changed = OnTrue_at c.loop-count-test.true c.join_step.ensures.changed in
    record {
      joining = λ fits more last rest. counted loop.count more
          (λ count. Joining c.args.graph.now (g.M.Stepper.state c.args.m.now) count last)
          (loop.invariant.joining fits (more + 1) last
          (Joining-more c.args.graph.now old new more last (c.join_step.ensures.step (loop.invariant.fits fits)) changed rest));
      fits = λ fits. c.join_step.ensures.fits (loop.invariant.fits fits);
      nodes = c.join_step.ensures.nodes ∙ loop.invariant.nodes;
      storage = λ fits some. storage-more c.args.graph.now c.requires loop.count old new (loop.invariant.storage fits)
          (c.join_step.ensures.step (loop.invariant.fits fits)) changed;
      fades = fades-more (g.M.Stepper.state c.args.m.now) old new loop.invariant.nodes loop.invariant.fades
          c.join_step.ensures.unknown;
      unmoved = λ none. absurd (omega (arith, none));
      fewer = omega (
        arith,
        loop.invariant.fewer,
        all-falls old new c.join_step.ensures.nodes
            c.join_step.ensures.unknown changed,
      );
      bound = omega (
        arith,
        loop.invariant.bound,
        all-falls old new c.join_step.ensures.nodes
            c.join_step.ensures.unknown changed,
      );
      moves = moved_once _ _ _ loop.count loop.invariant.moves (OnTrue_at c.loop-count-test.true c.join_step.ensures.moved);
      placed = c.join_step.ensures.placed ∙ loop.invariant.placed;
      fixed = c.join_step.ensures.fixed ∙ loop.invariant.fixed;
    }

pub returns-clause-joining : goal.returns-clause-joining
returns-clause-joining g c = λ fits.
    let loop = c.loop-count in
    let same = OnFalse_at c.loop-count-test.false c.join_step.ensures.same in
    counted_none loop.count
    (λ count. Joining c.args.graph.now (g.M.Stepper.state c.args.m.now) count (g.M.Stepper.state c.join_step.new.self))
    (loop.invariant.joining fits 0 (g.M.Stepper.state c.join_step.new.self)
    (Joining-rests c.args.graph.now (g.M.Stepper.state loop.m) (g.M.Stepper.state c.join_step.new.self)
    (c.join_step.ensures.step (loop.invariant.fits fits)) same))

pub returns-clause-fading : goal.returns-clause-fading
returns-clause-fading g c =
    let loop = c.loop-count in
    let start = g.M.Stepper.state c.args.m.now in
    let new = g.M.Stepper.state c.join_step.new.self in
    let same = OnFalse_at c.loop-count-test.false c.join_step.ensures.same in
    record {
      fades = fades-more start (g.M.Stepper.state loop.m) new loop.invariant.nodes loop.invariant.fades
          c.join_step.ensures.unknown;
      rested = rested_at loop.count start new (λ none. same ∙ loop.invariant.unmoved none)
          (rw (← same) at loop.invariant.fewer);
    }

pub loop-count-smaller : goal.loop-count-smaller
loop-count-smaller g c =
    all-falls (g.M.Stepper.state c.loop-count.m) (g.M.Stepper.state c.join_step.new.self) c.join_step.ensures.nodes
    c.join_step.ensures.unknown
    (OnTrue_at c.loop-count-test.true c.join_step.ensures.changed)
