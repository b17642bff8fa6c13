-- One state more, and the step that changes nothing.
use Rattle.std.proofs.Common.{true, [], ◌∙◌, refl, arith, rules}
use Rattle.std.proofs.lemmas.Bool.{OnTrue_at, OnFalse_at}
use Rattle.ternary.proofs.CountsLemmas.{raised-none}
use Rattle.settling.proofs.KnownStates.{known-all}
use Rattle.settling.proofs.MovesLemmas.{moved_once}
use Rattle.settling.proofs.SettlingLemmas.{all-falls}
use Rattle.settling.specs.Passing.{JoiningThrough}
use Rattle.settling.proofs.SeenSoFar.{one_more, ends_here, look_fails}
use Rattle.settling.proofs.observing.join_while_seen.Goals as goal

pub loop-count-init : goal.loop-count-init
loop-count-init g c = record {
  so_far = record { passed = []; follow = λ more joins. joins; last = refl; count_is = refl; seen = refl };
  knows = c.requires.knows;
  observer = refl;
  fits = c.requires.fits;
  nodes = refl;
  bound = omega (arith, known-all (λ _. true) (g.M.Moved.state c.args.m.now));
  moves = raised-none (g.M.SeenStepper.moves c.args.m.now);
  placed = refl;
  fixed = refl;
}

pub loop-count-smaller : goal.loop-count-smaller
loop-count-smaller g c =
    all-falls (g.M.Moved.state c.loop-count.m) (g.M.Moved.state c.join_step.new.self) c.join_step.ensures.nodes
    c.join_step.ensures.unknown
    (OnTrue_at c.loop-count-test.true c.join_step.ensures.changed)

pub loop-count-preserved : goal.loop-count-preserved
loop-count-preserved g c =
    let loop = c.loop-count in
    let changed = OnTrue_at c.loop-count-test.true c.join_step.ensures.changed in
    let step = c.join_step.ensures.step loop.invariant.fits in
    record {
      so_far = one_more (g.M.Moved.state c.join_step.new.self) loop.invariant.so_far c.in_ok-see.ensures.seen
          (λ more joins. (step, changed, joins));
      knows = c.in_ok-see.ensures.knows;
      observer = c.in_ok-see.ensures.fixed ∙ loop.invariant.observer;
      fits = c.join_step.ensures.fits loop.invariant.fits;
      nodes = c.join_step.ensures.nodes ∙ loop.invariant.nodes;
      bound = omega (
        arith,
        loop.invariant.bound,
        all-falls (g.M.Moved.state loop.m) (g.M.Moved.state c.join_step.new.self) c.join_step.ensures.nodes
            c.join_step.ensures.unknown changed,
      );
      moves = moved_once _ _ _ loop.count loop.invariant.moves (OnTrue_at c.loop-count-test.true c.join_step.ensures.moved);
      placed = c.join_step.ensures.placed ∙ loop.invariant.placed;
      fixed = c.join_step.ensures.fixed ∙ loop.invariant.fixed;
    }

pub returns-in_err-see-clause-stopped : goal.returns-in_err-see-clause-stopped
returns-in_err-see-clause-stopped g c =
    let loop = c.loop-count in
    let next = g.M.Moved.state c.join_step.new.self in
    let step = c.join_step.ensures.step loop.invariant.fits in
    let changed = OnTrue_at c.loop-count-test.true c.join_step.ensures.changed in
    let stopped = look_fails g.O.Observer.see g.O.Observer.seen g.O.Observer.fixed
    (λ mid state. g.O.Observer.part mid state c.in_err-see.field-0.0 c.see.new.self) c.args.graph.now c.args.observer.now loop.observer
    (λ left. JoiningThrough c.args.graph.now next) 0 next loop.invariant.so_far (step.joins.right ∙ step.step.count)
    loop.invariant.observer c.in_err-see.ensures.part (λ more joins. (step, changed, joins)) in
    search rules

pub returns-clause-seen : goal.returns-clause-seen
returns-clause-seen g c =
    let same = OnFalse_at c.loop-count-test.false c.join_step.ensures.same in
    ends_here c.loop-count.invariant.so_far same refl (rw same at (c.join_step.ensures.step c.loop-count.invariant.fits))
