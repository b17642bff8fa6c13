-- No state yet, one more with the rounds that are passed over, the step that changes nothing, a look that fails, and the limit.
use Rattle.std.proofs.Common.{◌≡◌, ℕ, ◌+◌, ◌-◌, List, [], length, ◌∙◌, refl, sym, subst, arith, ap, rules}
use Rattle.std.proofs.lemmas.Bool.{OnTrue_at, OnFalse_at}
use Rattle.ternary.specs.declared.tern.Tern.{Tern}
use Rattle.ternary.proofs.CountsLemmas.{raised-none}
use Rattle.settling.specs.Passing.{SteppingThrough}
use Rattle.settling.proofs.MovesLemmas.{moved_ahead}
use Rattle.settling.proofs.SeenRounds.{KeptSeen, seen-none, seen-more, seen-on, passed-on}
use Rattle.settling.proofs.SeenSoFar.{SteppedSoFar, one_more, ends_here, look_fails, goes_on, rests, at_limit}
use Rattle.settling.proofs.observing.step_while_seen.Goals as goal

pub loop-count-init : goal.loop-count-init
loop-count-init g c =
    let all : c.args.limit - 0 ≡ c.args.limit = omega arith in
    record {
      so_far = record {
        passed = [];
        follow = λ more rest. subst (λ (n : ℕ). SteppingThrough c.args.graph.now n (g.M.Moved.state c.args.m.now) more) all rest;
        last = refl;
        count_is = refl;
        seen = refl;
      };
      kept = seen-none g.O.Observer.see c.args.graph.now c.forget.new.self 0 (g.M.Moved.state c.args.m.now) (g.O.Observer.seen c.args.observer.now)
          c.forget.ensures;
      knows = c.requires.knows;
      observer = refl;
      fits = c.requires.fits;
      within = omega arith;
      nodes = refl;
      moves = raised-none (g.M.SeenStepper.moves c.args.m.now);
      placed = refl;
      fixed = refl;
    }

pub returns-then-not-step-clause-seen : goal.returns-then-not-step-clause-seen
returns-then-not-step-clause-seen g c =
    let loop = c.loop-count in
    let same = OnFalse_at c.if-not-step.true c.step.ensures.same in
    let rest = rests c.args.graph.now c.args.limit loop.count (g.M.Moved.state loop.m) (g.M.Moved.state c.step.new.self)
    c.loop-count-test.true (c.step.ensures.step loop.invariant.fits) same in
    ends_here loop.invariant.so_far same refl rest

pub returns-in_err-see-clause-stopped : goal.returns-in_err-see-clause-stopped
returns-in_err-see-clause-stopped g c =
    let loop = c.loop-count in
    let next = g.M.Moved.state c.step.new.self in
    let step = c.step.ensures.step loop.invariant.fits in
    let stopped = look_fails g.O.Observer.see g.O.Observer.seen g.O.Observer.fixed
    (λ mid state. g.O.Observer.part mid state c.in_err-see.field-0.0 c.see.new.self) c.args.graph.now c.args.observer.now loop.observer
    (λ left. SteppingThrough c.args.graph.now left next) (c.args.limit - (loop.count + 1)) next loop.invariant.so_far
    step.count loop.invariant.observer c.in_err-see.ensures.part
    (goes_on c.args.graph.now c.args.limit loop.count (g.M.Moved.state loop.m) next c.loop-count-test.true step
    (OnTrue_at c.if-not-step.false c.step.ensures.changed)) in
    search rules

pub loop-count-preserved : goal.loop-count-preserved
loop-count-preserved g c =
    let loop = c.loop-count in
    let see = g.O.Observer.see in
    let graph = c.args.graph.now in
    let start = g.M.Moved.state c.args.m.now in
    let moves = g.M.SeenStepper.moves c.args.m.now in
    let before = g.O.Observer.seen c.args.observer.now in
    let now = g.M.Moved.state loop.m in
    let next = g.M.Moved.state c.step.new.self in
    let after = g.O.Observer.seen c.see.new.self in
    let step = c.step.ensures.step loop.invariant.fits in
    let changed = OnTrue_at c.if-not-step.false c.step.ensures.changed in
    let passed = c.pass_rounds-ahead.ensures in
    let ahead = c.pass_rounds-ahead.result in
    let recall = c.pass_rounds-ahead.new.recall in
    let more : SteppedSoFar see graph c.args.limit (c.args.limit - (loop.count + 1)) start (loop.count + 1) next before after =
    one_more next loop.invariant.so_far c.in_ok-see.ensures.seen (goes_on graph c.args.limit loop.count now next c.loop-count-test.true step changed) in
    let kept =
    seen-more see graph loop.recall loop.count now next (g.O.Observer.seen loop.observer) after loop.invariant.kept step changed c.in_ok-see.ensures.seen in
    record {
      so_far = subst
          (λ (state : List Tern).
          SteppedSoFar see graph c.args.limit (c.args.limit - (loop.count + 1 + ahead)) start (loop.count + 1 + ahead) state before after)
          (sym passed.state)
          (passed-on see graph loop.recall recall (loop.count + 1) ahead next after kept passed.recalls c.is_once_enough-once.result
          c.is_once_enough-once.ensures passed.each c.args.limit start before passed.left more);
      kept = subst (λ (state : List Tern). KeptSeen see graph recall (loop.count + 1 + ahead) state after) (sym passed.state)
          (seen-on see graph loop.recall recall (loop.count + 1) ahead next after kept passed.recalls);
      knows = subst (g.O.Observer.knows c.see.new.self) (sym passed.state) c.in_ok-see.ensures.knows;
      observer = c.in_ok-see.ensures.fixed ∙ loop.invariant.observer;
      fits = passed.fits graph (c.step.ensures.fits loop.invariant.fits);
      within = omega (arith, passed.left);
      nodes = ap length passed.state ∙ (c.step.ensures.nodes ∙ loop.invariant.nodes);
      moves = moved_ahead moves _ _ _ loop.count ahead loop.invariant.moves (OnTrue_at c.if-not-step.false c.step.ensures.moved) passed.moves;
      placed = passed.placed ∙ (c.step.ensures.placed ∙ loop.invariant.placed);
      fixed = passed.fixed ∙ (c.step.ensures.fixed ∙ loop.invariant.fixed);
    }

pub loop-count-smaller : goal.loop-count-smaller
loop-count-smaller g c = omega (arith, c.loop-count-test.true)

pub returns-clause-seen : goal.returns-clause-seen
returns-clause-seen g c =
    let loop = c.loop-count in
    ends_here loop.invariant.so_far refl refl
    (at_limit c.args.graph.now c.args.limit loop.count (g.M.Moved.state loop.m) c.loop-count-test.false)
