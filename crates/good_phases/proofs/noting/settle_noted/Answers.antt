-- A step more that changed something, and the one that changes nothing.
use Rattle.std.proofs.Common.{◌≡◌, length, sym, subst, ◌∙◌, arith}
use Rattle.std.proofs.lemmas.Bool.{OnTrue_at, OnFalse_at}
use Rattle.run_beside.specs.Agreeing.{IsMove}
use Rattle.run_beside.specs.Replacing.{IsReplacement}
use Rattle.beside_phases.proofs.WorkLemmas.{work_falls, work_most}
use Rattle.good_phases.proofs.GoodLemmas.{noted_none, noted_more, noted_settles}
use Rattle.good_phases.proofs.noting.settle_noted.Given.{Over}
use Rattle.good_phases.proofs.noting.settle_noted.Goals.{After-step_noted}
use Rattle.good_phases.proofs.noting.settle_noted.Goals as goal

pub loop-count-init : goal.loop-count-init
loop-count-init g c = record {
  passes = noted_none g.O.Observer.see c.args.graph.now c.args.limit c.args.machine.now c.args.run.now (g.O.Observer.seen c.args.onlooker.now) c.requires.fits;
  known = c.requires.known;
  bound = omega arith;
  knows = c.requires.knows;
}

pub step_noted-requires-clause-fits : goal.step_noted-requires-clause-fits
step_noted-requires-clause-fits g c = c.loop-count.invariant.passes.fits

pub step_noted-requires-clause-known : goal.step_noted-requires-clause-known
step_noted-requires-clause-known g c = c.loop-count.invariant.known

pub step_noted-requires-clause-knows : goal.step_noted-requires-clause-knows
step_noted-requires-clause-knows g c = c.loop-count.invariant.knows

-- the step is the replacement of its number
moved : (g : Over) (c : After-step_noted g) → IsReplacement c.args.graph.now c.args.limit c.loop-count.count c.loop-count.machine.state c.step_noted.new.machine.state
moved g c =
    subst (λ kind. IsMove kind c.args.graph.now c.loop-count.machine.state c.step_noted.new.machine.state) c.is_joining.ensures c.step_noted.ensures.moves

-- there are as many nodes
counted : (g : Over) (c : After-step_noted g) → length c.step_noted.new.machine.state ≡ length c.loop-count.machine.state
counted g c = c.step_noted.ensures.fits.covers.counted ∙ sym c.loop-count.invariant.passes.fits.covers.counted

pub loop-count-smaller : goal.loop-count-smaller
loop-count-smaller g c =
    let at_end = (goal.at.loop-count-smaller g c).After-step_noted in
    work_falls c.args.graph.now c.args.limit c.loop-count.count c.loop-count.machine.state c.step_noted.new.machine.state (counted g at_end) (moved g at_end)
    (OnTrue_at c.loop-count-test.true c.step_noted.ensures.changed)

pub overflow_add-count : goal.overflow_add-count
overflow_add-count g c =
    omega (arith, c.loop-count.invariant.bound, work_most c.args.limit 0 c.args.machine.now.state, c.requires.few)

pub loop-count-preserved : goal.loop-count-preserved
loop-count-preserved g c =
    let at_end = (goal.at.loop-count-preserved g c).After-step_noted in
    let inv = c.loop-count.invariant in
    let changed = OnTrue_at c.loop-count-test.true c.step_noted.ensures.changed in
    record {
      passes = noted_more g.O.Observer.see c.args.graph.now c.args.limit c.loop-count.count c.args.machine.now c.loop-count.machine c.step_noted.new.machine
          c.args.run.now c.loop-count.run c.step_noted.new.run (g.O.Observer.seen c.args.onlooker.now) (g.O.Observer.seen c.loop-count.onlooker)
          (g.O.Observer.seen c.step_noted.new.onlooker) inv.passes c.step_noted.ensures.fits c.step_noted.ensures.last (moved g at_end) changed
          (OnTrue_at c.loop-count-test.true c.step_noted.ensures.noted) (OnTrue_at c.loop-count-test.true c.step_noted.ensures.seen);
      known = c.step_noted.ensures.known;
      bound = omega (
        arith,
        inv.bound,
        work_falls c.args.graph.now c.args.limit c.loop-count.count c.loop-count.machine.state c.step_noted.new.machine.state (counted g at_end)
            (moved g at_end) changed,
      );
      knows = c.step_noted.ensures.knows;
    }

pub returns-clause-settles : goal.returns-clause-settles
returns-clause-settles g c =
    let at_end = (goal.at.returns-clause-settles g c).After-step_noted in
    noted_settles g.O.Observer.see c.args.graph.now c.args.limit c.loop-count.count c.args.machine.now c.loop-count.machine c.step_noted.new.machine
    c.args.run.now c.loop-count.run c.step_noted.new.run (g.O.Observer.seen c.args.onlooker.now) (g.O.Observer.seen c.loop-count.onlooker)
    (g.O.Observer.seen c.step_noted.new.onlooker) c.loop-count.invariant.passes c.step_noted.ensures.fits c.step_noted.ensures.last (moved g at_end)
    (OnFalse_at c.loop-count-test.false c.step_noted.ensures.same) (OnFalse_at c.loop-count-test.false c.step_noted.ensures.unnoted)
    (OnFalse_at c.loop-count-test.false c.step_noted.ensures.unseen) c.settled.result.steps c.settled.result.joined c.settled.ensures.steps c.settled.ensures.joined
