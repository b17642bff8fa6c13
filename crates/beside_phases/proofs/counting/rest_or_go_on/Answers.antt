-- Some replacement changed nothing, so nothing is left to do; or each changed something: then one more does, until one changes nothing.
use Rattle.std.proofs.Common.{◌≡◌, [], length, refl, sym, subst, ◌∙◌, arith}
use Rattle.std.proofs.lemmas.Bool.{OnTrue_at, OnFalse_at}
use Rattle.run_beside.specs.Agreeing.{IsMove}
use Rattle.run_beside.specs.Replacing.{IsReplacement}
use Rattle.beside.specs.Fitting.{FitsBeside}
use Rattle.beside.proofs.PhaseLemmas.{kind_of, taken_none}
use Rattle.beside_phases.proofs.CountingLemmas.{passes_none, passes_more, passes_same, replaced}
use Rattle.beside_phases.proofs.WorkLemmas.{work_falls, work_most}
use Rattle.beside_phases.proofs.counting.rest_or_go_on.Given.{Over}
use Rattle.beside_phases.proofs.counting.rest_or_go_on.Goals.{After-step_seen}
use Rattle.beside_phases.proofs.counting.rest_or_go_on.Goals as goal

pub returns-then-moved-all-clause-rests : goal.returns-then-moved-all-clause-rests
returns-then-moved-all-clause-rests g c = record {
  passes = passes_none g.O.Observer.see c.args.good_graph.now c.args.graph.now c.args.limit c.args.moved c.args.machine.now c.args.good.now
      c.args.apart.now.inside (g.O.Observer.seen c.args.onlooker.now) c.requires.fits;
  rests = c.requires.rests c.if-moved-all.true;
}

pub loop-count-init : goal.loop-count-init
loop-count-init g c = record {
  passes = passes_none g.O.Observer.see c.args.good_graph.now c.args.graph.now c.args.limit c.args.moved c.args.machine.now c.args.good.now
      c.args.apart.now.inside (g.O.Observer.seen c.args.onlooker.now) c.requires.fits;
  low = omega arith;
  same = refl;
  bound = omega arith;
  knows = c.requires.knows;
}

pub step_seen-requires : goal.step_seen-requires
step_seen-requires g c =
    let fits = c.loop-count.invariant.passes.fits in
    record {
      counted = fits.good_counted;
      inside = λ change there. absurd (omega (arith, there.1));
      agreed = λ one two here there same. absurd (omega (arith, here.1));
      apart = fits.apart_counted;
      marked = fits.only;
      kept = fits.kept;
      knows = c.loop-count.invariant.knows;
    }

-- the step is the replacement of its number, and the machine fits beside the good run again
stepped : (g : Over) (c : After-step_seen g) →
    IsReplacement c.args.graph.now c.args.limit c.loop-count.count c.loop-count.machine.state c.step_seen.new.machine.state
    × FitsBeside c.args.good_graph.now c.args.graph.now c.step_seen.new.good c.step_seen.new.apart.inside c.step_seen.new.machine
stepped g c =
    let good_graph = c.args.good_graph.now in
    let limit = c.args.limit in
    let count = c.loop-count.count in
    let good = c.loop-count.good in
    let inv = c.loop-count.invariant in
    let joining = c.is_joining.result in
    let stays : IsReplacement good_graph limit count good good =
    subst (λ state. IsReplacement good_graph limit count state state) (sym inv.same) (c.requires.stays count (omega (arith, inv.low, c.if-moved-all.false))) in
    let good_same = taken_none good c.step_seen.new.good c.step_seen.ensures.good in
    let move : IsMove joining good_graph good c.step_seen.new.good =
    subst (IsMove joining good_graph good) (sym good_same) (kind_of good_graph limit count good good joining c.is_joining.ensures stays) in
    replaced good_graph c.args.graph.now c.graphs_are_wired.ensures c.graphs_are_wired-2.ensures limit count c.loop-count.machine c.step_seen.new.machine good
    c.step_seen.new.good c.loop-count.apart.inside c.step_seen.new.apart.inside [] joining c.is_joining.ensures inv.passes.fits move c.step_seen.ensures.good
    c.step_seen.ensures.advances c.step_seen.ensures.kept

-- there are as many nodes
counted : (g : Over) (c : After-step_seen g) → length c.step_seen.new.machine.state ≡ length c.loop-count.machine.state
counted g c = (stepped g c).1.fits.covers.counted ∙ sym c.loop-count.invariant.passes.fits.fits.covers.counted

pub loop-count-smaller : goal.loop-count-smaller
loop-count-smaller g c =
    let at_end = (goal.at.loop-count-smaller g c).After-step_seen in
    work_falls c.args.graph.now c.args.limit c.loop-count.count c.loop-count.machine.state c.step_seen.new.machine.state (counted g at_end) (stepped g at_end).0
    (OnTrue_at c.loop-count-test.true c.step_seen.ensures.changed)

pub loop-count-preserved : goal.loop-count-preserved
loop-count-preserved g c =
    let at_end = (goal.at.loop-count-preserved g c).After-step_seen in
    let inv = c.loop-count.invariant in
    let changed = OnTrue_at c.loop-count-test.true c.step_seen.ensures.changed in
    let falls = work_falls c.args.graph.now c.args.limit c.loop-count.count c.loop-count.machine.state c.step_seen.new.machine.state (counted g at_end)
    (stepped g at_end).0 changed in
    record {
      passes = passes_more g.O.Observer.see c.args.good_graph.now c.args.graph.now c.args.limit c.args.moved c.loop-count.count c.args.machine.now
          c.loop-count.machine c.step_seen.new.machine c.loop-count.good c.step_seen.new.good c.loop-count.apart.inside c.step_seen.new.apart.inside []
          c.is_joining.result (g.O.Observer.seen c.args.onlooker.now) (g.O.Observer.seen c.loop-count.onlooker) inv.passes (stepped g at_end).1
          c.step_seen.ensures.advances (g.O.Observer.seen c.step_seen.new.onlooker) (stepped g at_end).0 changed
          (OnTrue_at c.loop-count-test.true c.step_seen.ensures.seen);
      low = omega (arith, inv.low);
      same = taken_none c.loop-count.good c.step_seen.new.good c.step_seen.ensures.good ∙ inv.same;
      bound = omega (arith, inv.bound, falls);
      knows = c.step_seen.ensures.knows;
    }

pub overflow_add-count : goal.overflow_add-count
overflow_add-count g c =
    omega (arith, c.loop-count.invariant.bound, work_most c.args.limit c.args.moved c.args.machine.now.state, c.requires.most, c.requires.few)

pub returns-clause-rests : goal.returns-clause-rests
returns-clause-rests g c =
    let at_end = (goal.at.returns-clause-rests g c).After-step_seen in
    let inv = c.loop-count.invariant in
    let same = OnFalse_at c.loop-count-test.false c.step_seen.ensures.same in
    record {
      passes = passes_same g.O.Observer.see c.args.good_graph.now c.args.graph.now c.args.limit c.args.moved c.loop-count.count c.args.machine.now
          c.loop-count.machine c.step_seen.new.machine c.loop-count.good c.step_seen.new.good c.loop-count.apart.inside c.step_seen.new.apart.inside []
          c.is_joining.result (g.O.Observer.seen c.args.onlooker.now) (g.O.Observer.seen c.loop-count.onlooker) inv.passes (stepped g at_end).1
          c.step_seen.ensures.advances (g.O.Observer.seen c.step_seen.new.onlooker) same (OnFalse_at c.loop-count-test.false c.step_seen.ensures.unseen);
      rests = subst (λ state. IsReplacement c.args.graph.now c.args.limit c.loop-count.count state c.step_seen.new.machine.state) (sym same) (stepped g at_end).0;
    }

pub returns-clause-good : goal.returns-clause-good
returns-clause-good g c = taken_none c.loop-count.good c.step_seen.new.good c.step_seen.ensures.good ∙ c.loop-count.invariant.same
