-- A step of the good run's phase more; then the steps behind those: all of them settle.
use Rattle.std.proofs.Common.{◌≡◌, ◌+◌, ◌-◌, ◌<◌, not, nat_lt, sym, ap, subst, ◌∙◌, arith}
use Rattle.machine_parts.specs.Running.{IsTaken}
use Rattle.good_run.specs.Recording.{state_before}
use Rattle.run_beside.specs.Agreeing.{IsMove}
use Rattle.run_beside.specs.Replacing.{IsReplacement}
use Rattle.beside.proofs.PhaseLemmas.{kind_of, taken_one}
use Rattle.beside_phases.specs.Counting.{CountsBeside}
use Rattle.beside_phases.proofs.CountingLemmas.{counts_none, counts_more, passes_then, replaced, settles_seen}
use Rattle.beside_phases.proofs.counting.settle_counted.Goals as goal

pub loop-at-init : goal.loop-at-init
loop-at-init g c =
    let see = g.O.Observer.see in
    let none : c.args.first - c.args.first ≡ 0 = omega arith in
    record {
      counts = subst (λ n. CountsBeside see c.args.good_graph.now c.args.graph.now c.args.limit n 0 c.args.machine.now c.args.machine.now c.args.good.now
          c.args.apart.now.inside (g.O.Observer.seen c.args.onlooker.now) (g.O.Observer.seen c.args.onlooker.now)) (sym none)
          (counts_none see c.args.good_graph.now c.args.graph.now c.args.limit c.args.machine.now c.args.good.now c.args.apart.now.inside
          (g.O.Observer.seen c.args.onlooker.now) c.requires.fits);
      low = omega arith;
      high = c.requires.phase.ordered;
      here = c.requires.begins;
      knows = c.requires.knows;
    }

pub looks_between-requires : goal.looks_between-requires
looks_between-requires g c = c.loop-at.invariant.low

pub changes_at-changes-requires : goal.changes_at-changes-requires
changes_at-changes-requires g c = omega (arith, c.loop-at-test.true, c.requires.phase.inside)

pub step_seen-changed-requires : goal.step_seen-changed-requires
step_seen-changed-requires g c =
    let fits = c.loop-at.invariant.counts.passes.fits in
    let next = state_before c.args.run.now (c.loop-at.at + 1) in
    let changes = c.changes_at-changes.result.now in
    let before : IsTaken changes c.loop-at.good next =
    subst (λ state. IsTaken changes state next) (sym c.loop-at.invariant.here) c.changes_at-changes.ensures.taken in
    record {
      counted = fits.good_counted;
      inside = λ change there. omega (arith, c.changes_at-changes.ensures.inside change there, before.count);
      agreed = c.changes_at-changes.ensures.agreed;
      apart = fits.apart_counted;
      marked = fits.only;
      kept = fits.kept;
      knows = c.loop-at.invariant.knows;
    }

pub one_more_if-moved-requires : goal.one_more_if-moved-requires
one_more_if-moved-requires g c = omega (arith, c.loop-at.invariant.counts.few, c.loop-at.invariant.low, c.loop-at-test.true)

pub loop-at-preserved : goal.loop-at-preserved
loop-at-preserved g c =
    let see = g.O.Observer.see in
    let good_graph = c.args.good_graph.now in
    let graph = c.args.graph.now in
    let limit = c.args.limit in
    let run = c.args.run.now in
    let at = c.loop-at.at in
    let first = c.args.first in
    let count = at - first in
    let inv = c.loop-at.invariant in
    let joining = c.is_joining-joining.result in
    let changes = c.changes_at-changes.result.now in
    let next = state_before run (at + 1) in
    let step = c.step_seen-changed in
    let before : IsTaken changes c.loop-at.good next =
    subst (λ state. IsTaken changes state next) (sym inv.here) c.changes_at-changes.ensures.taken in
    let same = taken_one changes c.loop-at.good step.new.good next step.ensures.good before in
    let place : first + count ≡ at = omega (arith, inv.low) in
    let inside : first + count < c.args.end = omega (arith, c.loop-at-test.true, inv.low) in
    let taken : IsReplacement good_graph limit count (state_before run at) next =
    subst (λ n. IsReplacement good_graph limit count (state_before run n) (state_before run (n + 1))) place (c.requires.phase.moves count inside) in
    let kind : joining ≡ not (nat_lt count limit) = c.is_joining-joining.ensures ∙ ap (λ n. not (nat_lt n limit)) c.looks_between.ensures in
    let move : IsMove joining good_graph c.loop-at.good step.new.good =
    subst (λ state. IsMove joining good_graph state step.new.good) (sym inv.here)
    (subst (IsMove joining good_graph (state_before run at)) (sym same) (kind_of good_graph limit count (state_before run at) next joining kind taken)) in
    let (moved, fits) = replaced good_graph graph c.graphs_are_wired.ensures c.graphs_are_wired-2.ensures limit count c.loop-at.machine step.new.machine
    c.loop-at.good step.new.good c.loop-at.apart.inside step.new.apart.inside changes joining kind inv.counts.passes.fits move step.ensures.good
    step.ensures.advances step.ensures.kept in
    let on : count + 1 ≡ at + 1 - first = omega (arith, inv.low) in
    record {
      counts = subst (λ n. CountsBeside see good_graph graph limit n c.one_more_if-moved.result c.args.machine.now step.new.machine step.new.good
          step.new.apart.inside (g.O.Observer.seen c.args.onlooker.now) (g.O.Observer.seen step.new.onlooker)) on
          (counts_more see good_graph graph limit count c.loop-at.moved c.args.machine.now c.loop-at.machine step.new.machine c.loop-at.good step.new.good
          c.loop-at.apart.inside step.new.apart.inside changes joining (g.O.Observer.seen c.args.onlooker.now) (g.O.Observer.seen c.loop-at.onlooker) inv.counts
          fits step.ensures.advances moved step.result (g.O.Observer.seen step.new.onlooker) c.one_more_if-moved.result step.ensures.changed step.ensures.same
          step.ensures.seen step.ensures.unseen c.one_more_if-moved.ensures.yes c.one_more_if-moved.ensures.no);
      low = omega (arith, inv.low);
      high = omega (arith, c.loop-at-test.true);
      here = same;
      knows = step.ensures.knows;
    }

pub looks_between-all-requires : goal.looks_between-all-requires
looks_between-all-requires g c = c.requires.phase.ordered

pub rest_or_go_on-count-requires : goal.rest_or_go_on-count-requires
rest_or_go_on-count-requires g c =
    let inv = c.loop-at.invariant in
    let counts = inv.counts in
    let at_end : c.loop-at.at ≡ c.args.end = omega (arith, inv.high, c.loop-at-test.false) in
    let all = c.looks_between-all.ensures in
    record {
      fits = counts.passes.fits;
      most = omega (arith, counts.few, at_end, all);
      rests = λ less. counts.rests (omega (arith, less, at_end, all));
      stays = λ n most.
          subst (λ state. IsReplacement c.args.good_graph.now c.args.limit n state state) (sym (inv.here ∙ ap (state_before c.args.run.now) at_end))
          (c.requires.phase.stays n (omega (arith, most, all)));
      few = omega (arith, c.requires.few, all, counts.passes.fits.fits.covers.counted, c.requires.fits.fits.covers.counted);
      knows = inv.knows;
    }

pub returns-clause-settles : goal.returns-clause-settles
returns-clause-settles g c =
    let see = g.O.Observer.see in
    let seen = g.O.Observer.seen in
    let good_graph = c.args.good_graph.now in
    let graph = c.args.graph.now in
    let count = c.rest_or_go_on-count.result in
    let rests = c.rest_or_go_on-count.ensures.rests in
    settles_seen see good_graph graph c.args.limit count c.args.machine.now c.rest_or_go_on-count.new.machine c.rest_or_go_on-count.new.good
    c.rest_or_go_on-count.new.apart.inside (seen c.args.onlooker.now) (seen c.rest_or_go_on-count.new.onlooker)
    (passes_then see good_graph graph c.args.limit 0 c.loop-at.moved count c.args.machine.now c.loop-at.machine
    c.rest_or_go_on-count.new.machine c.loop-at.good c.rest_or_go_on-count.new.good c.loop-at.apart.inside
    c.rest_or_go_on-count.new.apart.inside (seen c.args.onlooker.now) (seen c.loop-at.onlooker) (seen c.rest_or_go_on-count.new.onlooker)
    c.loop-at.invariant.counts.passes rests.passes) rests.rests c.settled.result.steps c.settled.result.joined c.settled.ensures.steps c.settled.ensures.joined

pub returns-clause-ends : goal.returns-clause-ends
returns-clause-ends g c =
    let at_end : c.loop-at.at ≡ c.args.end = omega (arith, c.loop-at.invariant.high, c.loop-at-test.false) in
    c.rest_or_go_on-count.ensures.good ∙ (c.loop-at.invariant.here ∙ ap (state_before c.args.run.now) at_end)
