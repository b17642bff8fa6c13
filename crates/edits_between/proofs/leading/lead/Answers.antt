-- One edit more; behind the last one the graph is the target.
use Rattle.std.proofs.Common.{sym, ap, subst, ◌∙◌, arith}
use Rattle.std.specs.Prelude.{IfSome}
use Rattle.std.proofs.lemmas.Bool.{OnTrue_at}
use Rattle.switch_paths.specs.Graphs.{GraphData, IsWired, nodes}
use Rattle.machine_laws.specs.Fitting.{Covers}
use Rattle.edits_between.specs.Leading.{LedIn}
use Rattle.edits_between.proofs.LeadingLemmas.{covers_there, last_there, led_in_none, led_in_then}
use Rattle.edits_between.proofs.ReachingLemmas.{large_on, spots_first, spots_last, spots_on}
use Rattle.edits_between.proofs.leading.lead.Goals as goal

pub loop-number-init : goal.loop-number-init
loop-number-init g c = record {
  led = led_in_none c.args.graph.now c.args.slot.now c.requires.covers;
  large = c.requires.large;
  left = spots_first c.args.graph.now c.args.target.now c.args.apart.now.spots.items c.requires.apart;
}

pub spot-requires : goal.spot-requires
spot-requires g c = omega (arith, c.loop-number-test.true, c.count-number-end.ensures)

pub put-change-requires : goal.put-change-requires
put-change-requires g c = c.loop-number.invariant.large

pub follow-requires : goal.follow-requires
follow-requires g c =
    let was = c.put-change.ensures.before in
    let before = c.loop-number.invariant in
    let large = large_on c.args.target.now c.loop-number.graph c.put-change.new.graph c.spot.result c.put-change.ensures.put before.large in record {
      covers = subst (λ (h : GraphData). IfSome c.loop-number.slot (Covers h)) (sym was)
          (covers_there c.args.graph.now c.loop-number.graph c.args.slot.now c.loop-number.slot before.led);
      wired = subst IsWired (sym was) c.graphs_are_wired.ensures;
      nodes = sym large.nodes_are ∙ (before.large.nodes_are ∙ sym (ap nodes was));
    }

pub returns-then-not-follow-clause-last : goal.returns-then-not-follow-clause-last
returns-then-not-follow-clause-last g c =
    c.follow.ensures.last ∙ last_there c.args.graph.now c.loop-number.graph c.args.slot.now c.loop-number.slot c.loop-number.invariant.led

pub loop-number-preserved : goal.loop-number-preserved
loop-number-preserved g c = record {
  led = led_in_then c.args.graph.now c.loop-number.graph c.put-change.new.graph c.args.slot.now c.loop-number.slot c.follow.new.slot c.loop-number.invariant.led
      (subst (λ (h : GraphData). LedIn h c.put-change.new.graph c.loop-number.slot c.follow.new.slot) c.put-change.ensures.before
      (OnTrue_at c.if-not-follow.false c.follow.ensures.led));
  large = large_on c.args.target.now c.loop-number.graph c.put-change.new.graph c.spot.result c.put-change.ensures.put c.loop-number.invariant.large;
  left = spots_on c.args.target.now c.loop-number.graph c.put-change.new.graph c.args.apart.now.spots.items c.loop-number.number c.spot.result
      c.loop-number.invariant.left c.spot.ensures c.put-change.ensures.put;
}

pub returns-clause-led : goal.returns-clause-led
returns-clause-led g c =
    let left = c.loop-number.invariant in
    subst (λ (h : GraphData). LedIn c.args.graph.now h c.args.slot.now c.loop-number.slot)
    (spots_last c.args.target.now c.loop-number.graph c.args.apart.now.spots.items c.loop-number.number left.left left.large
    (omega (arith, c.loop-number-test.false, c.count-number-end.ensures))) left.led

pub returns-clause-graph : goal.returns-clause-graph
returns-clause-graph g c =
    let left = c.loop-number.invariant in
    spots_last c.args.target.now c.loop-number.graph c.args.apart.now.spots.items c.loop-number.number left.left left.large
    (omega (arith, c.loop-number-test.false, c.count-number-end.ensures))

pub returns-clause-last : goal.returns-clause-last
returns-clause-last g c = last_there c.args.graph.now c.loop-number.graph c.args.slot.now c.loop-number.slot c.loop-number.invariant.led
