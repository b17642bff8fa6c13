-- One node more is placed.
use Rattle.std.proofs.Common.{◌<◌, length, refl, ◌∙◌, arith}
use Rattle.beside_run.proofs.BeginningLemmas.{lags_end, lags_more, lags_start, placed_none, placed_then}
use Rattle.beside_run.proofs.beginning.place_given.Goals as goal

pub loop-place-init : goal.loop-place-init
loop-place-init c = record {
  places = placed_none c.args.good_graph.now c.args.graph.now c.args.machine.now c.args.good.now c.args.apart.now.inside c.requires.fits;
  same = refl;
  lags = lags_start c.args.given.now.list c.args.state.now c.args.machine.now.state c.requires.lags;
}

pub at-node-requires : goal.at-node-requires
at-node-requires c = omega (arith, c.loop-place-test.true, c.len-count.ensures.value)

pub place_meant-requires : goal.place_meant-requires
place_meant-requires c =
    let inv = c.loop-place.invariant in
    let nodes = inv.places.fits.fits.covers.counted in
    record {
      fits = inv.places.fits;
      inside = omega (arith, c.at-node.ensures.within, c.requires.inside, nodes, c.requires.fits.fits.covers.counted);
      no_rail = c.requires.free c.at-node.result c.at-node.ensures.inside;
      counted = omega (arith, c.requires.counted, nodes, c.requires.fits.fits.covers.counted);
    }

pub loop-place-preserved : goal.loop-place-preserved
loop-place-preserved c =
    let inv = c.loop-place.invariant in
    let one = c.place_meant.ensures in
    let inside : c.at-node.result < length c.loop-place.machine.state =
    omega (arith, c.at-node.ensures.within, c.requires.inside, inv.places.fits.fits.covers.counted, c.requires.fits.fits.covers.counted) in
    record {
      places = placed_then c.args.good_graph.now c.args.graph.now c.args.machine.now c.loop-place.machine c.place_meant.new.machine c.loop-place.good
          c.place_meant.new.good c.loop-place.apart.inside c.place_meant.new.apart.inside inv.places one.places;
      same = one.good ∙ inv.same;
      lags = lags_more c.loop-place.place c.args.given.now.list c.args.state.now c.loop-place.machine.state c.place_meant.new.machine.state c.at-node.result
          c.at-node.ensures.value inside one.state inv.lags;
    }

pub returns-clause-places : goal.returns-clause-places
returns-clause-places c = c.loop-place.invariant.places

pub returns-clause-good : goal.returns-clause-good
returns-clause-good c = c.loop-place.invariant.same

pub returns-clause-state : goal.returns-clause-state
returns-clause-state c =
    let inv = c.loop-place.invariant in
    lags_end c.loop-place.place c.args.given.now.list c.args.state.now c.loop-place.machine.state (omega (arith, c.loop-place-test.false, c.len-count.ensures.value))
    (omega (arith, c.requires.counted, inv.places.fits.fits.covers.counted, c.requires.fits.fits.covers.counted)) inv.lags
