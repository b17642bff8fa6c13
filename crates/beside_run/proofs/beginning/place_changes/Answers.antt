-- One change more.
use Rattle.std.proofs.Common.{inl, get_or, refl, subst, arith}
use Rattle.std.proofs.lemmas.List.{take_all}
use Rattle.std.proofs.lemmas.List.Elements.{Contains-get_or}
use Rattle.ternary.specs.declared.tern.Tern.TheVariants.{Zero}
use Rattle.part_words.specs.declared.change.Change.{Change}
use Rattle.machine_parts.specs.Running.{IsTaken}
use Rattle.beside_run.proofs.BeginningLemmas.{comes_then, placed_none, placed_then, rail_stays, taken_more, taken_start}
use Rattle.beside_run.proofs.beginning.place_changes.Goals as goal

first : Change
first = record { node = 0; value = Zero }

pub loop-change-init : goal.loop-change-init
loop-change-init c = record {
  places = placed_none c.args.good_graph.now c.args.graph.now c.args.machine.now c.args.good.now c.args.apart.now.inside c.requires.fits;
  taken = taken_start c.args.changes.now c.args.good.now;
  comes = λ n. inl refl;
}

pub place_change-requires : goal.place_change-requires
unfolding first
place_change-requires c =
    let changes = c.args.changes.now in
    let i = c.loop-change.change-index in
    let inv = c.loop-change.invariant in
    let there = Contains-get_or changes i first c.loop-change-test.true in
    record {
      fits = inv.places.fits;
      inside = omega (arith, c.requires.inside _ there, inv.taken.count);
      rail = λ rail. rail_stays changes i c.args.good.now c.loop-change.good (get_or changes i first) there c.requires.agreed inv.taken (c.requires.rails _ there rail);
      counted = omega (arith, c.requires.counted, inv.places.fits.good_counted, c.requires.fits.good_counted, inv.taken.count);
    }

pub loop-change-preserved : goal.loop-change-preserved
unfolding first
loop-change-preserved c =
    let changes = c.args.changes.now in
    let i = c.loop-change.change-index in
    let inv = c.loop-change.invariant in
    let one = c.place_change.ensures in
    let there = Contains-get_or changes i first c.loop-change-test.true in
    record {
      places = placed_then c.args.good_graph.now c.args.graph.now c.args.machine.now c.loop-change.machine c.place_change.new.machine c.loop-change.good
          c.place_change.new.good c.loop-change.apart.inside c.place_change.new.apart.inside inv.places one.places;
      taken = taken_more changes i (get_or changes i first) first c.args.good.now c.loop-change.good c.place_change.new.good c.loop-change-test.true refl there
          (omega (arith, c.requires.inside _ there, inv.taken.count)) c.requires.agreed inv.taken one.good_is;
      comes = comes_then c.args.state.now c.args.machine.now.state c.loop-change.machine.state c.place_change.new.machine.state inv.comes one.comes;
    }

pub returns : goal.returns
returns c = record {
  places = c.loop-change.invariant.places;
  taken = subst (λ list. IsTaken list c.args.good.now c.loop-change.good) (take_all c.loop-change.change-index c.args.changes.now (omega (arith, c.loop-change-test.false)))
      c.loop-change.invariant.taken;
  comes = c.loop-change.invariant.comes;
}
