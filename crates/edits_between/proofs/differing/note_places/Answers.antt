-- One place more.
use Rattle.std.proofs.Common.{◌≡◌, arith}
use Rattle.switch_paths.specs.Graphs.{place_at}
use Rattle.edits_between.specs.declared.differing.Spot.TheVariants.{Place}
use Rattle.edits_between.proofs.NotingLemmas.{noted_on}
use Rattle.edits_between.proofs.differing.note_places.Goals as goal

pub loop-place-init : goal.loop-place-init
loop-place-init c = λ k low. absurd (omega (arith, low))

pub stand_alike-alike-requires : goal.stand_alike-alike-requires
stand_alike-alike-requires c = record {
  one = omega (arith, c.loop-place-test.true, c.places-place-end.ensures);
  other = omega (arith, c.loop-place-test.true, c.places-place-end.ensures, c.requires.places_are);
}

pub loop-place-preserved : goal.loop-place-preserved
loop-place-preserved c =
    noted_on (λ place. place_at c.args.one.now.places place ≡ place_at c.args.other.now.places place) Place c.loop-place.spots.items c.note.new.spots.items
    c.loop-place.place c.stand_alike-alike.result c.loop-place.invariant c.in_ok-note.ensures.kept c.in_ok-note.ensures.noted c.stand_alike-alike.ensures

pub returns : goal.returns
returns c = λ place inside. c.loop-place.invariant place (omega (arith, inside, c.loop-place-test.false, c.places-place-end.ensures))
