-- The phase begins in both runs, both settle, and parts go back.
use Rattle.std.proofs.Common.{length, sym, ap, subst, ◌∙◌, arith}
use Rattle.beside_run.proofs.RunningLemmas.{settles_run}
use Rattle.beside_run.proofs.phases.settle_phase.Goals as goal

pub begin_phase-requires : goal.begin_phase-requires
begin_phase-requires g c =
    let is = c.requires.beside in
    record {
      fits = is.fits;
      here = is.here;
      inside = c.requires.beat.inside;
      sound = is.sound;
      sound_there = c.requires.beat.begins_sound;
      counted = is.state_counted;
      given = is.given_counted;
      free = is.free;
      lags = is.lags;
    }

pub settle_counted-told-requires : goal.settle_counted-told-requires
settle_counted-told-requires g c =
    let is = c.requires.beside in
    let begun = c.begin_phase.ensures in
    record {
      fits = begun.places.fits;
      phase = c.requires.beat.phase;
      begins = begun.here;
      few = omega (arith, c.requires.few, begun.places.fits.fits.covers.counted, is.fits.fits.covers.counted);
      knows = subst (g.O.Observer.knows c.args.onlooker.now) (sym begun.state_is) c.requires.knows;
    }

pub go_back-requires : goal.go_back-requires
go_back-requires g c =
    let is = c.requires.beside in
    let begun = c.begin_phase.ensures in
    let settles = c.settle_counted-told.ensures.settles in
    let parts = settles.held.parts ∙ begun.places.held.parts in
    record {
      counted = settles.fits.apart_counted;
      touched = is.touched_counted ∙ sym (ap length parts);
      room = is.room_counted ∙ sym (ap length parts);
      good = settles.fits.good_counted;
    }

pub returns-clause-settles : goal.returns-clause-settles
returns-clause-settles g c =
    settles_run g.O.Observer.see c.args.good_graph.now c.args.run.now c.args.graph.now c.args.beat.limit c.settle_counted-told.result.steps
    c.settle_counted-told.result.joined c.args.machine.now c.begin_phase.new.machine c.settle_counted-told.new.machine c.args.state.now _ c.args.beat.begin
    c.args.beat.end c.begin_phase.new.good c.settle_counted-told.new.good c.begin_phase.new.apart c.settle_counted-told.new.apart c.go_back.new.apart
    c.go_back.new.room c.begin_phase.new.given (g.O.Observer.seen c.args.onlooker.now)
    (g.O.Observer.seen c.settle_counted-told.new.onlooker) c.requires.beside c.begin_phase.ensures c.settle_counted-told.ensures.settles
    c.settle_counted-told.ensures.ends c.requires.beat.ends_sound c.go_back.ensures.back c.go_back.ensures.room
