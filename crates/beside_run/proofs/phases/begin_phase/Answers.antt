-- What the good run placed, and then what was given.
use Rattle.std.proofs.Common.{◌+◌, sym, subst, ◌∙◌, arith}
use Rattle.machine_parts.specs.Running.{IsTaken}
use Rattle.good_run.specs.Recording.{state_before}
use Rattle.beside.proofs.PhaseLemmas.{taken_one}
use Rattle.beside_run.proofs.BeginningLemmas.{placed_then}
use Rattle.beside_run.proofs.RunningLemmas.{lags_given, rails_stay}
use Rattle.beside_run.proofs.phases.begin_phase.Goals.{After-changes_at-changes}
use Rattle.beside_run.proofs.phases.begin_phase.Goals as goal

-- the changes lead from the good state to the one with which the phase begins
changes_taken : (c : After-changes_at-changes) → IsTaken c.changes_at-changes.result.now c.args.good.now (state_before c.args.run.now (c.args.at + 1))
changes_taken c =
    subst (λ state. IsTaken c.changes_at-changes.result.now state (state_before c.args.run.now (c.args.at + 1))) (sym c.requires.here) c.changes_at-changes.ensures.taken

pub place_changes-requires : goal.place_changes-requires
place_changes-requires c =
    let taken = changes_taken (goal.at.place_changes-requires c).After-changes_at-changes in
    record {
      fits = c.requires.fits;
      inside = λ change there. omega (arith, c.changes_at-changes.ensures.inside change there, taken.count);
      rails = rails_stay c.args.good.now (state_before c.args.run.now (c.args.at + 1)) c.changes_at-changes.result.now c.requires.sound c.requires.sound_there taken;
      agreed = c.changes_at-changes.ensures.agreed;
      counted = c.requires.counted;
    }

pub place_given-requires : goal.place_given-requires
place_given-requires c =
    let placed = c.place_changes.ensures in
    record {
      fits = placed.places.fits;
      inside = omega (arith, c.requires.given, placed.places.fits.fits.covers.counted, c.requires.fits.fits.covers.counted);
      free = c.requires.free;
      counted = omega (arith, c.requires.counted, placed.places.fits.fits.covers.counted, c.requires.fits.fits.covers.counted);
      lags = lags_given c.args.state.now c.args.machine.now.state c.place_changes.new.machine.state c.args.given.now c.requires.lags placed.comes
          c.lists_what_is_in_it.ensures.listed;
    }

pub returns : goal.returns
returns c =
    let taken = changes_taken (goal.at.returns c).After-changes_at-changes in
    let placed = c.place_changes.ensures in
    record {
      places = placed_then c.args.good_graph.now c.args.graph.now c.args.machine.now c.place_changes.new.machine c.place_given.new.machine
          c.place_changes.new.good c.place_given.new.good c.place_changes.new.apart.inside c.place_given.new.apart.inside placed.places
          c.place_given.ensures.places;
      here = c.place_given.ensures.good
          ∙ taken_one c.changes_at-changes.result.now c.args.good.now c.place_changes.new.good (state_before c.args.run.now (c.args.at + 1)) placed.taken taken;
      state_is = c.place_given.ensures.state;
      given_counted = c.clear.ensures.count;
      given_none = c.clear.ensures.empty;
    }
