-- The clocks stay through a cycle, so each place is within it; a fault in a phase leaves a part of the rows of the whole cycle.
use Rattle.std.proofs.Common.{◌≡◌, ℕ, ◌*◌, length, ap, ap₂, subst, sym, ◌∙◌, refl, rules, arith}
use Rattle.std.specs.List.{range_with_len}
use Rattle.std.proofs.lemmas.Result.{err_from_is_err_and}
use Rattle.session_meaning.specs.Columns.{BeatsInAll}
use Rattle.session_meaning.specs.Passing.{SeesBeats}
use Rattle.session_meaning.specs.Sessions.{places_of}
use Rattle.session_meaning.proofs.BeatLemmas.{places-next}
use Rattle.session_meaning.proofs.BeatRowLemmas.{in_all-beat, in_all-beat_stopped, in_all-none}
use Rattle.session_meaning.proofs.ColumnLemmas.{beat_put, column_ready}
use Rattle.session_meaning.proofs.MoveLemmas.{setup-more, setup-put, setup-same}
use Rattle.session_meaning.proofs.PassingLemmas.{beat_seen, beats_seen-first, known-put}
use Rattle.cosmos_session.proofs.session.Session.run_cycle.Goals as goal

pub loop-place-init : goal.loop-place-init
loop-place-init g c =
    let start = c.args.self.now in
    record {
      end = search rules;
      done = in_all-none g.L.Lines.hear g.L.Lines.part g.M.Columns.columns g.M.Columns.states g.M.Columns.did start (g.L.Lines.heard c.args.out.now);
      fits = c.requires.fits;
      columns = refl;
      setup = setup-same start.core;
      room = refl;
      line = refl;
      seen = λ shown. beats_seen-first g.O.Observer.begin g.O.Observer.see g.O.Observer.rest start.core (g.O.Observer.seen c.args.onlooker.now);
      knows = c.requires.knows;
      faults = refl;
      refusals = refl;
    }

pub put_clocks-requires-clause-place : goal.put_clocks-requires-clause-place
put_clocks-requires-clause-place g c = omega (arith, ap places_of c.loop-place.invariant.setup.clocks, c.loop-place.invariant.end)

pub settle_and_tell-requires-clause-counts : goal.settle_and_tell-requires-clause-counts
settle_and_tell-requires-clause-counts g c =
    c.loop-place.auto.counts ∙ c.requires.counts ∙ sym (c.put_clocks.ensures.columns ∙ c.loop-place.invariant.columns)

pub settle_and_tell-requires-clause-room : goal.settle_and_tell-requires-clause-room
settle_and_tell-requires-clause-room g c =
    let setup = setup-put c.args.self.now.core c.loop-place.self.core c.put_clocks.new.self.core c.loop-place.place c.loop-place.invariant.setup
    c.put_clocks.ensures.beat in
    omega (
      arith,
      ap₂ (λ (columns width : ℕ). columns * width) (c.put_clocks.ensures.columns ∙ c.loop-place.invariant.columns) (ap length setup.watched),
      c.loop-place.invariant.room,
      c.requires.room,
    )

pub settle_and_tell-requires-clause-line : goal.settle_and_tell-requires-clause-line
settle_and_tell-requires-clause-line g c =
    omega (arith, c.put_clocks.ensures.columns ∙ c.loop-place.invariant.columns, c.loop-place.invariant.line, c.requires.line)

pub settle_and_tell-requires-clause-knows : goal.settle_and_tell-requires-clause-knows
settle_and_tell-requires-clause-knows g c = λ shown.
    known-put g.O.Observer.knows c.loop-place.onlooker c.args.self.now.core c.loop-place.self.core c.put_clocks.new.self.core c.loop-place.place
    c.requires.session.core c.loop-place.invariant.setup c.is_well_formed.ensures.core.ready.states c.put_clocks.ensures.beat
    (c.loop-place.invariant.knows shown)

pub returns-in_err-settle_and_tell-clause-beats : goal.returns-in_err-settle_and_tell-clause-beats
returns-in_err-settle_and_tell-clause-beats g c =
    let stopped = err_from_is_err_and c.from_residual.result c.from_residual.ensures.1 in
    let start = c.args.self.now in
    let now = c.loop-place.self in
    let put = c.put_clocks.new.self in
    let next = c.settle_and_tell.new.self in
    let place = c.loop-place.place in
    rw stopped.1 (in_all-beat_stopped g.L.Lines.hear g.L.Lines.part g.M.Columns.columns g.M.Columns.states g.M.Columns.did now put next place
    (g.L.Lines.heard c.loop-place.out) (g.L.Lines.heard c.settle_and_tell.new.out)
    (beat_put g.M.Columns.columns g.M.Columns.states now put place c.put_clocks.ensures.beat c.put_clocks.ensures.states) c.put_clocks.ensures.stage
    (setup-put now.core now.core put.core place (setup-same now.core) c.put_clocks.ensures.beat) c.put_clocks.ensures.columns start
    (g.L.Lines.heard c.args.out.now) c.loop-place.invariant.setup c.loop-place.invariant.columns c.loop-place.invariant.done
    (places_of start.core.clocks) c.in_err-settle_and_tell.field-0.0
    (column_ready g.M.Columns.columns g.M.Columns.states g.M.Columns.serves start c.requires.session) (omega (arith, c.loop-place.invariant.end))
    c.in_err-settle_and_tell.ensures.moves)

pub returns-in_err-settle_and_tell-clause-columns : goal.returns-in_err-settle_and_tell-clause-columns
returns-in_err-settle_and_tell-clause-columns g c = c.settle_and_tell.ensures.columns ∙ c.put_clocks.ensures.columns ∙ c.loop-place.invariant.columns

pub returns-in_err-settle_and_tell-clause-setup : goal.returns-in_err-settle_and_tell-clause-setup
returns-in_err-settle_and_tell-clause-setup g c =
    let start = c.args.self.now.core in
    let put = c.put_clocks.new.self.core in
    setup-more start put c.settle_and_tell.new.self.core
    (setup-put start c.loop-place.self.core put c.loop-place.place c.loop-place.invariant.setup c.put_clocks.ensures.beat) c.settle_and_tell.ensures.setup

pub loop-place-preserved : goal.loop-place-preserved
loop-place-preserved g c =
    let start = c.args.self.now in
    let now = c.loop-place.self in
    let put = c.put_clocks.new.self in
    let next = c.settle_and_tell.new.self in
    let place = c.loop-place.place in
    record {
      end = c.loop-place.invariant.end;
      done = in_all-beat g.L.Lines.hear g.L.Lines.part g.M.Columns.columns g.M.Columns.states g.M.Columns.did now put next place
          (g.L.Lines.heard c.loop-place.out) (g.L.Lines.heard c.settle_and_tell.new.out)
          (beat_put g.M.Columns.columns g.M.Columns.states now put place c.put_clocks.ensures.beat c.put_clocks.ensures.states) c.put_clocks.ensures.stage
          (setup-put now.core now.core put.core place (setup-same now.core) c.put_clocks.ensures.beat) c.put_clocks.ensures.columns start
          (g.L.Lines.heard c.args.out.now) c.loop-place.invariant.setup c.loop-place.invariant.columns c.loop-place.invariant.done
          c.in_ok-settle_and_tell.ensures.moves;
      fits = c.settle_and_tell.ensures.fits;
      columns = c.settle_and_tell.ensures.columns ∙ c.put_clocks.ensures.columns ∙ c.loop-place.invariant.columns;
      setup = setup-more start.core put.core next.core
          (setup-put start.core now.core put.core place c.loop-place.invariant.setup c.put_clocks.ensures.beat) c.settle_and_tell.ensures.setup;
      room = c.settle_and_tell.ensures.room ∙ c.loop-place.invariant.room;
      line = c.settle_and_tell.ensures.line ∙ c.loop-place.invariant.line;
      seen = λ shown. rw (places-next place)
          (beat_seen g.O.Observer.begin g.O.Observer.see g.O.Observer.rest start.core now.core put.core next.core
          (range_with_len 0 place) place (g.O.Observer.seen c.args.onlooker.now) (g.O.Observer.seen c.loop-place.onlooker)
          (g.O.Observer.seen c.settle_and_tell.new.onlooker) c.loop-place.invariant.setup c.put_clocks.ensures.beat (c.loop-place.invariant.seen shown)
          (c.settle_and_tell.ensures.seen shown));
      knows = c.settle_and_tell.ensures.knows;
      faults = c.in_ok-settle_and_tell.ensures.faults ∙ c.loop-place.invariant.faults;
      refusals = c.in_ok-settle_and_tell.ensures.refusals ∙ c.loop-place.invariant.refusals;
    }

pub returns-clause-beats : goal.returns-clause-beats
returns-clause-beats g c =
    let start = c.args.self.now in
    let all : c.loop-place.place ≡ places_of start.core.clocks = omega (arith, c.loop-place.invariant.end) in
    subst
    (λ (count : ℕ). BeatsInAll g.L.Lines.hear g.M.Columns.columns g.M.Columns.states g.M.Columns.did (range_with_len 0 count) start c.loop-place.self
    (g.L.Lines.heard c.args.out.now) (g.L.Lines.heard c.loop-place.out))
    all c.loop-place.invariant.done

pub returns-clause-seen : goal.returns-clause-seen
returns-clause-seen g c =
    let start = c.args.self.now in
    let all : c.loop-place.place ≡ places_of start.core.clocks = omega (arith, c.loop-place.invariant.end) in
    λ shown.
    subst
    (λ (count : ℕ). SeesBeats g.O.Observer.begin g.O.Observer.see g.O.Observer.rest (range_with_len 0 count) start.core c.loop-place.self.core
    (g.O.Observer.seen c.args.onlooker.now) (g.O.Observer.seen c.loop-place.onlooker))
    all (c.loop-place.invariant.seen shown)

pub returns-clause-knows : goal.returns-clause-knows
returns-clause-knows g c = c.loop-place.invariant.knows
