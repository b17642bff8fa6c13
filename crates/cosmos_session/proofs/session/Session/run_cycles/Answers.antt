-- A fault in a cycle leaves a part of the rows of all cycles.
use Rattle.std.proofs.Common.{◌≡◌, ℕ, ◌*◌, length, ap, ap₂, subst, sym, ◌∙◌, refl, arith}
use Rattle.std.proofs.lemmas.Result.{err_from_is_err_and}
use Rattle.session_meaning.specs.Columns.{BeatsInAll}
use Rattle.session_meaning.specs.Effects.{places_in}
use Rattle.session_meaning.specs.Passing.{SeesBeats}
use Rattle.session_meaning.specs.Sessions.{places_of}
use Rattle.session_meaning.proofs.BeatRowLemmas.{in_all-next_cycle, in_all-no_cycle, in_all-stopped_cycle}
use Rattle.session_meaning.proofs.ColumnLemmas.{column_ready}
use Rattle.session_meaning.proofs.MoveLemmas.{setup-more, setup-same}
use Rattle.session_meaning.proofs.PassingLemmas.{cycles_seen, cycles_seen-first}
use Rattle.cosmos_session.proofs.session.Session.run_cycles.Goals as goal

pub loop-cycle-init : goal.loop-cycle-init
loop-cycle-init g c =
    let start = c.args.self.now in
    record {
      done = in_all-no_cycle g.L.Lines.hear g.L.Lines.part g.M.Columns.columns g.M.Columns.states g.M.Columns.did start (places_of start.core.clocks) (g.L.Lines.heard c.args.out.now);
      fits = c.requires.fits;
      columns = refl;
      setup = setup-same start.core;
      room = refl;
      line = refl;
      seen = λ shown. cycles_seen-first g.O.Observer.begin g.O.Observer.see g.O.Observer.rest start.core (g.O.Observer.seen c.args.onlooker.now);
      knows = c.requires.knows;
      faults = refl;
      refusals = refl;
    }

pub run_cycle-requires-clause-session : goal.run_cycle-requires-clause-session
run_cycle-requires-clause-session g c = c.is_well_formed.ensures

pub run_cycle-requires-clause-counts : goal.run_cycle-requires-clause-counts
run_cycle-requires-clause-counts g c = c.loop-cycle.auto.counts ∙ c.requires.counts ∙ sym c.loop-cycle.invariant.columns

pub run_cycle-requires-clause-room : goal.run_cycle-requires-clause-room
run_cycle-requires-clause-room g c =
    omega (
      arith,
      ap₂ (λ (columns width : ℕ). columns * width) c.loop-cycle.invariant.columns (ap length c.loop-cycle.invariant.setup.watched),
      c.loop-cycle.invariant.room,
      c.requires.room,
    )

pub run_cycle-requires-clause-line : goal.run_cycle-requires-clause-line
run_cycle-requires-clause-line g c = omega (arith, c.loop-cycle.invariant.columns, c.loop-cycle.invariant.line, c.requires.line)

pub run_cycle-requires-clause-knows : goal.run_cycle-requires-clause-knows
run_cycle-requires-clause-knows g c = c.loop-cycle.invariant.knows

pub returns-in_err-run_cycle-clause-beats : goal.returns-in_err-run_cycle-clause-beats
returns-in_err-run_cycle-clause-beats g c =
    let stopped = err_from_is_err_and c.from_residual.result c.from_residual.ensures.1 in
    let start = c.args.self.now in
    rw stopped.1 (in_all-stopped_cycle g.L.Lines.hear g.L.Lines.part g.M.Columns.columns g.M.Columns.states g.M.Columns.did start c.loop-cycle.self c.run_cycle.new.self c.loop-cycle._cycle (g.L.Lines.heard c.args.out.now)
    (g.L.Lines.heard c.loop-cycle.out) (g.L.Lines.heard c.run_cycle.new.out) c.loop-cycle.invariant.setup c.loop-cycle.invariant.columns
    c.loop-cycle.invariant.done c.args.times
    (column_ready g.M.Columns.columns g.M.Columns.states g.M.Columns.serves start c.requires.session) c.loop-cycle-test.true
    c.in_err-run_cycle.ensures.beats)

pub returns-in_err-run_cycle-clause-columns : goal.returns-in_err-run_cycle-clause-columns
returns-in_err-run_cycle-clause-columns g c = c.run_cycle.ensures.columns ∙ c.loop-cycle.invariant.columns

pub loop-cycle-preserved : goal.loop-cycle-preserved
loop-cycle-preserved g c =
    let start = c.args.self.now in
    let now = c.loop-cycle.self in
    let next = c.run_cycle.new.self in
    record {
      done = in_all-next_cycle g.L.Lines.hear g.L.Lines.part g.M.Columns.columns g.M.Columns.states g.M.Columns.did start now next c.loop-cycle._cycle (g.L.Lines.heard c.args.out.now) (g.L.Lines.heard c.loop-cycle.out)
          (g.L.Lines.heard c.run_cycle.new.out) c.loop-cycle.invariant.setup c.loop-cycle.invariant.columns c.loop-cycle.invariant.done
          c.in_ok-run_cycle.ensures.beats;
      fits = c.run_cycle.ensures.fits;
      columns = c.run_cycle.ensures.columns ∙ c.loop-cycle.invariant.columns;
      setup = setup-more start.core now.core next.core c.loop-cycle.invariant.setup c.run_cycle.ensures.setup;
      room = c.run_cycle.ensures.room ∙ c.loop-cycle.invariant.room;
      line = c.run_cycle.ensures.line ∙ c.loop-cycle.invariant.line;
      seen = λ shown. cycles_seen g.O.Observer.begin g.O.Observer.see g.O.Observer.rest start.core now.core next.core c.loop-cycle._cycle
          (g.O.Observer.seen c.args.onlooker.now) (g.O.Observer.seen c.loop-cycle.onlooker) (g.O.Observer.seen c.run_cycle.new.onlooker)
          c.loop-cycle.invariant.setup (c.loop-cycle.invariant.seen shown) (c.in_ok-run_cycle.ensures.seen shown);
      knows = c.in_ok-run_cycle.ensures.knows;
      faults = c.in_ok-run_cycle.ensures.faults ∙ c.loop-cycle.invariant.faults;
      refusals = c.in_ok-run_cycle.ensures.refusals ∙ c.loop-cycle.invariant.refusals;
    }

pub returns-clause-beats : goal.returns-clause-beats
returns-clause-beats g c =
    let start = c.args.self.now in
    let all : c.loop-cycle._cycle ≡ c.args.times = omega arith in
    subst
    (λ (cycle : ℕ). BeatsInAll g.L.Lines.hear g.M.Columns.columns g.M.Columns.states g.M.Columns.did (places_in (places_of start.core.clocks) cycle) start
    c.loop-cycle.self (g.L.Lines.heard c.args.out.now) (g.L.Lines.heard c.loop-cycle.out))
    all c.loop-cycle.invariant.done

pub returns-clause-seen : goal.returns-clause-seen
returns-clause-seen g c =
    let start = c.args.self.now in
    let all : c.loop-cycle._cycle ≡ c.args.times = omega arith in
    λ shown.
    subst
    (λ (cycle : ℕ). SeesBeats g.O.Observer.begin g.O.Observer.see g.O.Observer.rest (places_in (places_of start.core.clocks) cycle) start.core c.loop-cycle.self.core
    (g.O.Observer.seen c.args.onlooker.now) (g.O.Observer.seen c.loop-cycle.onlooker))
    all (c.loop-cycle.invariant.seen shown)

pub returns-clause-knows : goal.returns-clause-knows
returns-clause-knows g c = c.loop-cycle.invariant.knows
