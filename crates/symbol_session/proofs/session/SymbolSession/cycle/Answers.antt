-- The clocks stay from cycle to cycle; a fault in a cycle leaves a front of what all cycles tell.
use Rattle.std.proofs.Common.{◌≡◌, ℕ, List, Err, subst, sym, ◌∙◌, refl, arith}
use Rattle.std.specs.List.{range_with_len}
use Rattle.std.proofs.lemmas.Result.{err_from_is_err_and}
use Rattle.truth_makers.specs.Makers.{columns_in}
use Rattle.session_meaning.specs.Effects.{places_in}
use Rattle.session_meaning.specs.Sessions.{ClockData, places_of}
use Rattle.session_meaning.proofs.BeatLemmas.{cycles-next, cycles-split, no_cycle}
use Rattle.symbol_run.specs.Turns.{RefusedStopped, faults_stopped}
use Rattle.symbol_session.specs.Moves.{BeatsBegun, MovesHeard, beats_at}
use Rattle.symbol_session.specs.Sessions.{data_of, maker_of}
use Rattle.symbol_session.proofs.DataLemmas.{keeps_both, keeps_same, stays_same}
use Rattle.symbol_session.proofs.MoveLemmas.{beats_broken, beats_then, no_beats}
use Rattle.symbol_session.proofs.MovedLemmas.{stays_both}
use Rattle.symbol_session.proofs.session.SymbolSession.cycle.Goals as goal

pub loop-cycle-init : goal.loop-cycle-init
loop-cycle-init g c =
    let start = c.args.self.now in
    record {
      done = rw (no_cycle (places_of start.session.core.clocks))
          (no_beats (maker_of start) g.L.SymbolLines.hear (columns_in (maker_of start)) (data_of start) (g.L.SymbolLines.heard c.args.out.now));
      stays = stays_same start;
      keeps = keeps_same (maker_of start);
      fits = c.requires;
      clocks = refl;
      faults = refl;
      refusals = refl;
    }

pub returns-in_err-cycle_once : goal.returns-in_err-cycle_once
returns-in_err-cycle_once g c =
    let stopped = err_from_is_err_and c.from_residual.result c.from_residual.ensures.1 in
    let inv = c.loop-cycle.invariant in
    let fault = c.in_err-cycle_once.field-0.0 in
    let start = c.args.self.now in
    let now = c.loop-cycle.self in
    let count = places_of start.session.core.clocks in
    let split = cycles-split count c.loop-cycle._cycle c.args.times c.loop-cycle-test.true in
    let between = g.L.SymbolLines.heard c.loop-cycle.out in
    let after = g.L.SymbolLines.heard c.cycle_once.new.out in
    let here =
    subst (λ (n : ℕ). BeatsBegun g.L.SymbolLines.hear g.L.SymbolLines.part n (range_with_len 0 (places_of now.session.core.clocks)) (data_of now) between after)
    inv.keeps.count c.in_err-cycle_once.ensures.moves in
    let is =
    subst (λ (clocks : List ClockData). BeatsBegun g.L.SymbolLines.hear g.L.SymbolLines.part (columns_in (maker_of start)) (range_with_len 0 (places_of clocks))
    (data_of now) between after) inv.clocks here in
    rw (stopped.1, stopped.2)
    (record {
      stays = stays_both start now c.cycle_once.new.self inv.keeps.count inv.stays c.cycle_once.ensures.stays;
      keeps = keeps_both (maker_of start) (maker_of now) (maker_of c.cycle_once.new.self) inv.keeps c.cycle_once.ensures.keeps;
      moves = rw split.split
          (beats_broken (maker_of now) g.L.SymbolLines.hear g.L.SymbolLines.part (columns_in (maker_of start)) (places_in count c.loop-cycle._cycle)
          (range_with_len 0 count) split.rest (data_of start) (data_of now) (g.L.SymbolLines.heard c.args.out.now) between after inv.done is);
      number = c.in_err-cycle_once.ensures.number;
      write = subst (λ (faults : ℕ). g.L.SymbolLines.faults c.cycle_once.new.out ≡ faults_stopped {T = Unit {0}} faults (Err fault)) inv.faults
          c.in_err-cycle_once.ensures.write;
      refused = subst (λ (refusals : ℕ). RefusedStopped {T = Unit {0}} refusals (g.L.SymbolLines.refusals c.cycle_once.new.out) (Err fault)) inv.refusals
          c.in_err-cycle_once.ensures.refused;
    })

pub returns-clause-moves : goal.returns-clause-moves
returns-clause-moves g c =
    let start = c.args.self.now in
    let all : c.loop-cycle._cycle ≡ c.args.times = omega arith in
    subst
    (λ (cycle : ℕ). MovesHeard (maker_of c.loop-cycle.self) g.L.SymbolLines.hear (columns_in (maker_of start))
    (beats_at (places_in (places_of start.session.core.clocks) cycle)) (data_of start) (data_of c.loop-cycle.self) (g.L.SymbolLines.heard c.args.out.now)
    (g.L.SymbolLines.heard c.loop-cycle.out))
    all c.loop-cycle.invariant.done

pub loop-cycle-preserved : goal.loop-cycle-preserved
loop-cycle-preserved g c =
    let start = c.args.self.now in
    let now = c.loop-cycle.self in
    let next = c.cycle_once.new.self in
    let cycle = c.loop-cycle._cycle in
    let count = places_of start.session.core.clocks in
    let before = g.L.SymbolLines.heard c.args.out.now in
    let between = g.L.SymbolLines.heard c.loop-cycle.out in
    let after = g.L.SymbolLines.heard c.cycle_once.new.out in
    let keeps = c.loop-cycle.invariant.keeps in
    let here =
    subst (λ (n : ℕ). MovesHeard (maker_of next) g.L.SymbolLines.hear n (beats_at (range_with_len 0 (places_of now.session.core.clocks))) (data_of now) (data_of next)
    between after) keeps.count c.in_ok-cycle_once.ensures.moves in
    let is =
    subst (λ (clocks : List ClockData). MovesHeard (maker_of next) g.L.SymbolLines.hear (columns_in (maker_of start)) (beats_at (range_with_len 0 (places_of clocks)))
    (data_of now) (data_of next) between after) c.loop-cycle.invariant.clocks here in
    record {
      done = rw (cycles-next count cycle)
          (beats_then (maker_of now) (maker_of next) c.cycle_once.ensures.keeps g.L.SymbolLines.hear (columns_in (maker_of start)) (sym keeps.count)
          (places_in count cycle) (range_with_len 0 count) (data_of start) (data_of now) (data_of next) before between after c.loop-cycle.invariant.done is);
      stays = stays_both start now next keeps.count c.loop-cycle.invariant.stays c.cycle_once.ensures.stays;
      keeps = keeps_both (maker_of start) (maker_of now) (maker_of next) keeps c.cycle_once.ensures.keeps;
      fits = c.cycle_once.ensures.fits;
      clocks = c.cycle_once.ensures.clocks ∙ c.loop-cycle.invariant.clocks;
      faults = c.in_ok-cycle_once.ensures.write ∙ c.loop-cycle.invariant.faults;
      refusals = c.in_ok-cycle_once.ensures.refused ∙ c.loop-cycle.invariant.refusals;
    }
