-- The clocks stay through a cycle, so each place is within it; a fault in a phase leaves a front of what the phases of a cycle tell.
use Rattle.std.proofs.Common.{◌≡◌, ℕ, ◌+◌, ◌-◌, [], ◌∷◌, Err, ap, subst, sym, ◌∙◌, refl, rules, arith}
use Rattle.std.specs.List.{range_with_len}
use Rattle.std.proofs.lemmas.Result.{err_from_is_err_and}
use Rattle.truth_makers.specs.Makers.{columns_in}
use Rattle.session_meaning.specs.Sessions.{places_of}
use Rattle.session_meaning.proofs.BeatLemmas.{places-next, places-split}
use Rattle.symbol_run.specs.Turns.{RefusedStopped, faults_stopped}
use Rattle.symbol_session.specs.Moves.{BeatsBegun, MovesHeard, beats_at}
use Rattle.symbol_session.specs.Sessions.{data_of, maker_of}
use Rattle.symbol_session.proofs.DataLemmas.{keeps_both, keeps_same, stays_same}
use Rattle.symbol_session.proofs.MoveLemmas.{beats_broken, beats_then, no_beats}
use Rattle.symbol_session.proofs.MovedLemmas.{stays_both}
use Rattle.symbol_session.proofs.session.SymbolSession.cycle_once.Goals as goal

pub loop-place-init : goal.loop-place-init
loop-place-init g c =
    let start = c.args.self.now in
    record {
      end = search rules;
      done = no_beats (maker_of start) g.L.SymbolLines.hear (columns_in (maker_of start)) (data_of start) (g.L.SymbolLines.heard c.args.out.now);
      stays = stays_same start;
      keeps = keeps_same (maker_of start);
      fits = c.requires;
      clocks = refl;
      faults = refl;
      refusals = refl;
    }

pub beat-requires-clause-place : goal.beat-requires-clause-place
beat-requires-clause-place g c = omega (arith, ap places_of c.loop-place.invariant.clocks, c.loop-place.invariant.end)

pub returns-in_err-beat : goal.returns-in_err-beat
returns-in_err-beat g c =
    let start = c.args.self.now in
    let now = c.loop-place.self in
    let place = c.loop-place.place in
    let inv = c.loop-place.invariant in
    let hear = g.L.SymbolLines.hear in
    let part = g.L.SymbolLines.part in
    let columns = columns_in (maker_of start) in
    let count = places_of start.session.core.clocks in
    let between = g.L.SymbolLines.heard c.loop-place.out in
    let after = g.L.SymbolLines.heard c.beat.new.out in
    let is = subst (λ (n : ℕ). BeatsBegun hear part n (place ∷ []) (data_of now) between after) inv.keeps.count c.in_err-beat.ensures.moves in
    let broken = beats_broken (maker_of now) hear part columns (range_with_len 0 place) (place ∷ []) (range_with_len (place + 1) (count - (place + 1)))
    (data_of start) (data_of now) (g.L.SymbolLines.heard c.args.out.now) between after inv.done is in
    let stopped = err_from_is_err_and c.from_residual.result c.from_residual.ensures.1 in
    let fault = c.in_err-beat.field-0.0 in
    rw (stopped.1, stopped.2)
    (record {
      stays = stays_both start now c.beat.new.self inv.keeps.count inv.stays c.beat.ensures.stays;
      keeps = keeps_both (maker_of start) (maker_of now) (maker_of c.beat.new.self) inv.keeps c.beat.ensures.keeps;
      fits = c.beat.ensures.fits;
      clocks = c.beat.ensures.clocks ∙ inv.clocks;
      moves = rw (places-split place count (omega (arith, inv.end))) broken;
      number = c.in_err-beat.ensures.number;
      write = subst (λ (faults : ℕ). g.L.SymbolLines.faults c.beat.new.out ≡ faults_stopped {T = Unit {0}} faults (Err fault)) inv.faults c.in_err-beat.ensures.write;
      refused = subst (λ (refusals : ℕ). RefusedStopped {T = Unit {0}} refusals (g.L.SymbolLines.refusals c.beat.new.out) (Err fault)) inv.refusals
          c.in_err-beat.ensures.refused;
    })

pub loop-place-preserved : goal.loop-place-preserved
loop-place-preserved g c =
    let hear = g.L.SymbolLines.hear in
    let inv = c.loop-place.invariant in
    let place = c.loop-place.place in
    let start = c.args.self.now in
    let now = c.loop-place.self in
    let next = c.beat.new.self in
    let between = g.L.SymbolLines.heard c.loop-place.out in
    let after = g.L.SymbolLines.heard c.beat.new.out in
    let is =
    subst (λ (n : ℕ). MovesHeard (maker_of next) hear n (beats_at (place ∷ [])) (data_of now) (data_of next) between after) inv.keeps.count c.in_ok-beat.ensures.moves in
    record {
      end = inv.end;
      fits = c.beat.ensures.fits;
      clocks = c.beat.ensures.clocks ∙ inv.clocks;
      faults = c.in_ok-beat.ensures.write ∙ inv.faults;
      refusals = c.in_ok-beat.ensures.refused ∙ inv.refusals;
      done = rw (places-next place)
          (beats_then (maker_of now) (maker_of next) c.beat.ensures.keeps hear (columns_in (maker_of start)) (sym inv.keeps.count) (range_with_len 0 place)
          (place ∷ []) (data_of start) (data_of now) (data_of next) (g.L.SymbolLines.heard c.args.out.now) between after inv.done is);
      stays = stays_both start now next inv.keeps.count inv.stays c.beat.ensures.stays;
      keeps = keeps_both (maker_of start) (maker_of now) (maker_of next) inv.keeps c.beat.ensures.keeps;
    }

pub returns-clause-moves : goal.returns-clause-moves
returns-clause-moves g c =
    let start = c.args.self.now in
    let all : c.loop-place.place ≡ places_of start.session.core.clocks = omega (arith, c.loop-place.invariant.end) in
    subst
    (λ (count : ℕ). MovesHeard (maker_of c.loop-place.self) g.L.SymbolLines.hear (columns_in (maker_of start)) (beats_at (range_with_len 0 count)) (data_of start)
    (data_of c.loop-place.self) (g.L.SymbolLines.heard c.args.out.now) (g.L.SymbolLines.heard c.loop-place.out))
    all c.loop-place.invariant.done
