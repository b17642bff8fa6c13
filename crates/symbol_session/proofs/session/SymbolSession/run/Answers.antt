-- It is refused, or the circuit can't be built, or it is built and the states move.
use Rattle.std.proofs.Common.{ℕ, ◌<◌, Err, refl, sym, ap, subst, ◌∙◌, arith}
use Rattle.truth_makers.specs.Makers.{columns_in}
use Rattle.session_meaning.specs.Refusals.{refusal_of_run}
use Rattle.session_meaning.specs.Sessions.{SessionData}
use Rattle.symbol_session.specs.Moves.{RunsBy}
use Rattle.symbol_session.specs.Sessions.{data_of, maker_of, valuations_by}
use Rattle.symbol_session.specs.Turns.{turn_of}
use Rattle.symbol_session.proofs.DataLemmas.{keeps_both, keeps_same, stays_same}
use Rattle.symbol_session.proofs.FaultLemmas.{memory_own, own_faults, own_refusals, own_stops}
use Rattle.symbol_session.proofs.MovedLemmas.{stays_both}
use Rattle.symbol_session.proofs.RunLemmas.{moved_faults, moved_refusals, moved_stops, run_refused, run_turn, run_unready}
use Rattle.symbol_session.proofs.session.SymbolSession.run.Goals as goal

-- ---- it is refused

pub returns-in-Some-clause-stays : goal.returns-in-Some-clause-stays
returns-in-Some-clause-stays g c = stays_same c.args.self.now

pub returns-in-Some-clause-keeps : goal.returns-in-Some-clause-keeps
returns-in-Some-clause-keeps g c = keeps_same (maker_of c.args.self.now)

pub returns-in-Some-clause-turn : goal.returns-in-Some-clause-turn
returns-in-Some-clause-turn g c =
    let d = c.args.self.now in
    rw c.refusal_code.ensures
    (run_refused (maker_of d) g.L.SymbolLines.hear g.L.SymbolLines.part (valuations_by d) (data_of d) (data_of d) (data_of d) c.args.run.now
    (g.L.SymbolLines.heard c.args.out.now) (g.L.SymbolLines.heard c.args.out.now) (g.A.Analyst.analysed c.args.analyst.now) (g.A.Analyst.analysed c.args.analyst.now)
    (valuations_by d).columns refl c.in-Some.refusal (λ column inside. sym c.run_refusal.ensures ∙ c.in-Some.is))

-- ---- it isn't built

pub returns-in-Err-clause-turn : goal.returns-in-Err-clause-turn
returns-in-Err-clause-turn g c =
    let d = c.args.self.now in
    let mid = c.ready.new.self in
    rw c.turn_of.ensures
    (run_unready (maker_of mid) g.L.SymbolLines.hear g.L.SymbolLines.part (valuations_by d) (data_of d) (data_of mid) (data_of mid) c.args.run.now
    (g.L.SymbolLines.heard c.args.out.now) (g.L.SymbolLines.heard c.args.out.now) (g.A.Analyst.analysed c.args.analyst.now) (g.A.Analyst.analysed c.ready.new.analyst)
    (columns_in (maker_of d)) c.is_well_formed.ensures.own.shape (λ column inside. sym c.run_refusal.ensures ∙ c.in_default.is) c.in-Err.fault c.in-Err.ensures.readies)

pub returns-in-Err-clause-number : goal.returns-in-Err-clause-number
returns-in-Err-clause-number g c =
    rw c.turn_of.ensures (own_stops c.args.number (turn_of (Err c.in-Err.fault)) (memory_own c.args.number (turn_of (Err c.in-Err.fault)) c.in-Err.ensures.memory))

pub returns-in-Err-clause-write : goal.returns-in-Err-clause-write
returns-in-Err-clause-write g c =
    rw c.turn_of.ensures
    (sym (own_faults c.args.number (turn_of (Err c.in-Err.fault)) (memory_own c.args.number (turn_of (Err c.in-Err.fault)) c.in-Err.ensures.memory)
    (g.L.SymbolLines.faults c.args.out.now)))

pub returns-in-Err-clause-refused : goal.returns-in-Err-clause-refused
returns-in-Err-clause-refused g c =
    rw c.turn_of.ensures
    (own_refusals c.args.number (turn_of (Err c.in-Err.fault)) (memory_own c.args.number (turn_of (Err c.in-Err.fault)) c.in-Err.ensures.memory)
    (g.L.SymbolLines.refusals c.args.out.now))

-- ---- the states move

pub moves-requires-clause-fits : goal.moves-requires-clause-fits
moves-requires-clause-fits g c = c.in-Ok.ensures.fits

pub moves-requires-clause-allowed : goal.moves-requires-clause-allowed
moves-requires-clause-allowed g c =
    let d = c.args.self.now in
    let mid = c.ready.new.self in
    let some : 0 < columns_in (maker_of d) = omega (arith, c.is_well_formed.ensures.session.some) in
    let used = (c.in-Ok.ensures.readies.each 0 some).used in
    ap (λ (s : SessionData). refusal_of_run s.circuit s.clocks c.args.run.now) used ∙ sym c.run_refusal.ensures ∙ c.in_default.is

pub returns-in-Ok-clause-stays : goal.returns-in-Ok-clause-stays
returns-in-Ok-clause-stays g c = stays_both c.args.self.now c.ready.new.self c.moves.new.self c.ready.ensures.keeps.count c.ready.ensures.stays c.moves.ensures.stays

pub returns-in-Ok-clause-keeps : goal.returns-in-Ok-clause-keeps
returns-in-Ok-clause-keeps g c =
    keeps_both (maker_of c.args.self.now) (maker_of c.ready.new.self) (maker_of c.moves.new.self) c.ready.ensures.keeps c.moves.ensures.keeps

pub returns-in-Ok-clause-turn : goal.returns-in-Ok-clause-turn
returns-in-Ok-clause-turn g c =
    let d = c.args.self.now in
    let mid = c.ready.new.self in
    let new = c.moves.new.self in
    let columns = columns_in (maker_of d) in
    let before = g.L.SymbolLines.heard c.args.out.now in
    let after = g.L.SymbolLines.heard c.moves.new.out in
    let clocks = mid.session.core.clocks in
    let moves =
    subst (λ (n : ℕ). RunsBy (maker_of new) g.L.SymbolLines.hear g.L.SymbolLines.part n clocks c.args.run.now (data_of mid) (data_of new) before after c.moves.result)
    c.ready.ensures.keeps.count c.moves.ensures.moves in
    rw c.turn_moved.ensures
    (run_turn (maker_of new) g.L.SymbolLines.hear g.L.SymbolLines.part (valuations_by d) (data_of d) (data_of mid) (data_of new) c.args.run.now before after
    (g.A.Analyst.analysed c.args.analyst.now) (g.A.Analyst.analysed c.ready.new.analyst) columns c.is_well_formed.ensures.own.shape clocks
    (omega (arith, c.is_well_formed.ensures.session.some)) (λ column inside. refl) (λ column inside. sym c.run_refusal.ensures ∙ c.in_default.is)
    c.in-Ok.ensures.readies c.moves.result moves)

pub returns-in-Ok-clause-number : goal.returns-in-Ok-clause-number
returns-in-Ok-clause-number g c = rw c.turn_moved.ensures (moved_stops c.args.number c.moves.result c.moves.ensures.number)

pub returns-in-Ok-clause-write : goal.returns-in-Ok-clause-write
returns-in-Ok-clause-write g c =
    rw c.turn_moved.ensures (c.moves.ensures.write ∙ sym (moved_faults (g.L.SymbolLines.faults c.args.out.now) c.moves.result))

pub returns-in-Ok-clause-refused : goal.returns-in-Ok-clause-refused
returns-in-Ok-clause-refused g c =
    rw c.turn_moved.ensures
    (moved_refusals (g.L.SymbolLines.refusals c.args.out.now) (g.L.SymbolLines.refusals c.moves.new.out) c.moves.result c.moves.ensures.refused)
