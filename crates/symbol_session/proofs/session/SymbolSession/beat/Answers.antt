-- The letters are put, and a phase is done behind them.
use Rattle.std.proofs.Common.{ℕ, subst, ◌∙◌}
use Rattle.truth_makers.specs.Makers.{columns_in}
use Rattle.session_meaning.specs.Effects.{IsPhase}
use Rattle.symbol_session.specs.Moves.{MovesBy}
use Rattle.symbol_session.specs.Sessions.{data_of, maker_of}
use Rattle.symbol_session.proofs.DataLemmas.{keeps_both}
use Rattle.symbol_session.proofs.MoveLemmas.{beat_moves}
use Rattle.symbol_session.proofs.MovedLemmas.{stays_both}
use Rattle.symbol_session.proofs.session.SymbolSession.beat.Goals as goal

pub returns-clause-stays : goal.returns-clause-stays
returns-clause-stays g c = stays_both c.args.self.now c.put_beat.new.self c.phase.new.self c.put_beat.ensures.keeps.count c.put_beat.ensures.stays c.phase.ensures.stays

pub returns-clause-keeps : goal.returns-clause-keeps
returns-clause-keeps g c =
    keeps_both (maker_of c.args.self.now) (maker_of c.put_beat.new.self) (maker_of c.phase.new.self) c.put_beat.ensures.keeps c.phase.ensures.keeps

pub returns-clause-clocks : goal.returns-clause-clocks
returns-clause-clocks g c = c.phase.ensures.clocks ∙ c.put_beat.ensures.clocks

pub returns-clause-moves : goal.returns-clause-moves
returns-clause-moves g c =
    let old = c.args.self.now in
    let put = c.put_beat.new.self in
    let new = c.phase.new.self in
    beat_moves (maker_of new) g.L.SymbolLines.hear g.L.SymbolLines.part (columns_in (maker_of old)) (data_of old) (data_of put) (data_of new) c.args.place
    (g.L.SymbolLines.heard c.args.out.now) (g.L.SymbolLines.heard c.phase.new.out) c.phase.result c.put_beat.ensures.put
    (subst (λ (n : ℕ). MovesBy (maker_of new) g.L.SymbolLines.hear g.L.SymbolLines.part n IsPhase (data_of put) (data_of new)
    (g.L.SymbolLines.heard c.args.out.now) (g.L.SymbolLines.heard c.phase.new.out) c.phase.result) c.put_beat.ensures.keeps.count c.phase.ensures.moves)
