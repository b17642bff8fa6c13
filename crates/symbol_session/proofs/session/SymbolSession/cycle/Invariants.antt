-- The cycles before this one are run in each column, and their lines were heard; the stage fits.
use Rattle.std.proofs.Common.{◌≡◌}
use Rattle.session_meaning.specs.Effects.{places_in}
use Rattle.session_meaning.specs.Sessions.{places_of}
use Rattle.symbol_equiv.specs.Sharing.{KeepsFunctions}
use Rattle.symbol_session.specs.Moves.{MovesHeard, beats_at}
use Rattle.symbol_session.specs.Sessions.{Stays, data_of, maker_of}
use Rattle.symbol_stage.specs.Stages.{FitsIn}
use Rattle.truth_makers.specs.Makers.{columns_in}
use Rattle.symbol_session.proofs.session.SymbolSession.cycle.Given as goal

abbrev pub invariant-loop-cycle : goal.invariant-loop-cycle
invariant-loop-cycle g l = record {
  done : MovesHeard (maker_of l.self) g.L.SymbolLines.hear (columns_in (maker_of l.fn.self))
      (beats_at (places_in (places_of l.fn.self.session.core.clocks) l._cycle)) (data_of l.fn.self) (data_of l.self)
      (g.L.SymbolLines.heard l.fn.out) (g.L.SymbolLines.heard l.out);
  stays : Stays l.fn.self l.self;
  keeps : KeepsFunctions (maker_of l.fn.self) (maker_of l.self);
  fits : FitsIn l.self.session.stage l.self.session.core.circuit.graph;
  clocks : l.self.session.core.clocks ≡ l.fn.self.session.core.clocks;
  faults : g.L.SymbolLines.faults l.out ≡ g.L.SymbolLines.faults l.fn.out;
  refusals : g.L.SymbolLines.refusals l.out ≡ g.L.SymbolLines.refusals l.fn.out;
}
