-- The cycles before this one are run in each column, with their rows heard, on the stage, which fits.
use Rattle.std.proofs.Common.{◌≡◌}
use Rattle.session_meaning.specs.Columns.{BeatsInAll}
use Rattle.session_meaning.specs.Effects.{places_in}
use Rattle.session_meaning.specs.Passing.{SeesBeats}
use Rattle.session_meaning.specs.Sessions.{places_of}
use Rattle.session_meaning.specs.Stages.{SameSetup}
use Rattle.cosmos_session.proofs.session.Session.run_cycles.Given as goal

abbrev pub invariant-loop-cycle : goal.invariant-loop-cycle
invariant-loop-cycle g l = record {
  done : BeatsInAll g.L.Lines.hear g.M.Columns.columns g.M.Columns.states g.M.Columns.did (places_in (places_of l.fn.self.core.clocks) l._cycle) l.fn.self l.self
      (g.L.Lines.heard l.fn.out) (g.L.Lines.heard l.out);
  fits : g.M.Columns.fits l.self.stage l.self.core.circuit.graph;
  columns : g.M.Columns.columns l.self.stage ≡ g.M.Columns.columns l.fn.self.stage;
  setup : SameSetup l.fn.self.core l.self.core;
  room : l.room ≡ l.fn.room;
  line : g.L.Lines.room l.out ≡ g.L.Lines.room l.fn.out;
  seen : g.M.Stage.Shows → SeesBeats g.O.Observer.begin g.O.Observer.see g.O.Observer.rest (places_in (places_of l.fn.self.core.clocks) l._cycle)
      l.fn.self.core l.self.core (g.O.Observer.seen l.fn.onlooker) (g.O.Observer.seen l.onlooker);
  knows : g.M.Stage.Shows → g.O.Observer.knows l.onlooker l.self.core.state;
  faults : g.L.Lines.faults l.out ≡ g.L.Lines.faults l.fn.out;
  refusals : g.L.Lines.refusals l.out ≡ g.L.Lines.refusals l.fn.out;
}
