-- Of the assignments before this one it is noted where they aren't all met.
use Rattle.std.proofs.Common.{take}
use Rattle.symbol_equiv.specs.Sharing.{KeepsFunctions}
use Rattle.symbol_session.specs.Missing.{NotesMissed}
use Rattle.symbol_session.specs.Sessions.{Stays, maker_of}
use Rattle.symbol_session.proofs.session.SymbolSession.note_missed.Given as goal

abbrev pub invariant-loop-k : goal.invariant-loop-k
invariant-loop-k l = record {
  notes : NotesMissed l.fn.self (take l.k l.list) l.self;
  stays : Stays l.fn.self l.self;
  keeps : KeepsFunctions (maker_of l.fn.self) (maker_of l.self);
}
