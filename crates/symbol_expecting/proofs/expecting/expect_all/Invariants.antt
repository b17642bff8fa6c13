-- What was told of the assignments before this one.
use Rattle.std.proofs.Common.{◌≡◌, drop}
use Rattle.symbol_meaning.specs.Readings.{Valuations}
use Rattle.symbol_giving.specs.Giving.{data_of}
use Rattle.symbol_giving.specs.Letters.{IsTableOf, OnlyMakes}
use Rattle.symbol_expecting.specs.Expecting.{AreMeantBy}
use Rattle.symbol_expecting.proofs.ToldLemmas.{Comes}
use Rattle.symbol_expecting.proofs.expecting.expect_all.Given as goal

abbrev pub invariant-loop-k : goal.invariant-loop-k
invariant-loop-k g l = record {
  only : OnlyMakes l.fn.session l.session;
  table : IsTableOf l.session.stage l.table;
  come : (v : Valuations) → AreMeantBy l.fn.session l.table l.list v →
      Comes v (data_of l.fn.session) g.L.SymbolLines.hear l.list (drop l.k l.list) (g.L.SymbolLines.heard l.fn.out) (g.L.SymbolLines.heard l.out) l.missed;
  faults : g.L.SymbolLines.faults l.out ≡ g.L.SymbolLines.faults l.fn.out;
  refusals : g.L.SymbolLines.refusals l.out ≡ g.L.SymbolLines.refusals l.fn.out;
}
