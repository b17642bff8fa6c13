-- The lines of the names before this one were heard.
use Rattle.std.proofs.Common.{◌≡◌, drop, map}
use Rattle.told_lines.specs.Hearing.{SoFar}
use Rattle.symbol_looking.specs.Names.{shown_told}
use Rattle.symbol_looking.specs.Tellings.{tellings}
use Rattle.symbol_looking.proofs.showing.show_all.Given as goal

abbrev pub invariant-loop-name : goal.invariant-loop-name
invariant-loop-name g l = record {
  heard : SoFar g.L.SymbolLines.hear (g.L.SymbolLines.heard l.fn.out) (g.L.SymbolLines.heard l.out)
      (tellings (map (shown_told l.session) l.names))
      (tellings (map (shown_told l.session) (drop l.name-index l.names)));
  faults : g.L.SymbolLines.faults l.out ≡ g.L.SymbolLines.faults l.fn.out;
  refusals : g.L.SymbolLines.refusals l.out ≡ g.L.SymbolLines.refusals l.fn.out;
}
