-- The lines of the names before this one were heard.
use Rattle.std.proofs.Common.{◌≡◌, drop}
use Rattle.std.specs.Prelude.{flat_map}
use Rattle.told_lines.specs.Hearing.{SoFar}
use Rattle.symbol_looking.specs.Letters.{letter_on}
use Rattle.symbol_looking.specs.Names.{looked_told}
use Rattle.symbol_looking.specs.Tellings.{tellings}
use Rattle.symbol_looking.proofs.looking.look_names.Given as goal

abbrev pub invariant-loop-name : goal.invariant-loop-name
invariant-loop-name g l = record {
  heard : SoFar g.L.SymbolLines.hear (g.L.SymbolLines.heard l.fn.out) (g.L.SymbolLines.heard l.out)
      (tellings (flat_map (looked_told l.circuit (letter_on l.stage)) l.names))
      (tellings (flat_map (looked_told l.circuit (letter_on l.stage)) (drop l.name-index l.names)));
  faults : g.L.SymbolLines.faults l.out ≡ g.L.SymbolLines.faults l.fn.out;
  refusals : g.L.SymbolLines.refusals l.out ≡ g.L.SymbolLines.refusals l.fn.out;
}
