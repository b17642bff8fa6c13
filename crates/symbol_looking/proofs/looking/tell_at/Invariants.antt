-- The lines of the places before this one were heard.
use Rattle.std.proofs.Common.{◌≡◌, drop, filter_map}
use Rattle.told_lines.specs.Hearing.{SoFar}
use Rattle.node_looks.specs.Looks.{numbered}
use Rattle.symbol_looking.specs.Letters.{letter_on}
use Rattle.symbol_looking.specs.Names.{all_told_at, told_at}
use Rattle.symbol_looking.specs.Tellings.{tellings}
use Rattle.symbol_looking.proofs.looking.tell_at.Given as goal

abbrev pub invariant-loop-place : goal.invariant-loop-place
invariant-loop-place g l = record {
  heard : SoFar g.L.SymbolLines.hear (g.L.SymbolLines.heard l.fn.out) (g.L.SymbolLines.heard l.out)
      (tellings (all_told_at l.terminal l.circuit (letter_on l.stage) l.node))
      (tellings (filter_map (told_at l.terminal l.circuit (letter_on l.stage) l.node) (drop l.place (numbered l.circuit))));
  faults : g.L.SymbolLines.faults l.out ≡ g.L.SymbolLines.faults l.fn.out;
  refusals : g.L.SymbolLines.refusals l.out ≡ g.L.SymbolLines.refusals l.fn.out;
}
