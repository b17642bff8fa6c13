-- What was told of the words before this one, and the rails that are left are those of the words that are left.
use Rattle.std.proofs.Common.{◌≡◌, drop}
use Rattle.decision_graph.specs.Graphs.{SameShape}
use Rattle.decision_graph.specs.Vertices.{Extends}
use Rattle.symbol_meaning.specs.Comparing.{by_words}
use Rattle.symbol_meaning.specs.Readings.{Valuations}
use Rattle.symbol_comparing.specs.Notes.{names_of}
use Rattle.symbol_comparing.specs.Rails.{letters_in, rails_seen, AreRailsOf}
use Rattle.symbol_comparing.specs.Told.{AreValuationsOf}
use Rattle.symbol_comparing.proofs.CompareLemmas.{WordsCome}
use Rattle.symbol_comparing.proofs.comparing.compare_words.Given as goal

abbrev pub invariant-loop-j : goal.invariant-loop-j
invariant-loop-j g l = record {
  shape : SameShape l.fn.symbols.graph l.symbols.graph;
  extends : Extends l.fn.symbols.graph.vertices l.symbols.graph.vertices;
  first : AreRailsOf l.fn.symbols (rails_seen l.left);
  second : AreRailsOf l.fn.symbols (rails_seen l.right);
  names : names_of (drop l.j l.words) ≡ names_of (drop l.j l.others);
  come : (v : Valuations) → AreValuationsOf l.fn.symbols v → WordsCome v l.line l.variables
      (λ column. by_words l.words (letters_in l.fn.symbols (rails_seen l.fn.one) column))
      (λ column. by_words l.others (letters_in l.fn.symbols (rails_seen l.fn.other) column))
      (λ column. by_words (drop l.j l.words) (letters_in l.fn.symbols (rails_seen l.left) column))
      (λ column. by_words (drop l.j l.others) (letters_in l.fn.symbols (rails_seen l.right) column))
      l.fn.workspace.written l.workspace.written l.fn.workspace.count l.workspace.count;
  faults : l.workspace.faults ≡ l.fn.workspace.faults;
  refusals : l.workspace.refusals ≡ l.fn.workspace.refusals;
}
