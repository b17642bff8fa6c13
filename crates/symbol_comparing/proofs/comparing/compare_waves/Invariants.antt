-- What was told of the waveform lines before this one, and the rails that are left are those of the lines that are left.
use Rattle.std.proofs.Common.{◌≡◌, drop}
use Rattle.decision_graph.specs.Graphs.{SameShape}
use Rattle.decision_graph.specs.Vertices.{Extends}
use Rattle.symbol_meaning.specs.Readings.{Valuations}
use Rattle.symbol_comparing.specs.Notes.{heads_of, shown_from, shown_in}
use Rattle.symbol_comparing.specs.Rails.{letters_in, rails_seen, AreRailsOf}
use Rattle.symbol_comparing.specs.Told.{AreValuationsOf}
use Rattle.symbol_comparing.proofs.CompareLemmas.{WavesCome}
use Rattle.symbol_comparing.proofs.comparing.compare_waves.Given as goal

abbrev pub invariant-loop-k : goal.invariant-loop-k
invariant-loop-k g l = record {
  shape : SameShape l.fn.symbols.graph l.symbols.graph;
  extends : Extends l.fn.symbols.graph.vertices l.symbols.graph.vertices;
  first : AreRailsOf l.fn.symbols (rails_seen l.left);
  second : AreRailsOf l.fn.symbols (rails_seen l.right);
  heads : heads_of (drop l.k l.first.waves) ≡ heads_of (drop l.k l.second.waves);
  come : (v : Valuations) → AreValuationsOf l.fn.symbols v → WavesCome v l.variables (shown_in l.fn.symbols l.first) (shown_in l.fn.symbols l.second) l.k
      (λ column. shown_from l.first.words (drop l.k l.first.waves) (letters_in l.fn.symbols (rails_seen l.left) column))
      (λ column. shown_from l.second.words (drop l.k l.second.waves) (letters_in l.fn.symbols (rails_seen l.right) column))
      l.fn.workspace.written l.workspace.written l.fn.workspace.count l.workspace.count;
  faults : l.workspace.faults ≡ l.fn.workspace.faults;
  refusals : l.workspace.refusals ≡ l.fn.workspace.refusals;
}
