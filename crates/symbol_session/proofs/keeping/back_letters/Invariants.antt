-- The letters of the nodes before this one.
use Rattle.std.proofs.Common.{◌≡◌, ◌≤◌}
use Rattle.symbol_session.proofs.FoundLemmas.{letters_before}
use Rattle.symbol_session.proofs.keeping.back_letters.Given as goal

abbrev pub invariant-loop-node : goal.invariant-loop-node
invariant-loop-node l = record {
  items : l.pairs.items ≡ letters_before l.kept l.found.place l.found.nodes l.node;
  few : l.node ≤ l.found.nodes;
}
