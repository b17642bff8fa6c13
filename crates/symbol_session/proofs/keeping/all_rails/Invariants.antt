-- The rails of the nodes before this one, and room for those of the others.
use Rattle.std.proofs.Common.{◌≡◌, ◌≤◌, vec_len, vec_capacity}
use Rattle.symbol_session.specs.Keeping.{AreRailsTo}
use Rattle.symbol_session.proofs.keeping.all_rails.Given as goal

abbrev pub invariant-loop-node : goal.invariant-loop-node
invariant-loop-node l = record {
  rails : AreRailsTo l.stage l.node l.highs.items l.lows.items;
  high_len : vec_len l.highs ≡ l.node;
  low_len : vec_len l.lows ≡ l.node;
  high_room : l.nodes ≤ vec_capacity l.highs;
  low_room : l.nodes ≤ vec_capacity l.lows;
}
