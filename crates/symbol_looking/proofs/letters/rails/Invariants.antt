-- The rails of the nodes before this one, and room for those of the others.
use Rattle.std.proofs.Common.{◌≡◌, ◌≤◌, ◌+◌, ◌-◌, map, take, length, vec_len, vec_capacity}
use Rattle.symbol_looking.specs.Letters.{AreRailsAt, rail_of}
use Rattle.symbol_looking.proofs.letters.rails.Given as goal

abbrev pub invariant-loop-node : goal.invariant-loop-node
invariant-loop-node l = record {
  highs : l.highs.items ≡ map (rail_of l.stage.machine.hi) (take l.node-index l.nodes);
  lows : l.lows.items ≡ map (rail_of l.stage.machine.lo) (take l.node-index l.nodes);
  rails : AreRailsAt l.stage (take l.node-index l.nodes) l.highs.items l.lows.items;
  high_room : vec_len l.highs + (length l.nodes - l.node-index) ≤ vec_capacity l.highs;
  low_room : vec_len l.lows + (length l.nodes - l.node-index) ≤ vec_capacity l.lows;
}
