-- The members so far have their bases.
use Rattle.std.proofs.Common.{◌≡◌, ℕ, ◌<◌, nat_le, if◌then◌else◌}
use Rattle.switch_paths.specs.Graphs.{level_of}
use Rattle.node_elimination.specs.Equations.{IsSquare, right_at}
use Rattle.node_elimination.proofs.level.put_levels.Given as goal

abbrev pub invariant-loop-i : goal.invariant-loop-i
invariant-loop-i l = record {
  rights : (i : ℕ) → i < l.i →
      right_at l.system i ≡ (if nat_le l.links.level (level_of l.links.graph.now i) then l.truth.place
      else l.falsehood.place);
  square : IsSquare l.system;
  edges : l.system.edges ≡ l.initial.system.edges;
  size : l.system.size ≡ l.initial.system.size;
  left : l.system.left ≡ l.initial.system.left;
}
