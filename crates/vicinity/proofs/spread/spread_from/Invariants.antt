-- Entries rose over the places so far, over which nothing more comes of the strength.
use Rattle.std.proofs.Common.{◌≡◌, ℕ, ◌+◌, ◌≤◌, take}
use Rattle.std.specs.Prelude.{Contains}
use Rattle.vicinity.specs.Spreading.{Raises, IsSpreadOver, owed}
use Rattle.vicinity.proofs.spread.spread_from.Given as goal

abbrev pub invariant-loop-place : goal.invariant-loop-place
invariant-loop-place g l = record {
  raises : Raises l.by.pass l.by.graph.now l.by.state.now l.by.awake.now.inside l.fn.left.inside l.left.inside l.fn.table l.table;
  over : (place : ℕ) → Contains (take l.place-index l.place-items) place →
      IsSpreadOver l.by.pass l.by.graph.now l.by.state.now l.by.awake.now.inside l.by.floor.now l.table l.node l.strength place;
  owed : owed l.by.lists.now l.by.awake.now.inside l.table l.left.inside
      ≤ owed l.by.lists.now l.by.awake.now.inside l.fn.table l.fn.left.inside;
  steps : l.steps ≡ l.fn.steps + 1 + l.place-index;
}
