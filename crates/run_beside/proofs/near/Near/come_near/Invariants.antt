-- Of the parts that are apart those so far entered.
use Rattle.std.proofs.Common.{◌≡◌, ℕ, Option, List, length, take}
use Rattle.std.specs.Prelude.{vec_capacity}
use Rattle.run_beside.specs.Near.{AreNear}
use Rattle.run_beside.proofs.near.Near.come_near.Given as goal

abbrev pub invariant-loop-place : goal.invariant-loop-place
invariant-loop-place l = record {
  near : (owners : List (Option ℕ)) → AreNear l.parts owners l.fn.self → AreNear l.parts owners l.self;
  same : l.self.parts.items ≡ take l.place l.apart.list;
  started : length l.self.starts.items ≡ length l.self.parts.items;
  nodes : length l.self.nodes.inside ≡ length l.fn.self.nodes.inside;
  room : vec_capacity l.self.parts ≡ vec_capacity l.fn.self.parts;
  start_room : vec_capacity l.self.starts ≡ vec_capacity l.fn.self.starts;
  current : l.self.is_current ≡ l.fn.self.is_current;
}
