-- What came so far came from the table at the start; while nothing rose, nothing more comes over the places so far.
use Rattle.std.proofs.Common.{◌≡◌, ◌<◌}
use Rattle.std.specs.Bool.{OnTrue, OnFalse}
use Rattle.switch_paths.specs.Spread.{AllCome, Grows, IsSpreadBelow, room_left}
use Rattle.switch_paths.proofs.spread.spread_once.Given as goal

abbrev pub invariant-loop-place : goal.invariant-loop-place
invariant-loop-place l = record {
  come : AllCome l.places l.widths l.floor l.initial.table l.table;
  grows : Grows l.initial.table l.table;
  room : OnTrue l.rose (room_left l.table < room_left l.initial.table);
  same : OnFalse l.rose (l.table ≡ l.initial.table);
  below : OnFalse l.rose (IsSpreadBelow l.places l.widths l.floor l.place l.table);
}
