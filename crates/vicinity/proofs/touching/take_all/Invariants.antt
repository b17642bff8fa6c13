-- The changes so far are written, and what they stir is touched.
use Rattle.std.proofs.Common.{take}
use Rattle.vicinity.specs.LiveLists.{AreListsOf}
use Rattle.machine_parts.specs.Running.{IsTaken}
use Rattle.vicinity.specs.Stepping.{Touches}
use Rattle.vicinity.proofs.touching.take_all.Given as goal

abbrev pub invariant-loop-change : goal.invariant-loop-change
invariant-loop-change l = record {
  taken : IsTaken (take l.change-index l.changes) l.fn.state l.state;
  lists : AreListsOf l.graph l.state l.lists;
  touches : Touches l.graph l.fn.state l.state l.fn.touched.inside l.touched.inside;
}
