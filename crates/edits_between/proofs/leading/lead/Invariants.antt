-- So far the machine was led, and at all spots but those that are left the graph has what the target has.
use Rattle.edits_between.specs.Leading.{AreSameBut, IsAsLarge, LedIn}
use Rattle.edits_between.proofs.ReachingLemmas.{StandsFrom}
use Rattle.edits_between.proofs.leading.lead.Given as goal

abbrev pub invariant-loop-number : goal.invariant-loop-number
invariant-loop-number g l = record {
  led : LedIn l.fn.graph l.graph l.fn.slot l.slot;
  large : IsAsLarge l.graph l.target;
  left : AreSameBut (StandsFrom l.number l.apart.spots.items) l.graph l.target;
}
