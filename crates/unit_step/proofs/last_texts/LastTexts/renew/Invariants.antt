-- The numbers at the nodes that are noted no more are found.
use Rattle.std.proofs.Common.{length}
use Rattle.unit_step.specs.LastTexts.{AreLastTexts}
use Rattle.unit_step.proofs.last_texts.LastTexts.renew.Given as goal

abbrev pub invariant-loop-node : goal.invariant-loop-node
invariant-loop-node l = AreLastTexts l.parts l.uses.numbers (length l.owners) (length l.uses.known) l.self

abbrev pub decreases-loop-node : goal.decreases-loop-node
decreases-loop-node l = goal.left-loop-node l
