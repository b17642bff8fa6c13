-- The first parts begin at their nodes.
use Rattle.std.proofs.Common.{length}
use Rattle.unit_step.proofs.LastTextsLemmas.{AreBegun}
use Rattle.unit_step.proofs.last_texts.LastTexts.of_parts.Given as goal

abbrev pub invariant-loop-k : goal.invariant-loop-k
invariant-loop-k l = AreBegun l.parts l.uses.numbers l.nodes (length l.uses.known) l.k l.numbers.items
