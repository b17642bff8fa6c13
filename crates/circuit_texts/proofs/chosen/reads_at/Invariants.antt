-- The chosen groups so far have the lists of the nodes that they read.
use Rattle.std.proofs.Common.{take}
use Rattle.std.specs.List.{AllZip}
use Rattle.circuit_texts.specs.Reading.{AreReads}
use Rattle.circuit_texts.specs.Choosing.{chosen}
use Rattle.circuit_texts.proofs.chosen.reads_at.Given as goal

abbrev pub invariant-loop-id : goal.invariant-loop-id
invariant-loop-id l = AllZip (λ group list. AreReads l.graph group list.items) (chosen l.groups.groups (take l.id-index l.ids)) l.lists.items
