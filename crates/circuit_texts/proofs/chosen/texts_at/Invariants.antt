-- The chosen groups so far fit, and have their texts and the nodes that their local nodes stand for.
use Rattle.std.proofs.Common.{◌≡◌, None, map, take, All}
use Rattle.group_text.specs.Texts.{local_nodes, text_of_group}
use Rattle.circuit_texts.specs.Sizes.{fault_in}
use Rattle.circuit_texts.specs.Choosing.{chosen}
use Rattle.circuit_texts.proofs.chosen.texts_at.Given as goal

abbrev pub invariant-loop-id : goal.invariant-loop-id
invariant-loop-id l = record {
  texts : l.texts.items ≡ map (text_of_group l.graph) (chosen l.groups.groups (take l.id-index l.ids));
  maps : map (λ nodes. nodes.items) l.maps.items ≡ map (local_nodes l.graph) (chosen l.groups.groups (take l.id-index l.ids));
  fits : All (λ group. fault_in group ≡ None) (chosen l.groups.groups (take l.id-index l.ids));
}
