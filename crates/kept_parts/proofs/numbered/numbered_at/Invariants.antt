-- The chosen groups so far fit, each has its text's number, each distinct text is known, and for each there are the nodes of the text's local nodes.
use Rattle.std.proofs.Common.{◌≡◌, None, Some, map, take, All}
use Rattle.group_text.specs.FirstTexts.{first_texts}
use Rattle.group_text.specs.Texts.{local_nodes, text_of_group}
use Rattle.circuit_texts.specs.Sizes.{fault_in}
use Rattle.circuit_texts.specs.Choosing.{chosen}
use Rattle.kept_parts.specs.Uses.{texts_used}
use Rattle.kept_parts.proofs.numbered.numbered_at.Given as goal

abbrev pub invariant-loop-id : goal.invariant-loop-id
invariant-loop-id l = record {
  texts : texts_used l.uses ≡ map Some (map (text_of_group l.graph) (chosen l.groups.groups (take l.id-index l.ids)));
  known : l.uses.known ≡ first_texts (map (text_of_group l.graph) (chosen l.groups.groups (take l.id-index l.ids)));
  maps : map (λ nodes. nodes.items) l.maps.items ≡ map (local_nodes l.graph) (chosen l.groups.groups (take l.id-index l.ids));
  fits : All (λ group. fault_in group ≡ None) (chosen l.groups.groups (take l.id-index l.ids));
}
