-- The part of a group fits the circuit: its code has an input for each local node, and each of these stands for a node of its own.
use Rattle.std.proofs.Common.{length, sym, ap, ◌∙◌}
use Rattle.std.proofs.lemmas.Bool.Decides.{Decides-eqb}
use Rattle.std.proofs.lemmas.Map.Made.{IsDistinct-from_AllPairs}
use Rattle.switch_paths.specs.Graphs.{GraphData, IsWired, nodes}
use Rattle.group_meaning.specs.Groups.{Group, IsGroup}
use Rattle.group_text.specs.Texts.{local_nodes}
use Rattle.group_text.proofs.LocalRanges.{locals_inside}
use Rattle.group_text.proofs.LocalEdges.{nodes_local}
use Rattle.group_text.proofs.LocalNodes.{locals_apart, members_within}
use Rattle.straight_code.specs.declared.part.Part.{Part}
use Rattle.straight_code.specs.Parts.{IsPart}
use Rattle.circuit_texts.specs.Parts.{IsPartOf}

module _ (g : GraphData) (wired : IsWired g) (group : Group) (is_group : IsGroup g group) where
  -- the part of the group fits the graph
  pub IsPart-from_group : (part : Part) → IsPartOf g group part → IsPart (nodes g) part
  IsPart-from_group part made =
      let locals = local_nodes g group in
      record {
        inputs = ap length made.map ∙ sym (made.means.inputs ∙ nodes_local g group is_group);
        outputs = made.means.outputs ∙ sym made.members;
        members = rw (made.members, made.map) (members_within g group is_group);
        apart = rw made.map (IsDistinct-from_AllPairs Decides-eqb locals (locals_apart g group));
        below = rw made.map (locals_inside g wired group is_group);
      }
