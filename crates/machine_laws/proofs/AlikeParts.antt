-- The part of a group that two graphs share, with the same switches and the same levels of its members, is its part in both.
use Rattle.std.proofs.Common.{sym, subst, ◌∙◌}
use Rattle.switch_paths.specs.Graphs.{GraphData, IsWired}
use Rattle.group_meaning.specs.Groups.{Group}
use Rattle.group_rest.specs.Alike.{IsAlike}
use Rattle.group_rest.proofs.AlikeGroups.{alike_groups_have_one_text, alike_groups_read_alike}
use Rattle.straight_code.specs.Code.{CodeData}
use Rattle.group_analysis.specs.Meaning.{MeansText}
use Rattle.machine_parts.specs.declared.part.MachinePart.{MachinePart}
use Rattle.machine_laws.specs.Fitting.{IsCoded}
use Rattle.machine_laws.specs.Laws.{AlikeGroupsKeepTheirParts}

-- the code of the group in the one graph is its code in the other
coded_alike : (g h : GraphData) (group : Group) (part : MachinePart) (code : CodeData) → IsWired g → IsWired h → IsAlike g h group →
    IsCoded g group part code → IsCoded h group part code
coded_alike g h group part code wired wired_too alike coded =
    let (nodes_same, text_same) = alike_groups_have_one_text g h group alike in
    record {
      mapped = coded.mapped ∙ sym nodes_same;
      means = subst (λ text. MeansText text code) (sym text_same) coded.means;
      reads = λ node.
          let (to, from) = coded.reads node in
          let (here, there) = alike_groups_read_alike g h group wired wired_too alike node in
          (λ listed. there (to listed), λ reads. from (here reads));
    }

-- and so is the part
pub alike_groups_keep_their_parts : AlikeGroupsKeepTheirParts
alike_groups_keep_their_parts g h group part wired wired_too alike is_part = record {
  is_group = alike.there;
  count = is_part.count;
  members = is_part.members;
  coded = λ code has. coded_alike g h group part code.value wired wired_too alike (is_part.coded code has);
}
