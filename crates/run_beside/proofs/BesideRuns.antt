-- A machine beside a good run stays beside it: a group that responded and reads no change rests.
use Rattle.std.proofs.Common.{◌≡◌, inl, inr, Bool, true, false, List, sym, subst, ◌∙◌}
use Rattle.ternary.specs.declared.tern.Tern.{Tern}
use Rattle.switch_paths.specs.Switching.{state_at}
use Rattle.switch_paths.specs.Graphs.{GraphData}
use Rattle.switch_paths.specs.Step.{IsResponse}
use Rattle.switch_paths.proofs.UniqueSteps.{response_is_unique}
use Rattle.group_meaning.specs.Groups.{Group, IsGroup}
use Rattle.group_meaning.proofs.GroupLemmas.{member_storage}
use Rattle.group_rest.specs.Rest.{Responded, ReadsNoChange}
use Rattle.group_rest.proofs.RestingGroups.{unread_group_rests}
use Rattle.machine_parts.proofs.CaseLemmas.{after-same}
use Rattle.run_beside.specs.Agreeing.{IsMove}
use Rattle.run_beside.specs.Beside.{NeedsNoMark, StepsStayBeside, PlacingStaysBeside}
use Rattle.run_beside.proofs.DifferenceSteps.{moves_by}

-- the members of a group that needs no mark responded
responded : (joining : Bool) (h : GraphData) (bad bad_next : List Tern) (group : Group) → IsGroup h group → IsMove joining h bad bad_next →
    NeedsNoMark joining h bad bad_next group → Responded h bad bad_next group.members
responded false h bad bad_next group is_group step needs node member = step.each node (member_storage h group is_group node member).inside
responded true h bad bad_next group is_group step needs node member =
    let moves = moves_by true h bad bad_next node (member_storage h group is_group node member).inside step in
    let rest = needs.0 node member in
    let same : moves.0 ≡ state_at bad node = response_is_unique h bad node moves.0 (state_at bad node) moves.1 rest in
    subst (IsResponse h bad node) (sym (moves.2 ∙ (rw same (after-same true (state_at bad node))))) rest

reads_none : (joining : Bool) (h : GraphData) (bad bad_next : List Tern) (group : Group) → NeedsNoMark joining h bad bad_next group →
    ReadsNoChange h group bad bad_next
reads_none true h bad bad_next group needs = needs.1
reads_none false h bad bad_next group needs = needs

pub steps_stay : StepsStayBeside
steps_stay joining g h good_next bad bad_next marked wired step each group is_group =
    elim (each group is_group) [
      | inl follows ↦ inl follows
      | inr other ↦ elim other [
        | inl mark ↦ inr (inl mark)
        | inr needs ↦
            inr (inr (unread_group_rests h group bad bad_next wired is_group (responded joining h bad bad_next group is_group step needs)
            (reads_none joining h bad bad_next group needs)))
      ]
    ]

pub placing_stays : PlacingStaysBeside
placing_stays g h good_next bad bad_next marked wired each group is_group =
    elim (each group is_group) [
      | inl follows ↦ inl follows
      | inr other ↦ elim other [
        | inl mark ↦ inr (inl mark)
        | inr (rests, same, none) ↦
            inr (inr (unread_group_rests h group bad bad_next wired is_group
            (λ node member. subst (IsResponse h bad node) (sym (same node member)) (rests node member)) none))
      ]
    ]
