-- Groups on which two runs agree. Their local graphs are one, and so are their local states; so they have the same responses, and move alike.
use Rattle.std.proofs.Common.{◌≡◌, ℕ, ◌<◌, inl, inr, Bool, true, false, List, length, sym, ap, ap₂, subst, ◌∙◌, arith}
use Rattle.std.specs.Prelude.{Contains, slice_index}
use Rattle.std.proofs.lemmas.Bool.{cases_lt}
use Rattle.std.proofs.lemmas.List.{get_or_default}
use Rattle.std.proofs.lemmas.List.Elements.{Contains-get_or}
use Rattle.ternary.specs.declared.tern.Tern.{Tern}
use Rattle.ternary.specs.Tern.{join}
use Rattle.switch_paths.specs.Switching.{state_at}
use Rattle.switch_paths.specs.Graphs.{GraphData, IsWired, nodes}
use Rattle.switch_paths.specs.Step.{IsResponse, IsStep}
use Rattle.switch_paths.proofs.UniqueSteps.{response_is_unique}
use Rattle.switch_paths.proofs.InputNodes.{input_response}
use Rattle.group_meaning.specs.Groups.{Group}
use Rattle.group_meaning.proofs.GroupLemmas.{member_storage}
use Rattle.group_text.specs.Texts.{local_nodes, local_state, local_graph}
use Rattle.group_text.proofs.LocalNodes.{member_at}
use Rattle.group_text.proofs.Locality.{responses}
use Rattle.group_rest.specs.Rest.{Reads}
use Rattle.group_rest.specs.Alike.{IsAlike}
use Rattle.group_rest.proofs.AlikeGroups.{map_same, IsAlike-sym, nodes_alike, text_alike, alike_groups_read_alike}
use Rattle.group_rest.proofs.ReadNodes.{outside_read}
use Rattle.machine_parts.proofs.CaseLemmas.{same_or_not}
use Rattle.run_beside.specs.Agreeing.{Agrees, IsMove, AllThatDiffer, AgreeingGroupsRespondAlike, AgreeingGroupsMoveAlike, UnlistedGroupsMoveAlike, InputNodesMoveAlike}

module _ (g h : GraphData) (wired : IsWired g) (wired_too : IsWired h) (group : Group) (alike : IsAlike g h group) (good bad : List Tern) (agrees : Agrees g group good bad) where
  -- the local nodes have the same states
  states_alike : local_state (local_nodes g group) bad ≡ local_state (local_nodes g group) good
  states_alike =
      map_same (state_at good) (state_at bad) (local_nodes g group) (λ node (local, inside, is).
      let locals = local_nodes g group in
      let stands : slice_index locals local ≡ node = get_or_default locals local 0 node inside ∙ is in
      elim (cases_lt local (length group.members)) [
        | inl first ↦
            let member : Contains group.members node = subst (Contains group.members) (sym (member_at g group alike.here local first) ∙ stands)
            (Contains-get_or group.members local 0 first) in
            agrees.members node member
        | inr past ↦ agrees.reads node (subst (Reads g group) stands (outside_read g wired group alike.here local past inside))
      ])

  -- a member's response under a fault is its response in the good run
  response_alike : (local : ℕ) (answer : Tern) → local < length group.members → IsResponse h bad (slice_index group.members local) answer →
      IsResponse g good (slice_index group.members local) answer
  response_alike local answer first whole =
      let within = (responses h group bad local answer wired_too alike.there first).1 whole in
      let same_graph = subst (λ graph. IsResponse graph (local_state (local_nodes h group) bad) local answer)
      (ap (λ text. text.graph) (text_alike g h group alike)) within in
      let same_nodes = subst (λ locals. IsResponse (local_graph g group) (local_state locals bad) local answer) (nodes_alike g h group alike) same_graph in
      let same = subst (λ states. IsResponse (local_graph g group) states local answer) states_alike same_nodes in
      (responses g group good local answer wired alike.here first).0 same

  member_response : (node : ℕ) → Contains group.members node → (answer : Tern) → IsResponse h bad node answer → IsResponse g good node answer
  member_response node (local, first, is) answer whole =
      let here : slice_index group.members local ≡ node = get_or_default group.members local 0 node first ∙ is in
      subst (λ m. IsResponse g good m answer) here
      (response_alike local answer first (subst (λ m. IsResponse h bad m answer) (sym here) whole))

-- agreeing is mutual
agrees_back : (g h : GraphData) → IsWired g → IsWired h → (group : Group) → IsAlike g h group → (good bad : List Tern) →
    Agrees g group good bad → Agrees h group bad good
agrees_back g h wired wired_too group alike good bad agrees = record {
  members = λ node member. sym (agrees.members node member);
  reads = λ node reads. sym (agrees.reads node ((alike_groups_read_alike g h group wired wired_too alike node).0 reads));
}

pub respond_alike : AgreeingGroupsRespondAlike
respond_alike g h group good bad wired wired_too alike agrees node member answer = (
  member_response g h wired wired_too group alike good bad agrees node member answer,
  member_response h g wired_too wired group (IsAlike-sym g h group alike) bad good (agrees_back g h wired wired_too group alike good bad agrees)
      node member answer,
)

-- in a plain step a node takes its one steady state
stepped : (g : GraphData) (old new : List Tern) (node : ℕ) (answer : Tern) → IsStep g old new → node < nodes g → IsResponse g old node answer →
    state_at new node ≡ answer
stepped g old new node answer step inside response = response_is_unique g old node (state_at new node) answer (step.each node inside) response

-- where two runs have the same steady state of a node and the same state, the node moves alike
moved : (joining : Bool) (g h : GraphData) (good good_next bad bad_next : List Tern) (node : ℕ) → node < nodes g → node < nodes h →
    ((answer : Tern) → IsResponse g good node answer → IsResponse h bad node answer) → state_at bad node ≡ state_at good node →
    IsMove joining g good good_next → IsMove joining h bad bad_next → state_at bad_next node ≡ state_at good_next node
moved false g h good good_next bad bad_next node inside inside_too same alike step step_too =
    stepped h bad bad_next node (state_at good_next node) step_too inside_too (same (state_at good_next node) (step.each node inside))
moved true g h good good_next bad bad_next node inside inside_too same alike step step_too =
    let answer = state_at step.response node in
    let steady = stepped h bad step_too.response node answer step_too.step inside_too (same answer (step.step.each node inside)) in
    step_too.joins.each node (omega (arith, step_too.joins.right, step_too.step.count, inside_too))
    ∙ (ap₂ join alike steady ∙ sym (step.joins.each node (omega (arith, step.joins.right, step.step.count, inside))))

pub move_alike : AgreeingGroupsMoveAlike
move_alike joining g h group good good_next bad bad_next wired wired_too alike agrees step step_too node member =
    moved joining g h good good_next bad bad_next node (member_storage g group alike.here node member).inside
    (member_storage h group alike.there node member).inside
    (λ answer. (respond_alike g h group good bad wired wired_too alike agrees node member answer).1)
    (agrees.members node member) step step_too

-- a node that isn't listed doesn't differ
unlisted : (differ : List ℕ) (good bad : List Tern) (node : ℕ) → AllThatDiffer differ good bad → ¬ Contains differ node → state_at bad node ≡ state_at good node
unlisted differ good bad node all out = elim (same_or_not (state_at bad node) (state_at good node)) [ inl same ↦ same | inr apart ↦ absurd (out (all node apart)) ]

pub unlisted_alike : UnlistedGroupsMoveAlike
unlisted_alike joining g h group differ good good_next bad bad_next wired wired_too alike all apart step step_too node member =
    let agrees : Agrees g group good bad = record {
      members = λ m inside. unlisted differ good bad m all (λ listed. apart.members m listed inside);
      reads = λ m reads. unlisted differ good bad m all (λ listed. apart.reads m listed reads);
    } in
    move_alike joining g h group good good_next bad bad_next wired wired_too alike agrees step step_too node member

pub inputs_alike : InputNodesMoveAlike
inputs_alike joining g h good good_next bad bad_next node wired wired_too inside inside_too input input_too step step_too same =
    moved joining g h good good_next bad bad_next node inside inside_too
    (λ answer response.
    let kept : answer ≡ state_at good node = response_is_unique g good node answer (state_at good node) response (input_response g wired good node inside input) in
    subst (IsResponse h bad node) (same ∙ sym kept) (input_response h wired_too bad node inside_too input_too))
    same step step_too
