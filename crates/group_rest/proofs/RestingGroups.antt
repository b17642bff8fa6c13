-- A group rests where its members responded and no node that it reads changed.
-- In its local graph the new state is then the step of the old one: members responded, and what is outside stayed. The gates of its
-- switches are read, so the switches stayed as they were, and that step is steady by idempotence.
use Rattle.std.proofs.Common.{◌≡◌, ℕ, ◌<◌, ◌≤◌, inl, inr, List, length, sym, subst, ◌∙◌, arith}
use Rattle.std.specs.Prelude.{slice_index}
use Rattle.std.proofs.lemmas.Bool.{cases_lt}
use Rattle.std.proofs.lemmas.List.{length-map, get_or_default}
use Rattle.std.proofs.lemmas.List.Elements.{Contains-get_or}
use Rattle.ternary.specs.declared.tern.Tern.{Tern}
use Rattle.switch_paths.specs.Switching.{state_at, state_by, switch_state_at}
use Rattle.switch_paths.specs.Graphs.{GraphData, IsWired}
use Rattle.switch_paths.specs.Step.{IsResponse, IsStep}
use Rattle.switch_paths.specs.Laws.{SameSwitches}
use Rattle.switch_paths.proofs.RestingSteps.{steps_rest}
use Rattle.group_meaning.specs.Groups.{Group, IsGroup}
use Rattle.group_text.specs.Texts.{local_nodes, local_state, local_graph}
use Rattle.group_text.proofs.LocalNodes.{member_at, members_within, gate_local}
use Rattle.group_text.proofs.LocalEdges.{state_local, switch_state_local, copy_of, nodes_local, level_outside}
use Rattle.group_text.proofs.WellFormedTexts.{local_wired}
use Rattle.group_text.proofs.Locality.{responses}
use Rattle.group_rest.specs.Rest.{Reads, Rests, Responded, ReadsNoChange, UnreadGroupsRest}
use Rattle.switch_paths.proofs.InputNodes.{input_response}
use Rattle.group_rest.proofs.ReadNodes.{outside_read}

module _
    (g : GraphData) (wired : IsWired g) (group : Group) (is_group : IsGroup g group) (old new : List Tern)
    (responded : Responded g old new group.members) (unchanged : ReadsNoChange g group old new) where
  -- a first local node takes its steady state
  member_local_response : (local : ℕ) → local < length group.members →
      IsResponse (local_graph g group) (local_state (local_nodes g group) old) local (state_at (local_state (local_nodes g group) new) local)
  member_local_response local first =
      let locals = local_nodes g group in
      let inside : local < length locals = omega (arith, members_within g group is_group) in
      let node = slice_index group.members local in
      let answer = state_at (local_state locals new) local in
      let here : state_at new node ≡ answer =
      sym (state_local locals new local inside ∙ (ap_state (member_at g group is_group local first))) in
      let whole = responded node (Contains-get_or group.members local 0 first) in
      (responses g group old local answer wired is_group first).1 (subst (IsResponse g old node) here whole)
    where
      ap_state : {m n : ℕ} → m ≡ n → state_at new m ≡ state_at new n
      ap_state same = λ i. state_at new (same i)

  -- any other one keeps its state, which is its steady state
  outside_local_response : (local : ℕ) → length group.members ≤ local → local < length (local_nodes g group) →
      IsResponse (local_graph g group) (local_state (local_nodes g group) old) local (state_at (local_state (local_nodes g group) new) local)
  outside_local_response local past inside =
      let locals = local_nodes g group in
      let graph = local_graph g group in
      let before = local_state locals old in
      let stays : state_at before local ≡ state_at (local_state locals new) local =
      state_local locals old local inside ∙ (sym (unchanged (slice_index locals local) (outside_read g wired group is_group local past inside))
      ∙ sym (state_local locals new local inside)) in
      let steady = input_response graph (local_wired g wired group is_group) before local (omega (arith, nodes_local g group is_group))
      (level_outside g group is_group local past inside) in
      subst (IsResponse graph before local) stays steady

  -- so the local state has taken a step
  local_step : IsStep (local_graph g group) (local_state (local_nodes g group) old) (local_state (local_nodes g group) new)
  local_step =
      let locals = local_nodes g group in
      let counted = nodes_local g group is_group in
      record {
        count = length-map locals (state_at new) ∙ sym counted;
        each = λ local in_range.
            elim (cases_lt local (length group.members)) [
              | inl first ↦ member_local_response local first
              | inr past ↦ outside_local_response local past (omega (arith, counted))
            ];
      }

  -- in which its switches stayed as they were
  switches_stay : SameSwitches (local_graph g group) (local_state (local_nodes g group) old) (local_state (local_nodes g group) new)
  switches_stay place copy stands =
      let locals = local_nodes g group in
      let original = copy_of g group is_group place copy stands in
      let switch = original.switch in
      let gate = gate_local g group (slice_index group.switches place) switch original.inside original.at_place in
      let read : Reads g group switch.gate = record {
        place = slice_index group.switches place;
        inside = original.inside;
        switch = switch;
        at_place = original.at_place;
        reads = inl (λ i. switch.gate);
      } in
      let same : switch_state_at old switch ≡ switch_state_at new switch = λ i. state_by switch.kind (sym (unchanged switch.gate read) i) in
      rw original.same (switch_state_local locals old switch gate ∙ (same ∙ sym (switch_state_local locals new switch gate)))

  -- so each member rests
  members_rest : Rests g new group.members
  members_rest node member =
      let locals = local_nodes g group in
      let (local, first, is) = member in
      let after = local_state locals new in
      let counted = nodes_local g group is_group in
      let inside : local < length locals = omega (arith, members_within g group is_group) in
      let rest = steps_rest (local_graph g group) (local_wired g wired group is_group) (local_state locals old) after
      (length-map locals (state_at old) ∙ sym counted) local_step switches_stay in
      let steady = rest.each local (omega (arith, counted)) in
      let whole = (responses g group new local (state_at after local) wired is_group first).0 steady in
      let here : slice_index group.members local ≡ node = get_or_default group.members local 0 node first ∙ is in
      let stands : slice_index locals local ≡ node = member_at g group is_group local first ∙ here in
      let state : state_at after local ≡ state_at new node = state_local locals new local inside ∙ (λ i. state_at new (stands i)) in
      subst (λ m. IsResponse g new m (state_at new node)) here (subst (IsResponse g new (slice_index group.members local)) state whole)

-- a group rests where its members responded and no node that it reads changed
pub unread_group_rests : UnreadGroupsRest
unread_group_rests g group old new wired is_group responded unchanged = members_rest g wired group is_group old new responded unchanged
