-- A group that is stepped by vicinities: its responses are those in the graph of such groups, and what rested rests again after a step.
use Rattle.std.proofs.Common.{◌≡◌, ◌≢◌, ℕ, ◌<◌, ◌⊎◌, inl, inr, Option, None, Some, List, ◌++◌, length, refl, sym, ap, subst, ◌∙◌, arith}
use Rattle.std.specs.Prelude.{Contains, slice_index, slice_index_or}
use Rattle.std.proofs.lemmas.List.{get_or_default}
use Rattle.ternary.specs.declared.tern.Tern.{Tern}
use Rattle.strength_order.specs.declared.TheConstants.{INPUT_LEVEL}
use Rattle.switch_paths.specs.declared.switching.Switch.{Switch}
use Rattle.switch_paths.specs.Path.{Joins}
use Rattle.switch_paths.specs.Switching.{state_at, state_by}
use Rattle.switch_paths.specs.Graphs.{GraphData, IsWired, IsStorage, nodes, level_of, place_at}
use Rattle.switch_paths.specs.Step.{IsResponse}
use Rattle.switch_paths.proofs.PathLemmas.{switch_fits}
use Rattle.group_meaning.specs.Groups.{Group, AreJoined}
use Rattle.group_meaning.proofs.GroupLemmas.{member_storage, switch_of_member}
use Rattle.group_meaning.proofs.LinkLemmas.{Joins-sym}
use Rattle.group_text.specs.Texts.{GroupTextData}
use Rattle.circuit_texts.specs.Sizes.{fault_in, refused_in}
use Rattle.group_rest.specs.Alike.{IsAlike}
use Rattle.group_rest.proofs.AlikeGroups.{response_alike, end_alike}
use Rattle.vicinity.specs.Touching.{IsAwake, IsStirred, SwitchChanges, RestsAsleep, RespondedAsleep}
use Rattle.vicinity.specs.Wides.{WideData}
use Rattle.vicinity.specs.Growing.{GrowsWide, grown_graph}
use Rattle.vicinity.proofs.LiveGraphs.{joined_whole}
use Rattle.vicinity.proofs.SleepingNodes.{asleep_rest}
use Rattle.vicinity.proofs.GrowingLemmas.{IsAlike-grown, near_grown, state_before}
use Rattle.machine_parts.specs.declared.part.MachinePart.{MachinePart}
use Rattle.machine_parts.specs.Parts.{Stands}
use Rattle.machine_laws.specs.Machines.{MachineData}
use Rattle.machine_laws.specs.Fitting.{IsPartOf, IsHeldIn, FitsGraph}
use Rattle.machine_laws.proofs.PartGroups.{one_group}
use Rattle.machine_laws.proofs.AlikeParts.{alike_groups_keep_their_parts}

-- an option is something or nothing
pub known_or_not : {X : Type 0} (o : Option X) → ((x : X) × (o ≡ Some x)) ⊎ (o ≡ None)
known_or_not None = inr refl
known_or_not (Some x) = inl (x, refl)

IsAlike-back : (g h : GraphData) (group : Group) → IsAlike g h group → IsAlike h g group
IsAlike-back g h group alike = record {
  here = alike.there;
  there = alike.here;
  places = λ place inside. sym (alike.places place inside);
  levels = λ node member. sym (alike.levels node member);
}

-- a member's response in the one graph is its response in the other
pub response_here : (g h : GraphData) (group : Group) (state : List Tern) → IsWired g → IsWired h → IsAlike g h group → (node : ℕ) →
    Contains group.members node → (value : Tern) → IsResponse h state node value → IsResponse g state node value
response_here g h group state wired wired_too alike node (local, first, is) value response =
    let here : slice_index group.members local ≡ node = get_or_default group.members local 0 node first ∙ is in
    subst (λ m. IsResponse g state m value) here
    (response_alike g h group alike state wired wired_too local value first (subst (λ m. IsResponse h state m value) (sym here) response))

pub response_there : (g h : GraphData) (group : Group) (state : List Tern) → IsWired g → IsWired h → IsAlike g h group → (node : ℕ) →
    Contains group.members node → (value : Tern) → IsResponse g state node value → IsResponse h state node value
response_there g h group state wired wired_too alike node member value response =
    response_here h g group state wired_too wired (IsAlike-back g h group alike) node member value response

module _ (g : GraphData) (wired : IsWired g) (wide : WideData) (wired_too : IsWired wide.graph) (group : Group) (alike : IsAlike g wide.graph group)
    (old new : List Tern) where
  -- an input node at the edge of the group there is one here
  edge_input : (place node other : ℕ) → Contains group.members node → AreJoined wide.graph place node other →
      level_of wide.graph other ≡ INPUT_LEVEL → level_of g other ≡ INPUT_LEVEL
  edge_input place node other member joined input =
      let inside = switch_of_member wide.graph group alike.there place node other joined.switch joined.at_place joined.joins member in
      end_alike g wide.graph group alike wired wired_too place other node joined.switch inside
      (sym (alike.places place inside) ∙ joined.at_place) (Joins-sym joined.switch node other joined.joins) input

  -- where each member that the touched nodes afterwards leave asleep responded, input nodes stay and what is stirred is touched, what is asleep
  -- afterwards rests
  pub held_rests : (again : List ℕ) → RespondedAsleep wide.graph old new group.members again →
      ((node : ℕ) → level_of g node ≡ INPUT_LEVEL → state_at new node ≡ state_at old node) →
      ((node : ℕ) → IsStorage wide.graph node → SwitchChanges wide.graph old new node → Contains again node) →
      RestsAsleep wide.graph new group.members again
  held_rests again responded inputs_stay touches = asleep_rest wide.graph group again old new wired_too alike.there responded stirred
    where
      stirred : (node : ℕ) → Contains group.members node → IsStirred wide.graph old new node → Contains again node
      stirred node member (inl changed) = touches node (member_storage wide.graph group alike.there node member) changed
      stirred node member (inr edge) =
          let joined = joined_whole wide.graph old edge.place node edge.other edge.joined in
          absurd (edge.changed (inputs_stay edge.other (edge_input edge.place node edge.other member joined edge.input)))

-- on a graph that a machine fits each stale part is that of a group that is stepped by vicinities
pub held_at : (g : GraphData) (m : MachineData) → FitsGraph g m → (wide : WideData) → m.wide ≡ Some wide → (k : ℕ) (part : MachinePart) → Stands m.parts k part →
    0 < part.members → part.code ≡ None → IsHeldIn g m.state wide (slice_index_or m.uses k None) part
held_at g m fits wide is k part stands some none =
    let (one, known, held) = fits.coded k part stands some none in
    let both : Some one ≡ Some wide = sym known ∙ is in
    let same : one ≡ wide = cc in
    subst (λ (w : WideData). IsHeldIn g m.state w (slice_index_or m.uses k None) part) same held

-- so if none is known no part is stale
pub coded_without : (g : GraphData) (m : MachineData) → FitsGraph g m → m.wide ≡ None → (k : ℕ) (part : MachinePart) → Stands m.parts k part →
    0 < part.members → part.code ≢ None
coded_without g m fits without k part stands some none =
    let (one, known, held) = fits.coded k part stands some none in
    let both : Some one ≡ None = sym known ∙ without in
    absurd cc

-- a group that stands in the graph of such groups as it does in the circuit's, before new nodes
module _ (g : GraphData) (wired : IsWired g) (h : GraphData) (wired_too : IsWired h) (group : Group) (alike : IsAlike g h group)
    (state more : List Tern) (counted : length state ≡ nodes g) where
  -- the gate and the other end of a switch at a member are nodes of the circuit
  switch_inside : (place node other : ℕ) (switch : Switch) → place_at h.places place ≡ Some switch → Joins switch node other →
      Contains group.members node → (switch.gate < length state) × (other < length state)
  switch_inside place node other switch stands joins member =
      let inside = switch_of_member h group alike.there place node other switch stands joins member in
      let fits = switch_fits g wired place switch (sym (alike.places place inside) ∙ stands) in (
        omega (arith, fits.gate, counted),
        elim joins [ inl ends ↦ omega (arith, fits.b, ends.1, counted) | inr ends ↦ omega (arith, fits.a, ends.1, counted) ],
      )

  -- so what rests there rests with new nodes behind
  pub rests_more : (touched : List ℕ) → RestsAsleep h state group.members touched → RestsAsleep h (state ++ more) group.members touched
  rests_more touched rests = asleep_rest h group touched state (state ++ more) wired_too alike.there responded stirred
    where
      responded : RespondedAsleep h state (state ++ more) group.members touched
      responded node member asleep =
          let inside : node < length state = omega (arith, (member_storage g group alike.here node member).inside, counted) in
          subst (IsResponse h state node) (sym (state_before state more node inside)) (rests node member asleep)

      stirred : (node : ℕ) → Contains group.members node → IsStirred h state (state ++ more) node → Contains touched node
      stirred node member (inl changes) =
          let (gate, other) = switch_inside changes.place node changes.other changes.switch changes.at_place changes.joins member in
          absurd (changes.changed (ap (state_by changes.switch.kind) (state_before state more changes.switch.gate gate)))
      stirred node member (inr edge) =
          let joined = joined_whole h state edge.place node edge.other edge.joined in
          let (gate, other) = switch_inside edge.place node edge.other joined.switch joined.at_place joined.joins member in
          absurd (edge.changed (state_before state more edge.other other))

  -- and in the graph that has the new nodes
  pub rests_grown : (count : ℕ) (touched : List ℕ) → IsWired (grown_graph h count) → RestsAsleep h state group.members touched →
      RestsAsleep (grown_graph h count) (state ++ more) group.members touched
  rests_grown count touched wired_after rests node member asleep =
      let still : ¬ IsAwake h (state ++ more) touched node =
      λ awake. asleep (awake.0, awake.1, near_grown h count (state ++ more) awake.0 node awake.2) in
      response_there h (grown_graph h count) group (state ++ more) wired_too wired_after (IsAlike-grown h count group alike.there) node member
      (state_at (state ++ more) node) (rests_more touched rests node member still)

-- a group that an edit leaves as it was is held still
pub IsHeldIn-grown : (before g : GraphData) → IsWired before → IsWired g → (state more : List Tern) → length state ≡ nodes before → (count : ℕ)
    (wide later : WideData) → GrowsWide count wide later → (text : Option GroupTextData) (part : MachinePart) (group : Group) →
    IsAlike before g group →
    IsPartOf before group part → IsHeldIn before state wide text part → IsHeldIn g (state ++ more) later text part
IsHeldIn-grown before g wired_before wired state more counted count wide later grows text part group alike is_part held =
    let same : held.group ≡ group = one_group before held.group group part held.is_part is_part in
    let there : IsAlike before wide.graph group = subst (IsAlike before wide.graph) same held.alike in
    let after : IsAlike wide.graph (grown_graph wide.graph count) group = IsAlike-grown wide.graph count group there.there in
    let wired_after : IsWired (grown_graph wide.graph count) = subst IsWired grows.graph grows.wired in
    let rested : RestsAsleep wide.graph state group.members wide.touched.list =
    subst (λ (one : Group). RestsAsleep wide.graph state one.members wide.touched.list) same held.rests in
    let rests = rests_grown before wired_before wide.graph held.wired group there state more counted count wide.touched.list wired_after rested in
    record {
      group = group;
      is_part = alike_groups_keep_their_parts before g group part wired_before wired alike is_part;
      allowed = subst (λ (one : Group). refused_in later.large one ≡ None) same
          (subst (λ large. refused_in large held.group ≡ None) (sym grows.large) held.allowed);
      told = subst (λ (one : Group). fault_in one ≡ None → text ≢ None) same held.told;
      wired = grows.wired;
      alike = subst (λ h. IsAlike g h group) (sym grows.graph) (record {
        here = alike.there;
        there = after.there;
        places = λ place inside. after.places place inside ∙ (there.places place inside ∙ sym (alike.places place inside));
        levels = λ node member. after.levels node member ∙ (there.levels node member ∙ sym (alike.levels node member));
      });
      rests = subst (λ touched. RestsAsleep later.graph (state ++ more) group.members touched) (sym grows.touched)
          (subst (λ h. RestsAsleep h (state ++ more) group.members wide.touched.list) (sym grows.graph) rests);
    }
