-- On a graph that a machine fits each node moves to its steady state: a member of a marked part by the part's code, a member of any
-- other part, which rests, and an input node by staying.
use Rattle.std.proofs.Common.{◌≡◌, ℕ, ◌<◌, Bool, false, inl, inr, Some, Global, List, length, map, take, refl, sym, ap, subst, ◌∙◌, arith}
use Rattle.std.specs.Prelude.{slice_index, slice_index_or, Contains}
use Rattle.std.proofs.lemmas.Option.{slice_get_read}
use Rattle.ternary.specs.declared.tern.Tern.{Tern}
use Rattle.strength_order.specs.declared.TheConstants.{INPUT_LEVEL}
use Rattle.switch_paths.specs.Switching.{state_at}
use Rattle.switch_paths.specs.Graphs.{GraphData, IsWired, IsStorage, nodes, level_of}
use Rattle.switch_paths.specs.Step.{IsResponse}
use Rattle.group_meaning.proofs.GroupLemmas.{member_storage, storage_or_input}
use Rattle.group_text.specs.Texts.{local_nodes, local_state}
use Rattle.switch_paths.proofs.InputNodes.{input_response}
use Rattle.straight_code.specs.Code.{code_value}
use Rattle.group_analysis.proofs.ResponseLemmas.{given_response}
use Rattle.std.specs.declared.rc.Rc.{Rc}
use Rattle.straight_code.specs.Code.{CodeData}
use Rattle.switch_paths.proofs.ExistingSteps.{exists}
use Rattle.switch_paths.proofs.UniqueSteps.{response_is_unique}
use Rattle.vicinity.specs.Touching.{IsAwake}
use Rattle.vicinity.specs.Wides.{WideData}
use Rattle.vicinity.proofs.SleepingNodes.{same_tern}
use Rattle.wide_groups.specs.Moving.{graph_in, IsAwakeIn, MovesIn}
use Rattle.wide_groups.proofs.WideCases.{awake_stale}
use Rattle.machine_parts.specs.declared.part.MachinePart.{MachinePart}
use Rattle.machine_parts.specs.Parts.{Stands, IsMemberAt, HasMember, IsStale}
use Rattle.machine_laws.specs.Machines.{MachineData}
use Rattle.machine_parts.specs.Marking.{IsMarked}
use Rattle.machine_parts.specs.Stepping.{IsGiven}
use Rattle.part_words.specs.Noting.{after}
use Rattle.machine_laws.specs.Fitting.{FitsGraph}
use Rattle.machine_parts.proofs.CaseLemmas.{true_or_not, after-same}
use Rattle.machine_parts.proofs.PartLemmas.{same_part, HasMember-from_Gives}
use Rattle.machine_laws.proofs.HeldLemmas.{known_or_not, response_there, held_at}
use Rattle.machine_laws.proofs.PartGroups.{member_from_part, place_in_group, member_in_group, member_of_part}

-- the node has this steady state, and moves to it
pub record MovesTo (g : GraphData) (joining : Bool) (old new : List Tern) (node : ℕ) : Type 0 where
  pub value : Tern
  pub response : IsResponse g old node value
  pub moves : state_at new node ≡ after joining (state_at old node) value

module _ (g : GraphData) (wired : IsWired g) (m : MachineData) (fits : FitsGraph g m) where
  -- what a marked part gives a node is its steady state
  pub given_is_response : (node : ℕ) (value : Tern) → IsGiven m.parts m.marks m.state node value → IsResponse g m.state node value
  given_is_response node value given =
      let gives = given.gives in
      let part = gives.part in
      let some : 0 < part.members = omega (arith, gives.member.inside) in
      let (group, is_part) = fits.covers.whole given.k part gives.stands some in
      let coded = is_part.coded gives.code gives.has in
      let place = gives.place in
      let here = given_response g wired group is_part.is_group gives.code.value coded.means m.state fits.sound place
      (place_in_group g group part is_part place node gives.member) in
      let mapped : state_at (code_value gives.code.value (local_state (local_nodes g group) m.state)) place ≡ value =
      ap (λ locals. state_at (code_value gives.code.value (local_state locals m.state)) place) (sym coded.mapped) ∙ sym gives.value_is in
      subst (λ n. IsResponse g m.state n value) (member_from_part g group part is_part place node gives.member)
      (subst (IsResponse g m.state (slice_index group.members place)) mapped here)

  -- a member of a part is a storage node
  pub member_is_storage : (k node : ℕ) → HasMember m.parts k node → IsStorage g node
  member_is_storage k node has =
      let some : 0 < has.part.members = omega (arith, has.member.inside) in
      let (group, is_part) = fits.covers.whole k has.part has.stands some in
      member_storage g group is_part.is_group node (member_in_group g group has.part is_part has.place node has.member)

  -- a storage node is a member of a part
  pub storage_has_part : (node : ℕ) → IsStorage g node → (k : ℕ) × HasMember m.parts k node
  storage_has_part node storage =
      let groups = fits.covers.groups.groups in
      let (i, group, inside, stands, member) = fits.covers.are.are.whole node storage in
      let has = fits.covers.each i group (slice_get_read groups (length groups) i group refl inside (sym stands)) in
      let (place, there) = member_of_part g group has.part has.is_part node member in
      (has.k, record { part = has.part; stands = has.stands; place = place; member = there })

  -- a node that is awake is a member of a stale part
  awake_has_stale : (node : ℕ) → IsAwakeIn m.wide m.state node → (k : ℕ) × HasMember m.parts k node × IsStale m.parts k
  awake_has_stale = awake_stale m.parts m.wide fits.covers.stale_only m.state

  -- so no input node is awake
  input_asleep : (node : ℕ) → level_of g node ≡ INPUT_LEVEL → ¬ IsAwakeIn m.wide m.state node
  input_asleep node input awake =
      let (k, has, stale) = awake_has_stale node awake in
      absurd (omega (arith, (member_is_storage k node has).below, input))

  -- nor is a member of a part that isn't stale
  fresh_asleep : (k node : ℕ) → HasMember m.parts k node → (¬ IsStale m.parts k) → ¬ IsAwakeIn m.wide m.state node
  fresh_asleep k node has fresh awake =
      let (l, has_too, stale) = awake_has_stale node awake in
      fresh (subst (IsStale m.parts) (fits.covers.apart l k node has_too has) stale)

  -- nor one of a part that isn't marked
  unmarked_asleep : (k node : ℕ) → HasMember m.parts k node → (¬ IsMarked m.marks k) → ¬ IsAwakeIn m.wide m.state node
  unmarked_asleep k node has unmarked =
      fresh_asleep k node has (λ stale. unmarked (fits.covers.waits k stale.part stale.stands stale.some stale.none))

  -- a stale part gives nothing
  nothing_to_stale : (k node : ℕ) → HasMember m.parts k node → IsStale m.parts k → (value : Tern) → ¬ IsGiven m.parts m.marks m.state node value
  nothing_to_stale k node has stale value given =
      let gives = given.gives in
      let same = fits.covers.apart given.k k node (HasMember-from_Gives m.parts m.state given.k node value gives) has in
      let part = same_part m.parts k stale.part gives.part stale.stands (subst (λ l. Stands m.parts l gives.part) same gives.stands) in
      absurd (cc (ap (λ (p : MachinePart). p.code) part, stale.none, gives.has))

  -- an input node is given nothing
  nothing_to_input : (node : ℕ) → level_of g node ≡ INPUT_LEVEL → (value : Tern) → ¬ IsGiven m.parts m.marks m.state node value
  nothing_to_input node input value given =
      let storage = member_is_storage given.k node (HasMember-from_Gives m.parts m.state given.k node value given.gives) in
      absurd (omega (arith, storage.below, input))

  -- nor is a member of a part that isn't marked
  nothing_to_unmarked : (k node : ℕ) → HasMember m.parts k node → (¬ IsMarked m.marks k) → (value : Tern) →
      ¬ IsGiven m.parts m.marks m.state node value
  nothing_to_unmarked k node has unmarked value given =
      let same = fits.covers.apart given.k k node (HasMember-from_Gives m.parts m.state given.k node value given.gives) has in
      unmarked (subst (IsMarked m.marks) same given.marked)

  -- a member of a group that is stepped by vicinities moves to its steady state in any step in which it takes that state if it is awake, and stays if not: for
  -- then it has it
  pub MovesTo-held : (joining : Bool) (new : List Tern) → ((node : ℕ) (value : Tern) → IsAwakeIn m.wide m.state node → IsResponse (graph_in m.wide) m.state node value →
      state_at new node ≡ after joining (state_at m.state node) value) → (wide : WideData) → m.wide ≡ Some wide → (k node : ℕ) → HasMember m.parts k node →
      IsStale m.parts k → node < nodes g → ((¬ IsAwakeIn m.wide m.state node) → state_at new node ≡ state_at m.state node) → MovesTo g joining m.state new node
  MovesTo-held joining new takes wide is k node has stale in_range stays =
      let held = held_at g m fits wide is k stale.part stale.stands stale.some stale.none in
      let part = same_part m.parts k has.part stale.part has.stands stale.stands in
      let at_place : IsMemberAt stale.part has.place node = subst (λ p. IsMemberAt p has.place node) part has.member in
      let member = member_in_group g held.group stale.part held.is_part has.place node at_place in
      let step = exists g wired m.state in
      let value = state_at step.0 node in
      let response : IsResponse g m.state node value = step.1.each node in_range in
      let there = response_there g wide.graph held.group m.state wired held.wired held.alike node member value response in
      let awake_moves : IsAwake wide.graph m.state wide.touched.list node → state_at new node ≡ after joining (state_at m.state node) value =
      λ awake. takes node value (subst (λ w. IsAwakeIn w m.state node) (sym is) awake)
      (subst (λ w. IsResponse (graph_in w) m.state node value) (sym is) there) in
      let asleep_moves : ¬ IsAwake wide.graph m.state wide.touched.list node → state_at new node ≡ after joining (state_at m.state node) value =
      λ asleep.
      let same : state_at m.state node ≡ value =
      response_is_unique wide.graph m.state node (state_at m.state node) value (held.rests node member asleep) there in
      stays (λ awake. asleep (subst (λ w. IsAwakeIn w m.state node) is awake))
      ∙ (sym (after-same joining (state_at m.state node)) ∙ ap (after joining (state_at m.state node)) same) in
      record {
        value = value;
        response = response;
        moves = same_tern (state_at new node) (after joining (state_at m.state node) value)
            (λ differs. differs (asleep_moves (λ awake. differs (awake_moves awake))));
      }

  module _ (joining : Bool) (new : List Tern) (moves : MovesIn joining m.parts m.marks m.wide m.state new) where
    -- an input node stays
    pub input_stays : (node : ℕ) → level_of g node ≡ INPUT_LEVEL → state_at new node ≡ state_at m.state node
    input_stays node input = moves.stays node (nothing_to_input node input) (input_asleep node input)

    -- and so does a member of a part that isn't marked
    pub unmarked_stays : (k node : ℕ) → HasMember m.parts k node → (¬ IsMarked m.marks k) → state_at new node ≡ state_at m.state node
    unmarked_stays k node has unmarked = moves.stays node (nothing_to_unmarked k node has unmarked) (unmarked_asleep k node has unmarked)

    -- whose state is its steady state
    pub unmarked_response : (k node : ℕ) → HasMember m.parts k node → (¬ IsMarked m.marks k) → IsResponse g m.state node (state_at m.state node)
    unmarked_response k node has unmarked =
        let part = has.part in
        let some : 0 < part.members = omega (arith, has.member.inside) in
        let (group, is_part) = fits.covers.whole k part has.stands some in
        let there : Contains (take part.members part.map.items) node =
        subst (λ members. Contains members node) (sym is_part.members) (member_in_group g group part is_part has.place node has.member) in
        fits.covers.rests k part has.stands unmarked node there

    -- a node that stays at its steady state moves to it
    MovesTo-stays : (node : ℕ) → IsResponse g m.state node (state_at m.state node) → state_at new node ≡ state_at m.state node →
        MovesTo g joining m.state new node
    MovesTo-stays node response stays = record {
      value = state_at m.state node;
      response = response;
      moves = stays ∙ sym (after-same joining (state_at m.state node));
    }

    -- a member of a stale part that is asleep stays
    pub stale_stays : (k node : ℕ) → HasMember m.parts k node → IsStale m.parts k → (¬ IsAwakeIn m.wide m.state node) →
        state_at new node ≡ state_at m.state node
    stale_stays k node has stale = moves.stays node (nothing_to_stale k node has stale)

    -- a member of a stale part moves so, since such groups are known
    MovesTo-stale : (k node : ℕ) → HasMember m.parts k node → IsStale m.parts k → node < nodes g → MovesTo g joining m.state new node
    MovesTo-stale k node has stale in_range =
        let (wide, is, held) = fits.coded k stale.part stale.stands stale.some stale.none in
        MovesTo-held joining new moves.awake wide is k node has stale in_range (stale_stays k node has stale)

    -- a member of a marked part moves to what the part's code gives
    MovesTo-coded : (k node : ℕ) (has : HasMember m.parts k node) → IsMarked m.marks k → (code : Rc CodeData Global) → has.part.code ≡ Some code →
        MovesTo g joining m.state new node
    MovesTo-coded k node has marked code is =
        let part = has.part in
        let given : IsGiven m.parts m.marks m.state node (state_at (code_value code.value (map (state_at m.state) part.map.items)) has.place) = record {
          k = k;
          marked = marked;
          gives = record {
            part = part;
            stands = has.stands;
            code = code;
            has = is;
            place = has.place;
            member = has.member;
            value_is = refl;
          };
        } in
        record { value = _; response = given_is_response node _ given; moves = moves.given node _ given }

    -- a member of a marked part moves to its steady state
    MovesTo-marked : (k node : ℕ) → HasMember m.parts k node → IsMarked m.marks k → node < nodes g → MovesTo g joining m.state new node
    MovesTo-marked k node has marked in_range =
        elim (known_or_not has.part.code) [
          | inl (code, is) ↦ MovesTo-coded k node has marked code is
          | inr none ↦
              MovesTo-stale k node has (record { part = has.part; stands = has.stands; some = omega (arith, has.member.inside); none = none }) in_range
        ]

    -- each node moves to its steady state
    pub node_moves : (node : ℕ) → node < nodes g → MovesTo g joining m.state new node
    node_moves node in_range =
        elim (storage_or_input g wired node in_range) [
          | inl storage ↦
              let (k, has) = storage_has_part node storage in
              elim (true_or_not (slice_index_or m.marks k false)) [
                | inl marked ↦ MovesTo-marked k node has marked in_range
                | inr unmarked ↦ MovesTo-stays node (unmarked_response k node has unmarked) (unmarked_stays k node has unmarked)
              ]
          | inr input ↦ MovesTo-stays node (input_response g wired m.state node in_range input) (input_stays node input)
        ]
