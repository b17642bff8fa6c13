-- A group that two graphs share, with the same switches and the same levels of its members, has one local graph. So it has one text and
-- the same responses, and rests in the same states. An end of its switches that is no member is an input node in both graphs, so it reads
-- the same nodes.
use Rattle.std.proofs.Common.{◌≡◌, ℕ, suc, ◌-◌, ◌<◌, inl, inr, ◌⊎◌, List, [], ◌∷◌, ◌++◌, length, map, Option, Some, refl, sym, ap, ap₂, subst, ◌∙◌, arith}
use Rattle.std.specs.Prelude.{Contains, slice_index, replicate, option_map}
use Rattle.std.specs.List.{flat_map}
use Rattle.std.proofs.lemmas.List.{get_or_default}
use Rattle.ternary.specs.declared.tern.Tern.{Tern}
use Rattle.strength_order.specs.declared.TheConstants.{INPUT_LEVEL}
use Rattle.switch_paths.specs.declared.switching.Switch.{Switch}
use Rattle.switch_paths.specs.Switching.{state_at}
use Rattle.switch_paths.specs.Graphs.{GraphData, IsWired, level_of, place_at}
use Rattle.switch_paths.specs.Step.{IsResponse}
use Rattle.group_meaning.specs.Groups.{Group}
use Rattle.group_meaning.proofs.GroupLemmas.{member_or_input, member_storage}
use Rattle.group_text.specs.Texts.{GroupTextData, constant_of, firsts, terminals_of, local_nodes, local_switch, local_graph, local_state, text_of_group}
use Rattle.group_text.proofs.Locality.{responses}
use Rattle.group_rest.specs.Rest.{Reads, Rests}
use Rattle.group_rest.specs.Alike.{IsAlike, AlikeGroupsHaveOneText, AlikeGroupsReadAlike, AlikeGroupsRestAlike}

-- lists made of the same items alike are the same
pub map_same : {X : Type 0} (f h : ℕ → X) (xs : List ℕ) → ((x : ℕ) → Contains xs x → h x ≡ f x) → map h xs ≡ map f xs
map_same f h [] same = refl
map_same f h (x ∷ xs) same =
    ap₂ (λ first rest. first ∷ rest) (same x (0, omega arith, refl))
    (map_same f h xs (λ y (k, inside, is). same y (suc k, omega (arith, inside), is)))

flat_map_same : (f h : ℕ → List ℕ) (xs : List ℕ) → ((x : ℕ) → Contains xs x → h x ≡ f x) → flat_map h xs ≡ flat_map f xs
flat_map_same f h [] same = refl
flat_map_same f h (x ∷ xs) same =
    ap₂ (λ first rest. first ++ rest) (same x (0, omega arith, refl))
    (flat_map_same f h xs (λ y (k, inside, is). same y (suc k, omega (arith, inside), is)))

module _ (g h : GraphData) (group : Group) (alike : IsAlike g h group) where
  -- the local nodes stand for the same nodes
  pub nodes_alike : local_nodes h group ≡ local_nodes g group
  nodes_alike =
      ap (λ terminals. firsts (group.members ++ terminals))
      (flat_map_same (λ place. terminals_of (place_at g.places place)) (λ place. terminals_of (place_at h.places place)) group.switches
      (λ place inside. ap terminals_of (alike.places place inside)))

  -- the local graphs are one
  graph_alike : local_graph h group ≡ local_graph g group
  graph_alike =
      let locals = local_nodes g group in
      let levels = map_same (level_of g) (level_of h) group.members alike.levels in
      let places = map_same (λ place. option_map (local_switch locals) (place_at g.places place))
      (λ place. option_map (local_switch locals) (place_at h.places place)) group.switches
      (λ place inside. ap (option_map (local_switch locals)) (alike.places place inside)) in
      ap (λ nodes. graph_over nodes (map (level_of h) group.members) h) nodes_alike
      ∙ ap₂ (λ front back. put_together locals front back) levels places
    where
      put_together : List ℕ → List ℕ → List (Option Switch) → GraphData
      put_together nodes front back = record { levels = front ++ replicate (length nodes - length group.members) INPUT_LEVEL; places = back }

      graph_over : List ℕ → List ℕ → GraphData → GraphData
      graph_over nodes front graph =
          put_together nodes front (map (λ place. option_map (local_switch nodes) (place_at graph.places place)) group.switches)

  -- and so are the texts
  pub text_alike : text_of_group h group ≡ text_of_group g group
  text_alike = ap₂ (λ graph nodes. text_over graph nodes) graph_alike nodes_alike
    where
      text_over : GraphData → List ℕ → GroupTextData
      text_over graph nodes = record { graph = graph; members = length group.members; constants = map constant_of nodes }

  module _ (state : List Tern) (wired : IsWired g) (wired_too : IsWired h) where
    -- a member's response in the one graph is its response in the other
    pub response_alike : (local : ℕ) (answer : Tern) → local < length group.members → IsResponse h state (slice_index group.members local) answer →
        IsResponse g state (slice_index group.members local) answer
    response_alike local answer first whole =
        let within = (responses h group state local answer wired_too alike.there first).1 whole in
        let same_graph = subst (λ graph. IsResponse graph (local_state (local_nodes h group) state) local answer) graph_alike within in
        let same = subst (λ nodes. IsResponse (local_graph g group) (local_state nodes state) local answer) nodes_alike same_graph in
        (responses g group state local answer wired alike.here first).0 same

    -- so what rests there rests here
    pub rests_alike : Rests h state group.members → Rests g state group.members
    rests_alike rests node (local, first, is) =
        let here : slice_index group.members local ≡ node = get_or_default group.members local 0 node first ∙ is in
        subst (λ m. IsResponse g state m (state_at state node)) here
        (response_alike local (state_at state node) first
        (subst (λ m. IsResponse h state m (state_at state node)) (sym here) (rests node (local, first, is))))

  -- an end of a switch of the group that is an input node in the one graph is one in the other
  pub end_alike : IsWired g → IsWired h → (place m n : ℕ) (switch : Switch) → Contains group.switches place → place_at g.places place ≡ Some switch →
      ((switch.a ≡ m) × (switch.b ≡ n)) ⊎ ((switch.b ≡ m) × (switch.a ≡ n)) → level_of h m ≡ INPUT_LEVEL → level_of g m ≡ INPUT_LEVEL
  end_alike wired wired_too place m n switch inside stands joins input =
      elim (member_or_input g group alike.here wired place m n switch stands joins inside) [
        | inl member ↦ absurd (omega (arith, (member_storage h group alike.there m member).below, input))
        | inr same ↦ same
      ]

  -- so what the group reads there it reads here
  pub reads_alike : IsWired g → IsWired h → (node : ℕ) → Reads h group node → Reads g group node
  reads_alike wired wired_too node reads =
      let switch = reads.switch in
      let stands : place_at g.places reads.place ≡ Some switch = sym (alike.places reads.place reads.inside) ∙ reads.at_place in
      record {
        place = reads.place;
        inside = reads.inside;
        switch = switch;
        at_place = stands;
        reads = elim reads.reads [
          | inl gate ↦ inl gate
          | inr (end, input) ↦
              inr (
                end,
                elim end [
                  | inl first ↦ end_alike wired wired_too reads.place node switch.b switch reads.inside stands (inl (first, refl)) input
                  | inr second ↦ end_alike wired wired_too reads.place node switch.a switch reads.inside stands (inr (second, refl)) input
                ],
              )
        ];
      }

-- a group that is alike in two graphs is so in the other order
pub IsAlike-sym : (g h : GraphData) (group : Group) → IsAlike g h group → IsAlike h g group
IsAlike-sym g h group alike = record {
  here = alike.there;
  there = alike.here;
  places = λ place inside. sym (alike.places place inside);
  levels = λ node member. sym (alike.levels node member);
}

pub alike_groups_have_one_text : AlikeGroupsHaveOneText
alike_groups_have_one_text g h group alike = (nodes_alike g h group alike, text_alike g h group alike)

pub alike_groups_read_alike : AlikeGroupsReadAlike
alike_groups_read_alike g h group wired wired_too alike node = (
  reads_alike g h group alike wired wired_too node,
  reads_alike h g group (IsAlike-sym g h group alike) wired_too wired node,
)

pub alike_groups_rest_alike : AlikeGroupsRestAlike
alike_groups_rest_alike g h group state wired wired_too alike = (
  rests_alike g h group alike state wired wired_too,
  rests_alike h g group (IsAlike-sym g h group alike) state wired_too wired,
)
