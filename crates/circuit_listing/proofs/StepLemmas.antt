-- The listing moves each node to its steady state: a storage node by the code of its group's part, an input node to where it is.
use Rattle.std.proofs.Common.{◌≡◌, ℕ, ◌<◌, Bool, false, inl, inr, List, [], length, map, get_or, sym, ap, subst, ◌∙◌, arith, nat_lt}
use Rattle.std.specs.Prelude.{slice_index, slice_index_or}
use Rattle.std.specs.List.{AllZip}
use Rattle.std.proofs.lemmas.List.{get_or-map, get_or_default, length-map}
use Rattle.ternary.specs.declared.tern.Tern.{Tern}
use Rattle.ternary.specs.declared.tern.Tern.TheVariants.{Zero, Unk}
use Rattle.strength_order.specs.declared.TheConstants.{INPUT_LEVEL}
use Rattle.switch_paths.specs.Switching.{state_at}
use Rattle.switch_paths.specs.Graphs.{GraphData, IsWired, nodes, level_of}
use Rattle.switch_paths.specs.Step.{IsResponse, IsStep}
use Rattle.switch_paths.proofs.InputNodes.{input_response}
use Rattle.group_meaning.specs.Groups.{Group, AreGroups}
use Rattle.group_meaning.proofs.GroupLemmas.{storage_or_input}
use Rattle.group_text.specs.Texts.{local_nodes, local_state}
use Rattle.straight_code.specs.declared.part.Part.{Part}
use Rattle.straight_code.specs.Code.{code_value, output_state, results}
use Rattle.linear_code.specs.Listing.{ListingData, Entry, is_storage_at, next_of, IsListingStep}
use Rattle.straight_code.specs.Parts.{IsMemberAt}
use Rattle.linear_code.specs.Built.{IsBuilt}
use Rattle.group_analysis.proofs.ResponseLemmas.{given_response}
use Rattle.switch_paths.specs.Rails.{IsSound}
use Rattle.circuit_texts.specs.Parts.{IsPartOf}
use Rattle.circuit_texts.proofs.MemberLemmas.{member_of, AreMembers-from_groups}

-- the listing of a circuit's graph has its nodes
pub nodes_listed : (g : GraphData) (names : List (List ℕ)) (parts : List Part) (listing : ListingData) → IsBuilt g names parts listing →
    length listing.entries ≡ nodes g
nodes_listed g names parts listing built =
    let kind : Entry → Bool = λ entry. entry.is_storage in
    let below : ℕ → Bool = λ level. nat_lt level INPUT_LEVEL in
    sym (length-map listing.entries kind) ∙ (ap length built.kinds ∙ length-map g.levels below)

-- and has an input node as one
input_listed : (g : GraphData) (names : List (List ℕ)) (parts : List Part) (listing : ListingData) → IsBuilt g names parts listing → (node : ℕ) →
    node < nodes g → level_of g node ≡ INPUT_LEVEL → is_storage_at listing.entries node ≡ false
input_listed g names parts listing built node in_range input =
    let kind : Entry → Bool = λ entry. entry.is_storage in
    let below : ℕ → Bool = λ level. nat_lt level INPUT_LEVEL in
    let inside : node < length listing.entries = omega (arith, nodes_listed g names parts listing built) in
    sym (get_or-map kind listing.entries node (record { is_storage = false; name = [] }) false inside)
    ∙ (ap (λ kinds. get_or kinds node false) built.kinds ∙ (get_or-map below g.levels node 0 false in_range ∙ ap below input))

module _
    (g : GraphData) (wired : IsWired g) (groups : List Group) (are : AreGroups g groups) (parts : List Part) (made : AllZip (IsPartOf g) groups parts)
    (names : List (List ℕ)) (listing : ListingData) (built : IsBuilt g names parts listing)
    (state : List Tern) (counted : length state ≡ nodes g) (sound : IsSound state) where
  -- the code of a part gives each member its steady state
  member_response : (node k j : ℕ) → IsMemberAt parts node k j → IsResponse g state node (next_of listing state node)
  member_response node k j member =
      let of = member_of g groups are parts made node k j member in
      let input = local_state (local_nodes g of.group) state in
      let code = member.part.code.value in
      let answer = state_at (code_value code input) j in
      let whole = given_response g wired of.group of.is_group code of.made.means state sound j of.inside in
      let inside : j < length (code_value code input) =
      omega (arith, length-map code.outputs (output_state input (results input code.instructions)), of.made.means.outputs, of.inside) in
      let moved : next_of listing state node ≡ answer =
      built.moves state counted node k j member
      ∙ (ap (λ nodes. slice_index_or (code_value code (map (state_at state) nodes)) j Unk) of.made.map
      ∙ get_or_default (code_value code input) j Unk Zero inside) in
      subst (λ there. IsResponse g state there (next_of listing state node)) of.here (subst (IsResponse g state (slice_index of.group.members j)) (sym moved) whole)

  -- each node moves to its steady state
  node_response : (node : ℕ) → node < nodes g → IsResponse g state node (next_of listing state node)
  node_response node in_range =
      elim (storage_or_input g wired node in_range) [
        | inl storage ↦
            let member = (AreMembers-from_groups g groups are parts made).each node in_range storage.below in
            member_response node member.k member.j member.here
        | inr input ↦
            rw (input_listed g names parts listing built node in_range input) (input_response g wired state node in_range input)
      ]

  -- so the step of the listing is the unit step of the graph
  pub IsStep-from_listing : (next : List Tern) → IsListingStep listing state next → IsStep g state next
  IsStep-from_listing next step =
      let listed = nodes_listed g names parts listing built in
      record {
        count = step.count ∙ listed;
        each = λ node in_range. rw (step.each node (omega (arith, listed))) (node_response node in_range);
      }
