-- Code that means the text of a group gives its members their steady states in the whole graph: in a sound state the rails have
-- their constants, and responses are local.
use Rattle.std.proofs.Common.{◌≡◌, ℕ, zero, suc, ◌<◌, inl, inr, List, length, map, Some, None, refl, sym, ◌∙◌, arith}
use Rattle.std.specs.Prelude.{slice_index}
use Rattle.std.proofs.lemmas.Bool.{cases_lt, ne_eqb}
use Rattle.std.proofs.lemmas.List.{get_or-map, get_or_past, length-map}
use Rattle.ternary.specs.declared.tern.Tern.{Tern}
use Rattle.ternary.specs.declared.tern.Tern.TheVariants.{Zero, One}
use Rattle.switch_paths.specs.Switching.{state_at}
use Rattle.switch_paths.specs.Graphs.{GraphData, IsWired, nodes}
use Rattle.switch_paths.specs.Rails.{IsSound}
use Rattle.switch_paths.specs.Step.{IsResponse}
use Rattle.group_meaning.specs.Groups.{Group, IsGroup}
use Rattle.group_text.specs.Texts.{constant_of, local_graph, local_nodes, local_state, text_of_group}
use Rattle.group_text.proofs.LocalEdges.{state_local, nodes_local}
use Rattle.group_text.proofs.Locality.{responses}
use Rattle.straight_code.specs.Code.{CodeData, code_value}
use Rattle.group_analysis.specs.Meaning.{HasConstants, MeansText}

-- in a sound state a rail has its constant
pub rail_constant : (state : List Tern) → IsSound state → (node : ℕ) (constant : Tern) →
    constant_of node ≡ Some constant → state_at state node ≡ constant
rail_constant state sound zero constant is = let same : Zero ≡ constant = cc in sound.gnd ∙ same
rail_constant state sound (suc zero) constant is = let same : One ≡ constant = cc in sound.vdd ∙ same
rail_constant state sound (suc (suc node)) constant is =
    let none : constant_of (suc (suc node)) ≡ None =
    rw (ne_eqb (suc (suc node)) 0 (omega arith), ne_eqb (suc (suc node)) 1 (omega arith)) refl in
    absurd cc

-- so the local state of a group has the constants of its text
pub has_constants : (state : List Tern) → IsSound state → (locals : List ℕ) →
    HasConstants (map constant_of locals) (local_state locals state)
has_constants state sound locals = λ local constant is.
    elim (cases_lt local (length locals)) [
      | inl inside ↦
          let here = sym (get_or-map constant_of locals local 0 None inside) ∙ is in
          state_local locals state local inside ∙ rail_constant state sound (slice_index locals local) constant here
      | inr past ↦
          let none = get_or_past (map constant_of locals) local None (omega (arith, length-map locals constant_of)) in
          absurd cc
    ]

-- in a sound state code that means the text of a group gives each member its steady state in the whole graph
pub given_response : (g : GraphData) → IsWired g → (group : Group) → IsGroup g group → (code : CodeData) →
    MeansText (text_of_group g group) code → (state : List Tern) → IsSound state → (j : ℕ) → j < length group.members →
    IsResponse g state (slice_index group.members j) (state_at (code_value code (local_state (local_nodes g group) state)) j)
given_response g wired group is_group code means state sound j inside =
    let locals = local_nodes g group in
    let input = local_state locals state in
    let as_many : length input ≡ nodes (local_graph g group) = length-map locals (state_at state) ∙ sym (nodes_local g group is_group) in
    let local = means.responses input as_many (has_constants state sound locals) j inside in
    (responses g group state j (state_at (code_value code input) j) wired is_group inside).0 local
