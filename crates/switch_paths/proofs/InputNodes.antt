-- An input node keeps its state, for the only unblocked path to it is its own empty one.
-- A path that hops onto it has at most the strength of a switch there, and its own empty path is definite and stronger.
use Rattle.std.proofs.Common.{◌≡◌, ℕ, ◌<◌, Bool, true, List, [], ◌∷◌, refl, arith}
use Rattle.ternary.specs.declared.tern.Tern.{Tern}
use Rattle.ternary.specs.Tern.{may_one, may_zero}
use Rattle.strength_order.specs.declared.TheConstants.{INPUT_LEVEL}
use Rattle.switch_paths.specs.Switching.{state_at}
use Rattle.switch_paths.specs.Graphs.{GraphData, IsWired, nodes, level_of}
use Rattle.switch_paths.specs.Path.{Stand, at_root, IsBeaten, Reaches}
use Rattle.switch_paths.specs.Step.{Responds}
use Rattle.switch_paths.specs.Laws.{InputNodesKeepTheirStates}
use Rattle.switch_paths.proofs.PathLemmas.{switch_fits, level_fits, Leads-weaker, IsBeaten-by_level, Goes, Goes-there, Goes-leads, Goes-from_Reaches, Reaches-from_Goes}

module _ (g : GraphData) (wired : IsWired g) (state : List Tern) (node : ℕ) (in_range : node < nodes g)
    (input : level_of g node ≡ INPUT_LEVEL) where
  -- nothing is stronger than an input node
  pub unbeaten : ¬ IsBeaten g state node (level_of g node)
  unbeaten beaten =
      let weaker = Leads-weaker g state beaten.hops (at_root g beaten.root) beaten.there beaten.path.leads in
      let level = level_fits g wired beaten.root beaten.path.in_range in
      absurd (omega (arith, weaker, level.high, beaten.strong))

  -- so its empty path reaches it
  reaches_itself : Reaches g state node node
  reaches_itself = Reaches-from_Goes g state node node [] (at_root g node) in_range (unbeaten, refl) refl

  -- a path that has hopped is weaker than an input node
  hopped : (root place : ℕ) (hops : List ℕ) (there : Stand) → Goes g state (at_root g root) (place ∷ hops) there →
      there.strength < INPUT_LEVEL
  hopped root place hops there goes =
      let hop = goes.1.1 in
      let fits = switch_fits g wired place hop.switch hop.at_place in
      let weaker = Leads-weaker g state hops goes.1.0 there (Goes-leads g state hops goes.1.0 there goes.1.2) in
      omega (arith, fits.high, hop.strength, weaker)

  -- no other root reaches it
  reached_alone : (root : ℕ) (hops : List ℕ) (there : Stand) → Goes g state (at_root g root) hops there →
      there.node ≡ node → root ≡ node
  reached_alone root [] there goes ends = cc (goes.1)
  reached_alone root (place ∷ hops) there goes ends =
      let weak = hopped root place hops there goes in
      let beaten : IsBeaten g state there.node there.strength =
      rw ends (IsBeaten-by_level g state node there.strength in_range (omega (arith, weak, input))) in
      absurd (Goes-there g state (place ∷ hops) (at_root g root) there goes beaten)

  -- its rails are those of its own state
  keeps_rail : (rail : Tern → Bool) → (rail (state_at state node) ≡ true) → Responds rail g state node
  keeps_rail rail set = (node, reaches_itself, set)

  gains_no_rail : (rail : Tern → Bool) → Responds rail g state node → rail (state_at state node) ≡ true
  gains_no_rail rail way =
      let same : way.0 ≡ node = reached_alone way.0 way.1.hops way.1.there
      (Goes-from_Reaches g state way.0 node way.1) way.1.ends in
      rw same at way.2

-- the steady state of an input node is its own state
pub input_response : InputNodesKeepTheirStates
input_response g wired state node in_range input = record {
  one = (keeps_rail g wired state node in_range input may_one, gains_no_rail g wired state node in_range input may_one);
  zero = (keeps_rail g wired state node in_range input may_zero, gains_no_rail g wired state node in_range input may_zero);
}
