-- Every state of a graph has a step.
-- For each rail there is the closed table of going on over live switches to where no stronger definite path
-- leads, from the roots that set the rail: an entry is positive exactly if an unblocked path from such a
-- root leads to its node. So it is decided which rails each node responds with; one of them is set, since every
-- node is reached by some root and that root has a state.
use Rattle.std.proofs.Common.{◌≡◌, ℕ, zero, suc, ◌<◌, ◌≤◌, min, Bool, true, false, ◌⊎◌, inl, inr, List, [], ◌∷◌, ◌++◌, length, Some, refl, sym, ap, subst, ◌∙◌, arith}
use Rattle.std.proofs.lemmas.Bool.{cases_lt, cases_eq}
use Rattle.std.proofs.lemmas.List.{get_or_push}
use Rattle.std.proofs.Math.ListN.{get_or-append, length-append}
use Rattle.ternary.specs.declared.tern.Tern.{Tern}
use Rattle.ternary.specs.declared.tern.Tern.TheVariants.{Zero, One, Unk}
use Rattle.ternary.specs.Tern.{may_one, may_zero}
use Rattle.switch_paths.specs.declared.switching.Switch.{Switch}
use Rattle.switch_paths.specs.Switching.{is_live, state_at, switch_state_at}
use Rattle.switch_paths.specs.Graphs.{GraphData, IsWired, nodes, level_of, place_at}
use Rattle.switch_paths.specs.Path.{Stand, Joins, Hop, at_root}
use Rattle.switch_paths.specs.Step.{Responds, IsResponse}
use Rattle.switch_paths.specs.Laws.{StepExists}
use Rattle.switch_paths.proofs.PathLemmas.{beyond, Hop-over, Hop-in_range, Leads-positive, Goes, Goes-here, Goes-from_Reaches, Arrives, Arrives-with, Arrives-at_root, Arrives-more, Reaches-from_Arrives, level_fits}
use Rattle.switch_paths.proofs.TableClosure.{pick, IsClosed, closed_table}
use Rattle.switch_paths.proofs.StrongestPaths.{IsBest, best_table, in_range-from_level, unbeaten-from_best, best-from_unbeaten}
use Rattle.switch_paths.proofs.ReachedNodes.{reached}

-- it is decided whether something holds
abbrev Decided : Type 0 → Type 0
Decided P = P ⊎ (¬ P)

-- a root's first strength, if it sets the rail
abbrev rooted : Bool → ℕ → ℕ
rooted true strength = strength
rooted false strength = 0

module _ (rail : Tern → Bool) (g : GraphData) (wired : IsWired g) (state : List Tern) (best : ℕ → ℕ)
    (is_best : IsBest g state best) where
  -- an unblocked path of this strength leads to the node from a root that sets the rail
  record IsDriven (node strength : ℕ) : Type 0 where
    way : Arrives g state node strength
    set : rail (state_at state way.root) ≡ true

  -- a node starts with its level if it sets the rail and no definite path is stronger
  abbrev start : ℕ → ℕ
  start node = rooted (rail (state_at state node)) (pick (cases_lt (level_of g node) (best node)) 0 (level_of g node))

  -- the closed table of what is driven
  abbrev Table : Type 0
  Table = IsClosed g state is_live best start IsDriven

  -- a positive start is driven by the empty path
  starts_from : (node : ℕ) (set : Bool) → rail (state_at state node) ≡ set →
      (over : (level_of g node < best node) ⊎ (best node ≤ level_of g node)) →
      0 < rooted set (pick over 0 (level_of g node)) → IsDriven node (rooted set (pick over 0 (level_of g node)))
  starts_from node true set (inl over) positive = absurd (omega arith)
  starts_from node true set (inr under) positive =
      let unbeaten = unbeaten-from_best g state best is_best node (level_of g node) under in
      record { way = Arrives-at_root g state node (in_range-from_level g wired state node positive) unbeaten; set = set }
  starts_from node false set over positive = absurd (omega arith)

  -- what starts comes from somewhere
  starts : (node : ℕ) → 0 < start node → IsDriven node (start node)
  starts node positive =
      starts_from node (rail (state_at state node)) refl (cases_lt (level_of g node) (best node)) positive

  -- where no stronger definite path leads, an unblocked path goes on over a live switch
  onward : (m n strength place : ℕ) (switch : Switch) →
      IsDriven m strength → place_at g.places place ≡ Some switch → Joins switch m n →
      is_live (switch_state_at state switch) ≡ true → best n ≤ min strength switch.level →
      IsDriven n (min strength switch.level)
  onward m n strength place switch driven stands joins live above =
      let way = driven.way in
      let next : Stand = beyond state way.there switch n in
      let over : Hop g state way.there place next = Hop-over stands (rw way.ends joins) live in
      let strong : next.strength ≡ min strength switch.level = rw way.strong refl in
      let unbeaten = unbeaten-from_best g state best is_best n next.strength (omega arith) in
      let longer = Arrives-more g state way place next over unbeaten in
      record { way = Arrives-with g state longer strong; set = driven.set }

  -- along an unblocked path no stand is stronger than its node's entry
  driven_along : (table : Table) (hops : List ℕ) (here there : Stand) → Goes g state here hops there →
      here.strength ≤ table.table here.node → there.strength ≤ table.table there.node
  driven_along table [] here there goes most = rw (← goes.1) most
  driven_along table (place ∷ hops) here there goes most =
      let next = goes.1.0 in
      let hop = goes.1.1 in
      let unbeaten = Goes-here g state hops next there goes.1.2 in
      let above = best-from_unbeaten g state best is_best next.node next.strength (Hop-in_range wired hop) unbeaten in
      let spread = table.spread place hop.switch here.node next.node hop.at_place hop.joins hop.live
      (omega (arith, hop.strength, above)) in
      driven_along table hops next there goes.1.2 (omega (arith, hop.strength, spread))

  -- a root that sets the rail, and that no definite path beats, starts with its level
  rooted_start : (node : ℕ) (set : Bool) → set ≡ true → (over : (level_of g node < best node) ⊎ (best node ≤ level_of g node)) →
      best node ≤ level_of g node → level_of g node ≤ rooted set (pick over 0 (level_of g node))
  rooted_start node true set (inl over) most = absurd (omega arith)
  rooted_start node true set (inr under) most = omega arith
  rooted_start node false set over most = absurd cc

  -- where a root that sets the rail reaches, the entry is positive
  positive-from_responds : (table : Table) (node : ℕ) → Responds rail g state node → 0 < table.table node
  positive-from_responds table node way =
      let root = way.0 in
      let reach = way.1 in
      let inside = reach.path.in_range in
      let from : Stand = at_root g root in
      let goes = Goes-from_Reaches g state root node reach in
      let unbeaten = Goes-here g state reach.hops from reach.there goes in
      let most = best-from_unbeaten g state best is_best root from.strength inside unbeaten in
      let low = rooted_start root (rail (state_at state root)) way.2 (cases_lt from.strength (best root)) most in
      let entry = driven_along table reach.hops from reach.there goes (omega (arith, low, table.low root)) in
      let fits = level_fits g wired root inside in
      let positive = Leads-positive g state wired reach.hops from reach.there reach.path.leads fits.low in
      omega (arith, entry, positive, ap table.table reach.ends)

  -- it is decided whether a node responds with the rail
  decided_by : (table : Table) (node : ℕ) → Decided (Responds rail g state node)
  decided_by table node =
      elim (cases_lt 0 (table.table node)) [
        | inl positive ↦
            let driven = table.come node positive in
            inl (driven.way.root, Reaches-from_Arrives g state driven.way, driven.set)
        | inr none ↦ inr (λ way. absurd (omega (arith, positive-from_responds table node way)))
      ]

  -- for there is a closed table
  decided : (node : ℕ) → Decided (Responds rail g state node)
  decided = decided_by (closed_table g state is_live best start IsDriven wired starts onward)

-- every state has a rail
some_rail : (t : Tern) → (may_one t ≡ true) ⊎ (may_zero t ≡ true)
some_rail Zero = inr refl
some_rail One = inl refl
some_rail Unk = inl refl

-- the steady state of a node by the rails that it responds with
response_of : (g : GraphData) → IsWired g → (state : List Tern) (node : ℕ) → node < nodes g →
    Decided (Responds may_one g state node) → Decided (Responds may_zero g state node) →
    (answer : Tern) × IsResponse g state node answer
response_of g wired state node in_range (inl one) (inl zero_too) =
    (Unk, record { one = ((λ set. one), (λ way. refl)); zero = ((λ set. zero_too), (λ way. refl)) })
response_of g wired state node in_range (inl one) (inr no_zero) =
    (One, record { one = ((λ set. one), (λ way. refl)); zero = ((λ set. absurd cc), (λ way. absurd (no_zero way))) })
response_of g wired state node in_range (inr no_one) (inl zero_too) =
    (Zero, record { one = ((λ set. absurd cc), (λ way. absurd (no_one way))); zero = ((λ set. zero_too), (λ way. refl)) })
response_of g wired state node in_range (inr no_one) (inr no_zero) =
    let way = reached g wired state node in_range in
    absurd (elim (some_rail (state_at state way.0)) [
      | inl one ↦ no_one (way.0, way.1, one)
      | inr zero_too ↦ no_zero (way.0, way.1, zero_too)
    ])

-- if each of the first nodes has a state with a property, there is a list of such states
collected : (P : ℕ → Tern → Type 0) (count : ℕ) → ((node : ℕ) → node < count → (answer : Tern) × P node answer) →
    (states : List Tern) × (length states ≡ count) × ((node : ℕ) → node < count → P node (state_at states node))
collected P zero each = ([], refl, λ node inside. absurd (omega arith))
collected P (suc count) each =
    let before = collected P count (λ node inside. each node (omega arith)) in
    let last = each count (omega arith) in
    let states : List Tern = before.0 ++ last.0 ∷ [] in
    let longer : length states ≡ suc count = omega (arith, length-append before.0 (last.0 ∷ []), before.1) in (
      states,
      longer,
      λ node inside.
          elim (cases_eq node count) [
            | inl same ↦
                let here : state_at states node ≡ last.0 = get_or_push before.0 last.0 Zero node (before.1 ∙ sym same) in
                rw here (subst (λ n. P n last.0) (sym same) last.1)
            | inr other ↦
                let within : node < length before.0 = omega (arith, before.1) in
                let here : state_at states node ≡ state_at before.0 node =
                get_or-append before.0 (last.0 ∷ []) Zero node within in
                rw here (before.2 node (omega arith))
          ],
    )

-- every state of a graph has a step
pub exists : StepExists
exists g wired state =
    let table = best_table g wired state in
    let one = decided may_one g wired state table.0 table.1 in
    let zero_too = decided may_zero g wired state table.0 table.1 in
    let responses = λ (node : ℕ) (in_range : node < nodes g). response_of g wired state node in_range (one node)
    (zero_too node) in
    let step = collected (IsResponse g state) (nodes g) responses in
    (step.0, record { count = step.1; each = step.2 })
