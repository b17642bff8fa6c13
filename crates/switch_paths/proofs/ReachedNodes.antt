-- Every node has an unblocked path, and even a definite one.
-- Take the table of the strongest definite paths, and go through the nodes from the strongest entry downwards.
-- A strongest definite path to a node is followed from its root: where it stands at a node with a greater
-- entry, that node has its path by then; else the path so far is as strong as any, and one hop more keeps it
-- so. What ends as strong as the table says is beaten nowhere.
use Rattle.std.proofs.Common.{◌≡◌, ℕ, zero, suc, ◌+◌, ◌<◌, ◌≤◌, true, inl, inr, List, [], ◌∷◌, refl, sym, ap, arith}
use Rattle.std.proofs.lemmas.Bool.{cases_lt}
use Rattle.ternary.specs.declared.tern.Tern.{Tern}
use Rattle.strength_order.specs.declared.TheConstants.{INPUT_LEVEL}
use Rattle.switch_paths.specs.Switching.{is_closed, switch_state_at}
use Rattle.switch_paths.specs.Graphs.{GraphData, IsWired, nodes, level_of}
use Rattle.switch_paths.specs.Path.{Stand, Hop, Leads, at_root}
use Rattle.switch_paths.specs.Laws.{EveryNodeIsReached, StrongestIsUnblocked}
use Rattle.switch_paths.proofs.PathLemmas.{beyond, Hop-over, Leads-definite, Leads-weaker, Hop-in_range, Arrives, Arrives-with, Arrives-at_root, Arrives-more, Reaches-from_Arrives}
use Rattle.switch_paths.proofs.StrongestPaths.{surely, IsBest, best_table, best-high, unbeaten-from_best, and-second}

-- an unblocked path leads to the node that is definite and as strong as any definite path there
record IsTop (g : GraphData) (state : List Tern) (best : ℕ → ℕ) (node : ℕ) : Type 0 where
  way : Arrives g state node (best node)
  definite : way.there.definite ≡ true

module _ (g : GraphData) (wired : IsWired g) (state : List Tern) (best : ℕ → ℕ) (is_best : IsBest g state best) where
  -- one hop more along a strongest path
  top_next : (here next : Stand) (place : ℕ) → Hop g state here place next → next.definite ≡ true →
      here.strength ≤ best here.node →
      best next.node ≤ next.strength → IsTop g state best here.node → IsTop g state best next.node
  top_next here next place hop definite most strong top =
      let closed = and-second here.definite (is_closed (switch_state_at state hop.switch)) (rw hop.definite at definite) in
      let way = top.way in
      let after : Stand = beyond state way.there hop.switch next.node in
      let over : Hop g state way.there place after = Hop-over hop.at_place (rw way.ends hop.joins) hop.live in
      let still_definite : after.definite ≡ true = rw top.definite closed in
      let least : best next.node ≤ after.strength = omega (arith, hop.strength, way.strong) in
      let greatest : after.strength ≤ best next.node =
      is_best.spread way.there after place over still_definite (omega (arith, way.strong, ap best way.ends)) in
      let longer = Arrives-more g state way place after over
      (unbeaten-from_best g state best is_best next.node after.strength least) in
      record { way = Arrives-with g state longer (omega arith); definite = still_definite }

  -- a strongest definite path, followed from where it stands
  top_along : (bound : ℕ) → ((m : ℕ) → m < nodes g → bound < best m → IsTop g state best m) →
      (hops : List ℕ) (here there : Stand) → here.node < nodes g → Leads g state here hops there →
      there.definite ≡ true → bound ≤ there.strength →
      here.strength ≤ best here.node → IsTop g state best here.node → IsTop g state best there.node
  top_along bound above [] here there in_range leads definite strong most top = rw (← leads) top
  top_along bound above (place ∷ hops) here there in_range leads definite strong most top =
      let next_definite : leads.0.definite ≡ true = Leads-definite g state hops leads.0 there leads.2 definite in
      let next_in_range = Hop-in_range wired leads.1 in
      let next_most : leads.0.strength ≤ best leads.0.node = is_best.spread here leads.0 place leads.1 next_definite most in
      let weaker : there.strength ≤ leads.0.strength = Leads-weaker g state hops leads.0 there leads.2 in
      let next_top : IsTop g state best leads.0.node =
      elim (cases_lt bound (best leads.0.node)) [
        | inl more ↦ above leads.0.node next_in_range more
        | inr under ↦ top_next here leads.0 place leads.1 next_definite most (omega arith) top
      ] in
      top_along bound above hops leads.0 there next_in_range leads.2 definite strong next_most next_top

  -- the empty path, where no definite path is stronger than the node's level
  top_at_root : (root : ℕ) → root < nodes g → best root ≡ level_of g root → IsTop g state best root
  top_at_root root in_range same =
      let unbeaten = unbeaten-from_best g state best is_best root (level_of g root) (omega arith) in
      record { way = Arrives-with g state (Arrives-at_root g state root in_range unbeaten) (sym same); definite = refl }

  -- a node has its path where each node with a greater entry has one
  top_below : (node : ℕ) → node < nodes g → ((m : ℕ) → m < nodes g → best node < best m → IsTop g state best m) →
      IsTop g state best node
  top_below node in_range above =
      let found = is_best.found node in_range in
      let path = found.path in
      let start : Stand = at_root g found.root in
      let there : Stand = surely node (best node) in
      let low : start.strength ≤ best found.root =
      is_best.most found.root [] start (record { in_range = path.in_range; leads = refl }) refl in
      let weaker : best node ≤ start.strength = Leads-weaker g state found.hops start there path.leads in
      let top : IsTop g state best found.root =
      elim (cases_lt start.strength (best found.root)) [
        | inl more ↦ above found.root path.in_range (omega arith)
        | inr under ↦ top_at_root found.root path.in_range (omega arith)
      ] in
      top_along (best node) above found.hops start there path.in_range path.leads refl (omega arith) low top

  -- from the strongest entry downwards
  top_from : (depth : ℕ) (node : ℕ) → node < nodes g → INPUT_LEVEL < best node + depth → IsTop g state best node
  top_from zero node in_range deep = absurd (omega (arith, best-high g wired state best is_best node in_range))
  top_from (suc depth) node in_range deep =
      top_below node in_range (λ m inside more. top_from depth m inside (omega arith))

  -- every node has an unblocked definite path that is as strong as any
  top : (node : ℕ) → node < nodes g → IsTop g state best node
  top node in_range = top_from (INPUT_LEVEL + 1) node in_range (omega arith)

-- every node has an unblocked path, and even a definite one
pub reached : EveryNodeIsReached
reached g wired state node in_range =
    let table = best_table g wired state in
    let highest = top g wired state table.0 table.1 node in_range in
    (highest.way.root, Reaches-from_Arrives g state highest.way, highest.definite)

-- a path whose prefixes are all strongest for their ends is unblocked
pub unblocked : StrongestIsUnblocked
unblocked g state root hops strongest blocked =
    let beaten = blocked.beaten in
    let most = strongest blocked.front blocked.back blocked.there blocked.splits blocked.prefix in
    absurd (omega (arith, beaten.strong, most beaten.root beaten.hops beaten.there beaten.path beaten.ends beaten.definite))
