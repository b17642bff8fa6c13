-- For every graph and state there is the table of the greatest strengths with which definite paths lead to its
-- nodes.
-- It is the closed table of going over closed switches, each node starting with its level: an entry comes from
-- a definite path, and along a definite path no stand is stronger than its node's entry.
use Rattle.std.proofs.Common.{◌≡◌, ℕ, ◌<◌, ◌≤◌, min, true, Bool, ◌&&◌, false, inl, inr, List, [], ◌∷◌, ◌++◌, Some, refl, sym, ap, arith}
use Rattle.std.proofs.lemmas.Bool.{cases_lt}
use Rattle.std.proofs.Math.ListN.{get_or-eq_default}
use Rattle.ternary.specs.declared.tern.Tern.{Tern}
use Rattle.strength_order.specs.declared.TheConstants.{INPUT_LEVEL}
use Rattle.switch_paths.specs.declared.switching.Switch.{Switch}
use Rattle.switch_paths.specs.Switching.{is_closed, is_live, switch_state_at}
use Rattle.switch_paths.specs.declared.switching.SwitchState.{SwitchState}
use Rattle.switch_paths.specs.declared.switching.SwitchState.TheVariants.{Open, Closed, Unknown}
use Rattle.switch_paths.specs.Graphs.{GraphData, IsWired, nodes, level_of, place_at}
use Rattle.switch_paths.specs.Path.{Stand, Joins, Hop, Leads, at_root, LivePath, IsBeaten}
use Rattle.switch_paths.proofs.PathLemmas.{IsBeaten-path, Leads-more, Leads-definite, Leads-weaker, level_fits}
use Rattle.switch_paths.proofs.TableClosure.{IsClosed, closed_table}

-- a definite path stands at this node with this strength
abbrev pub surely : ℕ → ℕ → Stand
surely node strength = record { node = node; strength = strength; definite = true }

-- a definite path of this strength leads to the node
pub record Definite (g : GraphData) (state : List Tern) (node strength : ℕ) : Type 0 where
  pub root : ℕ
  pub hops : List ℕ
  pub path : LivePath g state root hops (surely node strength)

-- each entry is the strength of a definite path to its node, and no definite path to the node is stronger, hop
-- by hop and as a whole
pub record IsBest (g : GraphData) (state : List Tern) (best : ℕ → ℕ) : Type 0 where
  pub found : (node : ℕ) → node < nodes g → Definite g state node (best node)
  pub spread : (here next : Stand) (place : ℕ) → Hop g state here place next → next.definite ≡ true →
      here.strength ≤ best here.node → next.strength ≤ best next.node
  pub most : (root : ℕ) (hops : List ℕ) (there : Stand) → LivePath g state root hops there → there.definite ≡ true →
      there.strength ≤ best there.node

-- a closed switch may conduct
pub closed-live : (switch : SwitchState) → is_closed switch ≡ true → is_live switch ≡ true
closed-live Open closed = closed
closed-live Closed closed = refl
closed-live Unknown closed = refl

-- a conjunction that holds has a second part that holds
pub and-second : (a b : Bool) → (a && b) ≡ true → b ≡ true
and-second true b both = both
and-second false b both = absurd cc

module _ (g : GraphData) (wired : IsWired g) (state : List Tern) where
  -- no node past the last has a level
  pub in_range-from_level : (node : ℕ) → 0 < level_of g node → node < nodes g
  in_range-from_level node positive =
      elim (cases_lt node (nodes g)) [
        | inl inside ↦ inside
        | inr outside ↦ let none : level_of g node ≡ 0 = get_or-eq_default g.levels 0 outside in absurd (omega arith)
      ]

  -- the empty path is definite
  starts : (node : ℕ) → 0 < level_of g node → Definite g state node (level_of g node)
  starts node positive = record {
    root = node;
    hops = [];
    path =
        record { in_range = in_range-from_level node positive; leads = refl };
  }

  -- a definite path goes on over a closed switch
  pub onward : (m n strength place : ℕ) (switch : Switch) →
      Definite g state m strength → place_at g.places place ≡ Some switch → Joins switch m n →
      is_closed (switch_state_at state switch) ≡ true → 0 ≤ min strength switch.level →
      Definite g state n (min strength switch.level)
  onward m n strength place switch came stands joins closed floor =
      let here : Stand = surely m strength in
      let next : Stand = surely n (min strength switch.level) in
      let over : Hop g state here place next = record {
        switch = switch;
        at_place = stands;
        joins = joins;
        live = closed-live (switch_state_at state switch) closed;
        strength = refl;
        definite = sym closed;
      } in
      let leads = Leads-more g state came.hops (at_root g came.root) here next place came.path.leads over in
      record {
        root = came.root;
        hops = came.hops ++ place ∷ [];
        path =
            record { in_range = came.path.in_range; leads = leads };
      }

  -- the closed table of definite paths
  abbrev Table : Type 0
  Table = IsClosed g state is_closed (λ node. 0) (level_of g) (Definite g state)

  -- over a closed switch no stand becomes stronger than its node's entry
  spread_over : (table : Table) (here next : Stand) (place : ℕ) → Hop g state here place next → next.definite ≡ true →
      here.strength ≤ table.table here.node → next.strength ≤ table.table next.node
  spread_over table here next place hop definite most =
      let closed = and-second here.definite (is_closed (switch_state_at state hop.switch)) (rw hop.definite at definite) in
      omega (arith, hop.strength, table.spread place hop.switch here.node next.node hop.at_place hop.joins closed (omega arith))

  -- along a definite path no stand is stronger than its node's entry
  most_along : (table : Table) (hops : List ℕ) (here there : Stand) → Leads g state here hops there → there.definite ≡ true →
      here.strength ≤ table.table here.node → there.strength ≤ table.table there.node
  most_along table [] here there leads definite most = rw (← leads) most
  most_along table (place ∷ hops) here there leads definite most =
      let still_definite = Leads-definite g state hops leads.0 there leads.2 definite in
      most_along table hops leads.0 there leads.2 definite (spread_over table here leads.0 place leads.1 still_definite most)

  -- the table of the strongest definite paths
  pub best_table : (best : ℕ → ℕ) × IsBest g state best
  best_table =
      let closed : Table = closed_table g state is_closed (λ node. 0) (level_of g) (Definite g state) wired starts onward in (
        closed.table,
        record {
          found = λ node in_range. let fits = level_fits g wired node in_range in
              closed.come node (omega (arith, closed.low node, fits.low));
          spread = spread_over closed;
          most = λ root hops there path definite. most_along closed hops (at_root g root) there path.leads definite
              (closed.low root);
        },
      )

  -- no definite path is stronger than an input node
  pub best-high : (best : ℕ → ℕ) → IsBest g state best → (node : ℕ) → node < nodes g → best node ≤ INPUT_LEVEL
  best-high best is_best node in_range =
      let found = is_best.found node in_range in
      let fits = level_fits g wired found.root found.path.in_range in
      omega (
        arith,
        fits.high,
        Leads-weaker g state found.hops (at_root g found.root)
            (surely node (best node)) found.path.leads,
      )

-- what is at least as strong as every definite path isn't beaten
pub unbeaten-from_best : (g : GraphData) (state : List Tern) (best : ℕ → ℕ) → IsBest g state best →
    (node strength : ℕ) → best node ≤ strength → ¬ IsBeaten g state node strength
unbeaten-from_best g state best is_best node strength most beaten =
    let least = is_best.most beaten.root beaten.hops beaten.there beaten.path beaten.definite in
    absurd (omega (arith, beaten.strong, least, ap best beaten.ends))

-- and what isn't beaten is at least as strong as every definite path
pub best-from_unbeaten : (g : GraphData) (state : List Tern) (best : ℕ → ℕ) → IsBest g state best →
    (node strength : ℕ) → node < nodes g → (¬ IsBeaten g state node strength) → best node ≤ strength
best-from_unbeaten g state best is_best node strength in_range unbeaten =
    elim (cases_lt strength (best node)) [
      | inl more ↦
          let found = is_best.found node in_range in
          absurd (unbeaten (IsBeaten-path found.root found.hops (surely node (best node)) found.path refl refl more))
      | inr most ↦ most
    ]
