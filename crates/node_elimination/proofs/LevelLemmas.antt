-- The equations of the levels are the paths. D: over each closed switch a definite path goes on, and along a definite path D
-- is kept. U: onto a clear node an unblocked path goes on, and along an unblocked path U is kept at the strength of the
-- path, since where the path grows weaker U goes down with it.
use Rattle.std.proofs.Common.{◌≡◌, ◌≢◌, ℕ, zero, suc, ◌+◌, ◌<◌, ◌≤◌, Bool, true, List, [], ◌∷◌, ◌++◌, refl, sym, ◌∙◌, subst, ◌-◌, add-zero, arith}
use Rattle.std.specs.Prelude.{◌↔◌}
use Rattle.ternary.specs.declared.tern.Tern.{Tern}
use Rattle.strength_order.specs.declared.TheConstants.{INPUT_LEVEL}
use Rattle.switch_paths.specs.Switching.{is_closed, state_at, switch_state_at}
use Rattle.switch_paths.specs.Graphs.{GraphData, IsWired, Fits, nodes, level_of}
use Rattle.switch_paths.specs.Path.{Stand, Hop, Leads, at_root, IsBeaten}
use Rattle.switch_paths.specs.Step.{Responds}
use Rattle.switch_paths.proofs.PathLemmas.{IsBeaten-lower, beyond, Hop-over, Leads-more, Leads-definite, Leads-weaker, Leads-positive, level_fits, switch_fits, Goes, Goes-here, Goes-leads, Goes-more, Goes-from_unblocked, unblocked-from_Goes}
use Rattle.switch_paths.proofs.StrongestPaths.{closed-live, and-second, in_range-from_level}
use Rattle.node_elimination.specs.Levels.{Reached, IsClear, Driven, IsUnused}
use Rattle.node_elimination.specs.Levels.Reached.{own, over}
use Rattle.node_elimination.specs.Levels.Driven.{above, root, onto}
use Rattle.node_elimination.specs.Laws.{HasDefinitePath, HasUnblockedPath, ReachedByPaths, DrivenByPaths}

module _ (g : GraphData) (wired : IsWired g) (state : List Tern) where
  -- where D holds, a definite path leads
  path-from_Reached : (s n : ℕ) → 1 ≤ s → Reached g state s n → HasDefinitePath g state s n
  path-from_Reached s n low (own strong) = record {
    root = n;
    hops = [];
    there = at_root g n;
    path = record { in_range = in_range-from_level g wired state n (omega arith); leads = refl };
    ends = refl;
    definite = refl;
    strong = strong;
  }
  path-from_Reached s n low (over m place switch stands joins closed strong reached) =
      let way : HasDefinitePath g state s m = path-from_Reached s m low reached in
      let next : Stand = beyond state way.there switch n in
      let hop : Hop g state way.there place next =
      Hop-over stands (rw way.ends joins) (closed-live (switch_state_at state switch) closed) in
      record {
        root = way.root;
        hops = way.hops ++ place ∷ [];
        there = next;
        path = record {
          in_range = way.path.in_range;
          leads = Leads-more g state way.hops (at_root g way.root) way.there next place way.path.leads hop;
        };
        ends = refl;
        definite = rw (way.definite, closed) refl;
        strong = omega (arith, way.strong);
      }

  -- along a definite path D is kept
  reached_along : (s : ℕ) (hops : List ℕ) (here there : Stand) → Leads g state here hops there → there.definite ≡ true →
      s ≤ there.strength →
      Reached g state s here.node → Reached g state s there.node
  reached_along s [] here there leads definite strong reached = rw (← leads) reached
  reached_along s (place ∷ hops) here there leads definite strong reached =
      let next : Stand = leads.0 in
      let hop : Hop g state here place next = leads.1 in
      let still_definite : next.definite ≡ true = Leads-definite g state hops next there leads.2 definite in
      let closed = and-second here.definite (is_closed (switch_state_at state hop.switch))
      (rw hop.definite at still_definite) in
      let weaker : there.strength ≤ next.strength = Leads-weaker g state hops next there leads.2 in
      reached_along s hops next there leads.2 definite strong
      (over here.node place hop.switch hop.at_place hop.joins closed (omega (arith, hop.strength)) reached)

  -- where a definite path leads, D holds
  reached_by : (s n from : ℕ) (hops : List ℕ) (there : Stand) → Leads g state (at_root g from) hops there → there.node ≡ n →
      there.definite ≡ true → s ≤ there.strength → Reached g state s n
  reached_by s n from hops there leads ends definite strong =
      let weaker : there.strength ≤ (at_root g from).strength = Leads-weaker g state hops (at_root g from) there leads in
      rw ends at (reached_along s hops (at_root g from) there leads definite strong (own (omega (arith, strong, weaker))))

  reached-from_path : (s n : ℕ) → HasDefinitePath g state s n → Reached g state s n
  reached-from_path s n way = reached_by s n way.root way.hops way.there way.path.leads way.ends way.definite way.strong

  -- a node that is beaten isn't clear
  reached-from_beaten : (s n : ℕ) → IsBeaten g state n s → Reached g state (s + 1) n
  reached-from_beaten s n beaten =
      reached_by (s + 1) n beaten.root beaten.hops beaten.there beaten.path.leads beaten.ends beaten.definite (omega (arith, beaten.strong))

  -- and a node that isn't beaten is clear
  clear-from_unbeaten : (s n : ℕ) → (¬ IsBeaten g state n s) → IsClear g state s n
  clear-from_unbeaten s n unbeaten reached =
      let way : HasDefinitePath g state (s + 1) n = path-from_Reached (s + 1) n (omega arith) reached in
      let stronger : s < way.there.strength = omega (arith, way.strong) in
      unbeaten (record { root = way.root; hops = way.hops; there = way.there; path = way.path; ends = way.ends; definite = way.definite; strong = stronger })

  -- no definite path is stronger than an input node
  pub never_reached : (t n : ℕ) → INPUT_LEVEL < t → Reached g state t n → ⊥
  never_reached t n above_all (own strong) =
      let level = level_fits g wired n (in_range-from_level g wired state n (omega arith)) in
      absurd (omega (arith, level.high))
  never_reached t n above_all (over m place switch stands joins closed strong reached) =
      let fits : Fits (nodes g) switch = switch_fits g wired place switch stands in
      absurd (omega (arith, fits.high))

  -- nor any other path
  pub never_driven : (rail : Tern → Bool) (t n : ℕ) → INPUT_LEVEL < t → Driven rail g state t n → ⊥
  never_driven rail t n above_all (above driven) = never_driven rail (t + 1) n (omega arith) driven
  never_driven rail t n above_all (root clear level set) =
      let own_level = level_fits g wired n (in_range-from_level g wired state n (omega arith)) in
      absurd (omega (arith, own_level.high))
  never_driven rail t n above_all (onto m place switch stands joins live strong clear driven) =
      let fits : Fits (nodes g) switch = switch_fits g wired place switch stands in
      absurd (omega (arith, fits.high))

  module _ (rail : Tern → Bool) where
    -- an unblocked path leads to the node, from a root that has the rail, stand by stand
    record IsWay (n : ℕ) : Type 0 where
      from : ℕ
      in_range : from < nodes g
      hops : List ℕ
      there : Stand
      goes : Goes g state (at_root g from) hops there
      ends : there.node ≡ n
      set : rail (state_at state from) ≡ true

    -- and it has strength at least s
    record IsCarried (s n : ℕ) : Type 0 where
      way : IsWay n
      open way use *
      strong : s ≤ there.strength

    -- where U holds, an unblocked path leads
    carried-from_Driven : (s n : ℕ) → 1 ≤ s → Driven rail g state s n → IsCarried s n
    carried-from_Driven s n low (above driven) =
        let has : IsCarried (s + 1) n = carried-from_Driven (s + 1) n (omega arith) driven in
        record { way = has.way; strong = omega (arith, has.strong) }
    carried-from_Driven s n low (root clear level set) = record {
      way = record {
        from = n;
        in_range = in_range-from_level g wired state n (omega arith);
        hops = [];
        there = at_root g n;
        goes = ((λ beaten. clear (reached-from_beaten s n (rw level at beaten))), refl);
        ends = refl;
        set = set;
      };
      strong = omega arith;
    }
    carried-from_Driven s n low (onto m place switch stands joins live strong clear driven) =
        let way : IsCarried s m = carried-from_Driven s m low driven in
        let next : Stand = beyond state way.there switch n in
        let hop : Hop g state way.there place next = Hop-over stands (rw way.ends joins) live in
        let enough : s ≤ next.strength = omega (arith, way.strong) in
        record {
          way = record {
            from = way.from;
            in_range = way.in_range;
            hops = way.hops ++ place ∷ [];
            there = next;
            goes = Goes-more g state way.hops (at_root g way.from) way.there next place way.goes hop
                (λ beaten. clear (reached-from_beaten s n (IsBeaten-lower beaten enough)));
            ends = refl;
            set = way.set;
          };
          strong = enough;
        }

    -- U goes down the levels
    driven_lower : (more low n : ℕ) → Driven rail g state (low + more) n → Driven rail g state low n
    driven_lower zero low n driven = rw add-zero at driven
    driven_lower (suc more) low n driven =
        let next : low + suc more ≡ (low + 1) + more = omega arith in
        above (driven_lower more (low + 1) n (rw next at driven))

    driven_at : (high low n : ℕ) → low ≤ high → Driven rail g state high n → Driven rail g state low n
    driven_at high low n most driven =
        let split : high ≡ low + (high - low) = omega arith in
        driven_lower (high - low) low n (rw split at driven)

    -- along an unblocked path U is kept at the path's strength
    driven_along : (hops : List ℕ) (here there : Stand) → Goes g state here hops there →
        Driven rail g state here.strength here.node → Driven rail g state there.strength there.node
    driven_along [] here there goes driven = rw (← goes.1) driven
    driven_along (place ∷ hops) here there goes driven =
        let next : Stand = goes.1.0 in
        let hop : Hop g state here place next = goes.1.1 in
        driven_along hops next there goes.1.2
        (onto here.node place hop.switch hop.at_place hop.joins hop.live (omega (arith, hop.strength))
        (clear-from_unbeaten next.strength next.node (Goes-here g state hops next there goes.1.2))
        (driven_at here.strength next.strength here.node (omega (arith, hop.strength)) driven))

    -- where an unblocked path leads, U holds
    driven-from_path : (s n : ℕ) → HasUnblockedPath rail g state s n → Driven rail g state s n
    driven-from_path s n way =
        let start : Stand = at_root g way.root in
        let goes : Goes g state start way.hops way.there =
        Goes-from_unblocked g state way.root way.hops way.there way.path way.unblocked in
        let first : Driven rail g state (level_of g way.root) way.root =
        root (clear-from_unbeaten (level_of g way.root) way.root (Goes-here g state way.hops start way.there goes)) refl
        way.set in
        driven_at way.there.strength s n way.strong (rw way.ends at (driven_along way.hops start way.there goes first))

    path-from_Driven : (s n : ℕ) → 1 ≤ s → Driven rail g state s n → HasUnblockedPath rail g state s n
    path-from_Driven s n low driven =
        let way : IsCarried s n = carried-from_Driven s n low driven in
        record {
          root = way.from;
          hops = way.hops;
          there = way.there;
          path = record {
            in_range = way.in_range;
            leads =
                Goes-leads g state way.hops (at_root g way.from) way.there way.goes;
          };
          ends = way.ends;
          unblocked = unblocked-from_Goes g state way.from way.hops way.there way.goes;
          strong = way.strong;
          set = way.set;
        }

    -- U at the least level is the rail of the steady state
    pub driven_response : (n : ℕ) → Driven rail g state 1 n ↔ Responds rail g state n
    driven_response n = (
      (λ driven.
          let way : HasUnblockedPath rail g state 1 n = path-from_Driven 1 n (omega arith) driven in (
            way.root,
            record {
              hops = way.hops;
              there = way.there;
              path = way.path;
              ends = way.ends;
              unblocked = way.unblocked;
            },
            way.set,
          )),
      (λ responds.
          let reaches = responds.1 in
          let level = level_fits g wired responds.0 reaches.path.in_range in
          driven-from_path 1 n (record {
            root = responds.0;
            hops = reaches.hops;
            there = reaches.there;
            path = reaches.path;
            ends = reaches.ends;
            unblocked = reaches.unblocked;
            strong = Leads-positive g state wired reaches.hops (at_root g responds.0) reaches.there reaches.path.leads
                level.low;
            set = responds.2;
          })),
    )

-- D(s, n) holds exactly if a definite path of strength at least s leads to n
pub reached_by_paths : ReachedByPaths
reached_by_paths g wired state s n low = (path-from_Reached g wired state s n low, reached-from_path g wired state s n)

-- U(s, n) for a rail holds exactly if an unblocked path of strength at least s leads to n from a root that has the rail
pub driven_by_paths : DrivenByPaths
driven_by_paths rail g wired state s n low =
    (path-from_Driven g wired state rail s n low, driven-from_path g wired state rail s n)

-- D goes down the levels
pub reached_down : (g : GraphData) (state : List Tern) (t n : ℕ) → Reached g state (t + 1) n → Reached g state t n
reached_down g state t n (own strong) = own (omega arith)
reached_down g state t n (over m place switch stands joins closed strong reached) =
    over m place switch stands joins closed (omega arith) (reached_down g state t m reached)

-- and so does U
pub driven_down : (rail : Tern → Bool) (g : GraphData) (state : List Tern) (t n : ℕ) → Driven rail g state (t + 1) n →
    Driven rail g state t n
driven_down rail g state t n driven = above driven

-- if nothing has a level, D and U are those of the level above
module _ (g : GraphData) (state : List Tern) (s : ℕ) (unused : IsUnused g s) where
  pub reached_up : (n : ℕ) → Reached g state s n → Reached g state (s + 1) n
  reached_up n (own strong) = let other : level_of g n ≢ s = unused.nodes n in own (omega arith)
  reached_up n (over m place switch stands joins closed strong reached) =
      let other : switch.level ≢ s = unused.switches place switch stands in
      over m place switch stands joins closed (omega arith) (reached_up m reached)

  pub driven_up : (rail : Tern → Bool) (t n : ℕ) → t ≡ s → Driven rail g state t n → Driven rail g state (s + 1) n
  driven_up rail t n same (above driven) = subst (λ k. Driven rail g state (k + 1) n) same driven
  driven_up rail t n same (root clear level set) = absurd (unused.nodes n (level ∙ same))
  driven_up rail t n same (onto m place switch stands joins live strong clear driven) =
      let other : switch.level ≢ s = unused.switches place switch stands in
      onto m place switch stands joins live (omega arith)
      (λ reached. clear (subst (λ k. Reached g state (k + 1) n) (sym same) (reached_down g state (s + 1) n reached)))
      (driven_up rail t m same driven)
