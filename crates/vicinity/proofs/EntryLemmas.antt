-- What the tables of the three passes mean, over a closed set of nodes: the first has the strength of the strongest definite path to each, and
-- the other two an entry exactly for each node whose steady state has the rail.
-- Along a path that ends in the set, a stand outside it is at an input node; so each stand within is at most as strong as its node's entry.
use Rattle.std.proofs.Common.{◌≡◌, ℕ, ◌<◌, ◌≤◌, Bool, true, if◌then◌else◌, inl, inr, List, [], ◌∷◌, refl, sym, ap, subst, arith}
use Rattle.std.specs.Prelude.{◌↔◌, slice_index}
use Rattle.std.proofs.lemmas.Bool.{cases_lt}
use Rattle.ternary.specs.declared.tern.Tern.{Tern}
use Rattle.ternary.specs.Tern.{may_one, may_zero}
use Rattle.strength_order.specs.declared.TheConstants.{INPUT_LEVEL}
use Rattle.switch_paths.specs.declared.switching.Switch.{Switch}
use Rattle.switch_paths.specs.Switching.{is_closed, is_live, state_at, switch_state_at}
use Rattle.switch_paths.specs.Graphs.{GraphData, IsWired, nodes, level_of}
use Rattle.switch_paths.specs.Path.{Stand, Hop, Leads, at_root, IsBeaten}
use Rattle.switch_paths.specs.Step.{Responds}
use Rattle.switch_paths.proofs.PathLemmas.{IsBeaten-path, level_fits, Hop-in_range, Leads-definite, Leads-positive, Goes, Goes-here, Goes-from_Reaches}
use Rattle.switch_paths.proofs.StrongestPaths.{and-second}
use Rattle.group_meaning.proofs.StoragePaths.{hop_to_storage}
use Rattle.vicinity.specs.declared.pass.Pass.{Pass}
use Rattle.vicinity.specs.declared.pass.Pass.TheVariants.{Sure, One, Zero}
use Rattle.vicinity.specs.NodeSets.{IsIn}
use Rattle.vicinity.specs.Entries.{crosses, own_strength, RailWay, AreBest, AreEntries}
use Rattle.vicinity.proofs.CarriedPaths.{IsClosedSet, hop_from, SwitchesStay}

-- nothing changes between a state and itself
stay_same : (g : GraphData) (state : List Tern) (In : ℕ → Type 0) → SwitchesStay g state state In
stay_same g state In place m n switch stands joins inside = refl

module _ (g : GraphData) (wired : IsWired g) (state : List Tern) (inside : List Bool) (set : IsClosedSet g state (IsIn inside)) where
  -- the sure pass
  module _ (floor best : List ℕ) (none : (node : ℕ) → IsIn inside node → slice_index floor node ≡ 0)
      (entries : AreEntries Sure g state inside floor best) where
    -- an entry is at least what comes from here to its node
    sure_next : (here next : Stand) (place : ℕ) → Hop g state here place next → next.definite ≡ true → here.node < nodes g →
        here.strength ≤ INPUT_LEVEL → (IsIn inside here.node → here.strength ≤ slice_index best here.node) → IsIn inside next.node →
        next.strength ≤ slice_index best next.node
    sure_next here next place hop definite in_range high within at =
        let closed = and-second here.definite (is_closed (switch_state_at state hop.switch)) (rw hop.definite at definite) in
        let bottom = none next.node at in
        elim (hop_from g wired state state (IsIn inside) set (stay_same g state (IsIn inside)) here next place hop in_range at) [
          | inl here_in ↦
              let more = entries.spread here.node here_in place next.node hop.switch hop.at_place hop.joins at closed (omega (arith, bottom)) in
              omega (arith, more, within here_in, hop.strength)
          | inr input ↦
              let more = (entries.sources next.node at).edge place here.node hop.switch hop.at_place hop.joins input closed (omega (arith, bottom)) in
              omega (arith, more, high, hop.strength)
        ]

    sure_within : (hops : List ℕ) (here there : Stand) → Leads g state here hops there → there.definite ≡ true → here.node < nodes g →
        here.strength ≤ INPUT_LEVEL → (IsIn inside here.node → here.strength ≤ slice_index best here.node) → IsIn inside there.node →
        there.strength ≤ slice_index best there.node
    sure_within [] here there leads definite in_range high within at =
        let here_in : IsIn inside here.node = subst (λ (x : Stand). IsIn inside x.node) (sym leads) at in
        subst (λ (x : Stand). x.strength ≤ slice_index best x.node) leads (within here_in)
    sure_within (place ∷ hops) here there leads definite in_range high within at =
        let next = leads.0 in
        let hop = leads.1 in
        let next_definite = Leads-definite g state hops next there leads.2 definite in
        sure_within hops next there leads.2 definite (Hop-in_range wired hop) (omega (arith, hop.strength, high))
        (sure_next here next place hop next_definite in_range high within) at

    -- so the sure pass tells what is beaten
    pub are_best : AreBest g state inside best
    are_best = record {
      unbeaten = λ node strength at most beaten.
          let root = beaten.root in
          let in_range = beaten.path.in_range in
          let own : IsIn inside root → level_of g root ≤ slice_index best root = λ root_in.
          (entries.sources root root_in).own (omega (arith, none root root_in)) in
          let there_in : IsIn inside beaten.there.node = subst (IsIn inside) (sym beaten.ends) at in
          let within = sure_within beaten.hops (at_root g root) beaten.there beaten.path.leads beaten.definite in_range
          (level_fits g wired root in_range).high own there_in in
          absurd (omega (arith, within, beaten.strong, most, ap (slice_index best) beaten.ends));
      most = λ node strength at free.
          elim (cases_lt strength (slice_index best node)) [
            | inl less ↦
                let way = entries.ways node at (omega (arith, less)) in
                absurd (free (IsBeaten-path way.root way.hops way.there way.path way.ends way.definite (omega (arith, less, way.strong))))
            | inr most ↦ most
          ];
    }

  -- the pass of a rail
  module _ (pass : Pass) (rail : Tern → Bool) (floor table : List ℕ) (best : AreBest g state inside floor)
      (crossing : (switch : Switch) → is_live (switch_state_at state switch) ≡ true → crosses pass (switch_state_at state switch) ≡ true)
      (owning : (node level : ℕ) → rail (state_at state node) ≡ true → own_strength pass (state_at state node) level ≡ level)
      (ways : (node : ℕ) → IsIn inside node → 0 < slice_index table node → RailWay rail g state node (slice_index table node))
      (entries : AreEntries pass g state inside floor table) where
    -- an unblocked path from a root with the rail starts in the set, with its root's entry, or at an input node
    record Starts (here : Stand) : Type 0 where
      within : IsIn inside here.node → here.strength ≤ slice_index table here.node
      outside : level_of g here.node ≡ INPUT_LEVEL → rail (state_at state here.node) ≡ true
      high : here.strength ≤ INPUT_LEVEL

    rail_next : (here next : Stand) (place : ℕ) → Hop g state here place next → (¬ IsBeaten g state next.node next.strength) → here.node < nodes g →
        Starts here → IsIn inside next.node → next.strength ≤ slice_index table next.node
    rail_next here next place hop free in_range starts at =
        let cross = crossing hop.switch hop.live in
        let bottom = best.most next.node next.strength at free in
        elim (hop_from g wired state state (IsIn inside) set (stay_same g state (IsIn inside)) here next place hop in_range at) [
          | inl here_in ↦
              let within = starts.within here_in in
              let more = entries.spread here.node here_in place next.node hop.switch hop.at_place hop.joins at cross (omega (arith, bottom, within, hop.strength)) in
              omega (arith, more, within, hop.strength)
          | inr input ↦
              let own = owning here.node INPUT_LEVEL (starts.outside input) in
              let more = (entries.sources next.node at).edge place here.node hop.switch hop.at_place hop.joins input cross
              (omega (arith, bottom, own, starts.high, hop.strength)) in
              omega (arith, more, own, starts.high, hop.strength)
        ]

    rail_within : (hops : List ℕ) (here there : Stand) → Goes g state here hops there → here.node < nodes g → Starts here →
        IsIn inside there.node → there.strength ≤ slice_index table there.node
    rail_within [] here there goes in_range starts at =
        let here_in : IsIn inside here.node = subst (λ (x : Stand). IsIn inside x.node) (sym goes.1) at in
        subst (λ (x : Stand). x.strength ≤ slice_index table x.node) goes.1 (starts.within here_in)
    rail_within (place ∷ hops) here there goes in_range starts at =
        let next = goes.1.0 in
        let hop = goes.1.1 in
        let free = Goes-here g state hops next there goes.1.2 in
        let storage = hop_to_storage g wired state here next place hop free in
        let next_starts : Starts next = record {
          within = rail_next here next place hop free in_range starts;
          outside = λ input. absurd (omega (arith, storage.below, input));
          high = omega (arith, hop.strength, starts.high);
        } in
        rail_within hops next there goes.1.2 (Hop-in_range wired hop) next_starts at

    pub rail_entries : (node : ℕ) → IsIn inside node → (0 < slice_index table node) ↔ Responds rail g state node
    rail_entries node at = (
      (λ positive. let way = ways node at positive in (way.root, way.reaches, way.set)),
      (λ responds.
          let root = responds.0 in
          let reached = responds.1 in
          let goes = Goes-from_Reaches g state root node reached in
          let in_range = reached.path.in_range in
          let level = level_fits g wired root in_range in
          let own : IsIn inside root → level_of g root ≤ slice_index table root = λ root_in.
          let bottom = best.most root (level_of g root) root_in (Goes-here g state reached.hops (at_root g root) reached.there goes) in
          let same = owning root (level_of g root) responds.2 in
          let has = (entries.sources root root_in).own (omega (arith, bottom, same)) in
          omega (arith, has, same) in
          let starts : Starts (at_root g root) = record { within = own; outside = λ input. responds.2; high = level.high } in
          let most = rail_within reached.hops (at_root g root) reached.there goes in_range starts (subst (IsIn inside) (sym reached.ends) at) in
          let low = Leads-positive g state wired reached.hops (at_root g root) reached.there reached.path.leads level.low in
          omega (arith, most, low, ap (slice_index table) reached.ends)),
    )

  -- a state without the rail that is asked for starts nothing
  pub one_entries : (floor table : List ℕ) → AreBest g state inside floor → AreEntries One g state inside floor table →
      (node : ℕ) → IsIn inside node → (0 < slice_index table node) ↔ Responds may_one g state node
  one_entries floor table best entries =
      rail_entries One may_one floor table best (λ switch live. live)
      (λ node level set. ap (λ (test : Bool). if test then level else 0) set) entries.ways entries

  pub zero_entries : (floor table : List ℕ) → AreBest g state inside floor → AreEntries Zero g state inside floor table →
      (node : ℕ) → IsIn inside node → (0 < slice_index table node) ↔ Responds may_zero g state node
  zero_entries floor table best entries =
      rail_entries Zero may_zero floor table best (λ switch live. live)
      (λ node level set. ap (λ (test : Bool). if test then level else 0) set) entries.ways entries
