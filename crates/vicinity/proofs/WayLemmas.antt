-- What a pass finds: a node's own empty path, and one hop more.
use Rattle.std.proofs.Common.{◌≡◌, ℕ, ◌<◌, ◌≤◌, min, max, Bool, true, false, ◌&&◌, if◌then◌else◌, inl, inr, List, [], ◌∷◌, ◌++◌, Some, refl, sym, ap, ◌∙◌, subst, arith}
use Rattle.std.proofs.lemmas.Bool.{cases_lt}
use Rattle.ternary.specs.declared.tern.Tern.{Tern}
use Rattle.ternary.specs.Tern.{may_one, may_zero}
use Rattle.strength_order.specs.declared.TheConstants.{INPUT_LEVEL}
use Rattle.switch_paths.specs.declared.switching.Switch.{Switch}
use Rattle.switch_paths.specs.declared.switching.SwitchState.{SwitchState}
use Rattle.switch_paths.specs.Switching.{is_closed, is_live, state_at, switch_state_at}
use Rattle.switch_paths.specs.Graphs.{GraphData, IsWired, nodes, level_of, place_at}
use Rattle.switch_paths.specs.Path.{Stand, Joins, Hop, at_root, IsBeaten}
use Rattle.switch_paths.proofs.PathLemmas.{Goes-from_Reaches, Goes-more, Reaches-from_Goes, Leads-more}
use Rattle.switch_paths.proofs.StrongestPaths.{closed-live}
use Rattle.vicinity.specs.declared.pass.Pass.{Pass}
use Rattle.vicinity.specs.declared.pass.Pass.TheVariants.{Sure, One, Zero}
use Rattle.vicinity.specs.Entries.{crosses, own_strength, SureWay, RailWay, IsWay, IsFloorAt}
use Rattle.vicinity.specs.Sources.{is_crossed, HasEdge}
use Rattle.vicinity.proofs.CarriedPaths.{input_unbeaten}

-- what a pass crosses isn't open
pub crosses_live : (pass : Pass) (switch : SwitchState) → crosses pass switch ≡ true → is_live switch ≡ true
crosses_live Sure switch cross = closed-live switch cross
crosses_live One switch cross = cross
crosses_live Zero switch cross = cross

-- what a rail lets start is a level, under that rail
some_level : (rail : Bool) (level : ℕ) → 0 < (if rail then level else 0) → (rail ≡ true) × ((if rail then level else 0) ≡ level)
some_level true level positive = (refl, refl)
some_level false level positive = absurd (omega arith)

-- what nothing beats at one strength, nothing beats at an equal one
module _ (g : GraphData) (state : List Tern) where
  rail_own : (rail : Tern → Bool) (node strength : ℕ) → node < nodes g → strength ≡ level_of g node → (¬ IsBeaten g state node strength) →
      rail (state_at state node) ≡ true → RailWay rail g state node strength
  rail_own rail node strength in_range is free set = record {
    root = node;
    reaches = Reaches-from_Goes g state node node [] (at_root g node) in_range (subst (λ s. ¬ IsBeaten g state node s) is free, refl) refl;
    strong = sym is;
    set = set;
  }

  -- a node's own strength is what its empty path brings
  pub way_own : (pass : Pass) (node floor level : ℕ) → node < nodes g → level ≡ level_of g node → IsFloorAt pass g state node floor →
      floor ≤ own_strength pass (state_at state node) level → 0 < own_strength pass (state_at state node) level →
      IsWay pass g state node (own_strength pass (state_at state node) level)
  way_own Sure node floor level in_range is free above positive = record {
    root = node;
    hops = [];
    there = at_root g node;
    path = record { in_range = in_range; leads = refl };
    ends = refl;
    definite = refl;
    strong = sym is;
  }
  way_own One node floor level in_range is free above positive =
      let some = some_level (may_one (state_at state node)) level positive in
      rail_own may_one node _ in_range (some.1 ∙ is) (free _ above) some.0
  way_own Zero node floor level in_range is free above positive =
      let some = some_level (may_zero (state_at state node)) level positive in
      rail_own may_zero node _ in_range (some.1 ∙ is) (free _ above) some.0

  -- one hop more of a path that brings a rail
  rail_next : (rail : Tern → Bool) (m n strength place : ℕ) (switch : Switch) → place_at g.places place ≡ Some switch → Joins switch m n →
      is_live (switch_state_at state switch) ≡ true → (¬ IsBeaten g state n (min strength switch.level)) → RailWay rail g state m strength →
      RailWay rail g state n (min strength switch.level)
  rail_next rail m n strength place switch stands joins live free way =
      let reached = way.reaches in
      let end : Stand = record {
        node = n;
        strength = min strength switch.level;
        definite = reached.there.definite && is_closed (switch_state_at state switch);
      } in
      let hop : Hop g state reached.there place end = record {
        switch = switch;
        at_place = stands;
        joins = subst (λ k. Joins switch k n) (sym reached.ends) joins;
        live = live;
        strength = ap (λ s. min s switch.level) (sym way.strong);
        definite = refl;
      } in
      let goes = Goes-more g state reached.hops (at_root g way.root) reached.there end place (Goes-from_Reaches g state way.root m reached) hop free in
      record {
        root = way.root;
        reaches = Reaches-from_Goes g state way.root n (reached.hops ++ place ∷ []) end reached.path.in_range goes refl;
        strong = refl;
        set = way.set;
      }

  sure_next : (m n strength place : ℕ) (switch : Switch) → place_at g.places place ≡ Some switch → Joins switch m n →
      is_closed (switch_state_at state switch) ≡ true → SureWay g state m strength → SureWay g state n (min strength switch.level)
  sure_next m n strength place switch stands joins closed way =
      let end : Stand = record { node = n; strength = min strength switch.level; definite = true } in
      let hop : Hop g state way.there place end = record {
        switch = switch;
        at_place = stands;
        joins = subst (λ k. Joins switch k n) (sym way.ends) joins;
        live = closed-live (switch_state_at state switch) closed;
        strength = ap (λ s. min s switch.level) (sym way.strong);
        definite = rw (way.definite, closed) refl;
      } in
      record {
        root = way.root;
        hops = way.hops ++ place ∷ [];
        there = end;
        path = record { in_range = way.path.in_range; leads = Leads-more g state way.hops (at_root g way.root) way.there end place way.path.leads hop };
        ends = refl;
        definite = refl;
        strong = refl;
      }

  -- what a pass finds at one node, it finds over a switch that it crosses, unless that is below the floor
  pub way_next : (pass : Pass) (m n strength floor place : ℕ) (switch : Switch) → place_at g.places place ≡ Some switch → Joins switch m n →
      crosses pass (switch_state_at state switch) ≡ true → IsFloorAt pass g state n floor → floor ≤ min strength switch.level →
      IsWay pass g state m strength → IsWay pass g state n (min strength switch.level)
  way_next Sure m n strength floor place switch stands joins cross free above way = sure_next m n strength place switch stands joins cross way
  way_next One m n strength floor place switch stands joins cross free above way =
      rail_next may_one m n strength place switch stands joins cross (free (min strength switch.level) above) way
  way_next Zero m n strength floor place switch stands joins cross free above way =
      rail_next may_zero m n strength place switch stands joins cross (free (min strength switch.level) above) way

  -- nothing beats an input node
  floor_input : IsWired g → (pass : Pass) (node : ℕ) → IsFloorAt pass g state node INPUT_LEVEL
  floor_input wired Sure node = tt
  floor_input wired One node = λ strength high. input_unbeaten g wired state node strength high
  floor_input wired Zero node = λ strength high. input_unbeaten g wired state node strength high

  -- what comes from an input node
  pub way_edge : IsWired g → (pass : Pass) (other node floor place : ℕ) (switch : Switch) → place_at g.places place ≡ Some switch → Joins switch other node →
      other < nodes g → level_of g other ≡ INPUT_LEVEL → crosses pass (switch_state_at state switch) ≡ true → IsFloorAt pass g state node floor →
      floor ≤ min (own_strength pass (state_at state other) INPUT_LEVEL) switch.level →
      0 < min (own_strength pass (state_at state other) INPUT_LEVEL) switch.level →
      IsWay pass g state node (min (own_strength pass (state_at state other) INPUT_LEVEL) switch.level)
  way_edge wired pass other node floor place switch stands joins in_range input cross free above positive =
      let high = own_high pass (state_at state other) (omega (arith, positive)) in
      way_next pass other node _ floor place switch stands joins cross free above
      (way_own pass other INPUT_LEVEL INPUT_LEVEL in_range (sym input) (floor_input wired pass other) high (omega (arith, positive)))
    where
      own_high : (pass : Pass) (t : Tern) → 0 < own_strength pass t INPUT_LEVEL → INPUT_LEVEL ≤ own_strength pass t INPUT_LEVEL
      own_high Sure t some = omega arith
      own_high One t some = omega (arith, (some_level (may_one t) INPUT_LEVEL some).1)
      own_high Zero t some = omega (arith, (some_level (may_zero t) INPUT_LEVEL some).1)

-- a pass crosses the switch of an arm if the arm says so
pub crosses_arm : (pass : Pass) (switch : SwitchState) (closed : Bool) → is_live switch ≡ true → closed ≡ is_closed switch → is_crossed pass closed ≡ true →
    crosses pass switch ≡ true
crosses_arm Sure switch closed live is cross = sym is ∙ cross
crosses_arm One switch closed live is cross = live
crosses_arm Zero switch closed live is cross = live

-- and the other way round
pub crossed_arm : (pass : Pass) (switch : SwitchState) (closed : Bool) → closed ≡ is_closed switch → crosses pass switch ≡ true →
    is_crossed pass closed ≡ true
crossed_arm Sure switch closed is cross = is ∙ cross
crossed_arm One switch closed is cross = refl
crossed_arm Zero switch closed is cross = refl

-- a greater entry has what a lesser one has
pub HasEdge-more : (pass : Pass) (g : GraphData) (state : List Tern) (node floor low high place : ℕ) → low ≤ high →
    HasEdge pass g state node floor low place → HasEdge pass g state node floor high place
HasEdge-more pass g state node floor low high place more has = λ other switch stands joins input cross above.
    omega (arith, has other switch stands joins input cross above)

-- the greater of two entries is what a path brings if both are
pub way_max : (pass : Pass) (g : GraphData) (state : List Tern) (node one two most : ℕ) → most ≡ max one two →
    (0 < one → IsWay pass g state node one) → (0 < two → IsWay pass g state node two) → 0 < most → IsWay pass g state node most
way_max pass g state node one two most is first second positive =
    elim (cases_lt one two) [
      | inl less ↦ let same : two ≡ most = omega arith in subst (IsWay pass g state node) same (second (omega arith))
      | inr more ↦ let same : one ≡ most = omega arith in subst (IsWay pass g state node) same (first (omega arith))
    ]
