-- One link more in the system of a level.
use Rattle.std.proofs.Common.{◌≡◌, ◌≢◌, ℕ, ◌+◌, ◌<◌, ◌≤◌, ◌⊎◌, Bool, true, ◌&&◌, ◌||◌, inl, inr, List, [], ◌∷◌, ◌++◌, length, Result, Ok, Err, refl, sym, ap, ◌∙◌, arith}
use Rattle.std.specs.Prelude.{IfOk}
use Rattle.std.proofs.lemmas.Bool.{cases_eq}
use Rattle.switch_paths.specs.Graphs.{GraphData, nodes}
use Rattle.bool_pool.specs.declared.gate.Gate.{Gate}
use Rattle.bool_pool.specs.declared.gate.Id.{Id}
use Rattle.bool_pool.specs.Gate.{Extends}
use Rattle.bool_pool.specs.Value.{value_at}
use Rattle.bool_pool.specs.Reach.{IsWithin, AllWithin, IsGrown}
use Rattle.bool_pool.specs.Made.{IsMade, IsFormed}
use Rattle.bool_pool.proofs.ValueLemmas.{value_at-extends}
use Rattle.bool_pool.proofs.WithinLemmas.{IsWithin-listed, IsWithin-extends, IsGrown-made, IsGrown-after}
use Rattle.node_elimination.specs.Growth.{place_of}
use Rattle.node_elimination.specs.Equations.{SystemData, IsWhole, put_edge, put_right, edge, right}
use Rattle.node_elimination.specs.LevelSystem.{FitLinks, AddsLink}
use Rattle.node_elimination.proofs.SolutionLemmas.{or_either, or_first, or_second}
use Rattle.node_elimination.proofs.GrowthLemmas.{IsHeld, IsHeld-front, IsHeld-back, inside-held}
use Rattle.node_elimination.proofs.EquationsLemmas.{edge-extends, right-extends, edge_at-put_same, edge_at-put_other, right_at-put_edge, right_at-put_same, right_at-put_other, edge_at-put_right}

-- the formula "into, or all of first, second and third" is formed in one step more
pub IsFormed-or_all : {E : Type 0} (old mid new : List Gate) (into first second third both part count : ℕ)
    (r : Result Id E) →
    Extends old mid → into < length old → first < length old →
    IsMade old mid (second ∷ third ∷ []) (λ vars. value_at old vars second && value_at old vars third) both →
    IfOk r (λ id. IsFormed mid new part (into ∷ first ∷ both ∷ [])
    (λ vars. value_at mid vars into || (value_at mid vars first && value_at mid vars both)) id.place) → 1 + part ≤ count →
    IfOk r (λ id. IsFormed old new count (into ∷ first ∷ second ∷ third ∷ [])
    (λ vars. value_at old vars into || (value_at old vars first && (value_at old vars second && value_at old vars third)))
    id.place)
IsFormed-or_all old mid new into first second third both part count (Ok id) extends inside_into inside_first made formed
    enough = record {
      inside = formed.inside;
      value_is = λ vars.
          formed.value_is vars
          ∙ ap (λ b. b || (value_at mid vars first && value_at mid vars both))
          (value_at-extends old mid vars into extends inside_into)
          ∙ ap (λ b. value_at old vars into || (b && value_at mid vars both))
          (value_at-extends old mid vars first extends inside_first)
          ∙ ap (λ b. value_at old vars into || (value_at old vars first && b)) (made.value_is vars);
      grown = grown;
    }
  where
    moved : (more listed : List ℕ) (bound i : ℕ) → IsWithin old listed bound i → IsWithin mid (more ++ listed) bound i
    moved more listed bound i within =
        IsWithin-listed mid more listed bound i (IsWithin-extends old mid listed bound i extends within)

    grown : (listed : List ℕ) (bound : ℕ) → AllWithin old listed bound (into ∷ first ∷ second ∷ third ∷ []) →
        IsGrown new listed bound count id.place
    grown listed bound within =
        let one : IsGrown mid listed bound 1 both =
        IsGrown-made old mid listed (second ∷ third ∷ []) (λ vars. value_at old vars second && value_at old vars third) bound
        both extends made
        within.1.1 in
        let two : IsGrown new (one.more ++ listed) bound part id.place =
        formed.grown (one.more ++ listed) bound
        (moved one.more listed bound into within.0, (moved one.more listed bound first within.1.0, (one.within, tt))) in
        let all : IsGrown new listed bound (1 + part) id.place =
        IsGrown-after new one.more listed bound 1 part id.place one.few two in
        record { more = all.more; few = omega (arith, all.few); within = all.within }
IsFormed-or_all old mid new into first second third both part count (Err e) extends inside_into inside_first made formed
    enough = tt

-- what is held for the links: a gate, a pass and a source
module _ (g : GraphData) (members : ℕ) (pool : List Gate) (gates passes sources : List Id) (others : List Id)
    (fit : FitLinks g members pool gates passes sources) where
  IsHeld-in : (xs : List Id) (p : ℕ) → IsHeld xs p → IsHeld (xs ++ others) p
  IsHeld-in xs p held = IsHeld-front xs others p held

  pub gate_held : (n : ℕ) → n < members → IsHeld (gates ++ (passes ++ sources)) (place_of gates n)
  gate_held n inside = IsHeld-front gates (passes ++ sources) _ (n, omega (arith, fit.each_gate), refl)

  pass_held : (place : ℕ) → place < length g.places → IsHeld (gates ++ (passes ++ sources)) (place_of passes place)
  pass_held place inside =
      IsHeld-back gates (passes ++ sources) _ (IsHeld-front passes sources _ (place, omega (arith, fit.each_pass), refl))

  pub source_held : (m : ℕ) → m < nodes g → IsHeld (gates ++ (passes ++ sources)) (place_of sources m)
  source_held m inside =
      IsHeld-back gates (passes ++ sources) _ (IsHeld-back passes sources _ (m, omega (arith, fit.each_source), refl))

  pub IsHeld-gate : (n p : ℕ) → n < members → p ≡ place_of gates n → IsHeld ((gates ++ (passes ++ sources)) ++ others) p
  IsHeld-gate n p inside is = rw is (IsHeld-in (gates ++ (passes ++ sources)) (place_of gates n) (gate_held n inside))

  pub IsHeld-pass : (place p : ℕ) → place < length g.places → p ≡ place_of passes place →
      IsHeld ((gates ++ (passes ++ sources)) ++ others) p
  IsHeld-pass place p inside is =
      rw is (IsHeld-in (gates ++ (passes ++ sources)) (place_of passes place) (pass_held place inside))

  pub IsHeld-source : (m p : ℕ) → m < nodes g → p ≡ place_of sources m → IsHeld ((gates ++ (passes ++ sources)) ++ others) p
  IsHeld-source m p inside is = rw is (IsHeld-in (gates ++ (passes ++ sources)) (place_of sources m) (source_held m inside))

  -- they are formulas of the pool
  pub gate-inside : (n : ℕ) → n < members → place_of gates n < length pool
  gate-inside n inside = inside-held pool _ _ fit.formulas (gate_held n inside)

  pub pass-inside : (place : ℕ) → place < length g.places → place_of passes place < length pool
  pass-inside place inside = inside-held pool _ _ fit.formulas (pass_held place inside)

  pub source-inside : (m : ℕ) → m < nodes g → place_of sources m < length pool
  source-inside m inside = inside-held pool _ _ fit.formulas (source_held m inside)

-- they fit a pool that extends theirs
pub FitLinks-extends : (g : GraphData) (members : ℕ) (pool after : List Gate) (gates passes sources : List Id) →
    Extends pool after →
    FitLinks g members pool gates passes sources → FitLinks g members after gates passes sources
FitLinks-extends g members pool after gates passes sources extends fit = record {
  within = fit.within;
  each_gate = fit.each_gate;
  each_pass = fit.each_pass;
  each_source = fit.each_source;
  formulas = λ k d inside. omega (arith, fit.formulas k d inside, extends.longer);
}

-- nothing comes to a node that is no member
pub AddsLink-none : (members m n : ℕ) (gate pass source : (ℕ → Bool) → Bool) (pool : List Gate) (system : SystemData) →
    members ≤ n →
    AddsLink members m n gate pass source pool system pool system
AddsLink-none members m n gate pass source pool system outside = record {
  edges = λ vars i j inside_i inside_j. (
    (λ set. inl set),
    (λ either. elim either [
      | inl set ↦ set
      | inr link ↦ let same : i ≡ n = link.0 in
          absurd (omega arith)
    ]),
  );
  rights = λ vars i inside. (
    (λ set. inl set),
    (λ either. elim either [
      | inl set ↦ set
      | inr link ↦ let same : i ≡ n = link.0 in
          absurd (omega arith)
    ]),
  );
}

module _ (before after : List Gate) (old : SystemData) (whole : IsWhole before old) (extends : Extends before after)
    (m n : ℕ) (gate pass source : (ℕ → Bool) → Bool) (inside_n : n < old.size) (id : Id) where
  -- an edge from n to m, by other names of both
  same_edge : (gates : List Gate) (system : SystemData) (vars : ℕ → Bool) (i j : ℕ) → i ≡ n → j ≡ m →
      edge gates system vars i j ≡ edge gates system vars n m
  same_edge gates system vars i j row column =
      ap (λ x. edge gates system vars x j) row ∙ ap (λ y. edge gates system vars n y) column

  -- from a member an edge is added
  pub AddsLink-edge : m < old.size →
      ((vars : ℕ → Bool) → value_at after vars id.place ≡ (edge before old vars n m || (gate vars && pass vars))) →
      AddsLink old.size m n gate pass source before old after (put_edge old n m id)
  AddsLink-edge inside_m says = record {
    edges = λ vars i j inside_i inside_j. (forth vars i j inside_i inside_j, back vars i j inside_i inside_j);
    rights = λ vars i inside.
        let same : right after (put_edge old n m id) vars i ≡ right before old vars i =
        ap (value_at after vars) (right_at-put_edge old n m i id)
        ∙ right-extends before after old extends whole vars i inside in (
          (λ set. inl (sym same ∙ set)),
          (λ either. elim either [
            | inl set ↦ same ∙ set
            | inr link ↦ let none : old.size ≤ m = link.1 in
                absurd (omega arith)
          ]),
        );
  }
    where
      here : (vars : ℕ → Bool) →
          edge after (put_edge old n m id) vars n m ≡ (edge before old vars n m || (gate vars && pass vars))
      here vars = ap (value_at after vars) (edge_at-put_same old whole.square n m id inside_n inside_m) ∙ says vars

      other : (vars : ℕ → Bool) (i j : ℕ) → i < old.size → j < old.size → ((i ≢ n) ⊎ (j ≢ m)) →
          edge after (put_edge old n m id) vars i j ≡ edge before old vars i j
      other vars i j inside_i inside_j apart =
          ap (value_at after vars) (edge_at-put_other old n m i j id inside_m inside_j apart)
          ∙ edge-extends before after old extends whole vars i j inside_i inside_j

      forth : (vars : ℕ → Bool) (i j : ℕ) → i < old.size → j < old.size → edge after (put_edge old n m id) vars i j ≡ true →
          (edge before old vars i j ≡ true) ⊎ ((i ≡ n) × (j ≡ m) × ((gate vars && pass vars) ≡ true))
      forth vars i j inside_i inside_j set =
          elim (cases_eq i n) [
            | inl row ↦
                elim (cases_eq j m) [
                  | inl column ↦
                      let now : edge after (put_edge old n m id) vars n m ≡ true =
                      sym (same_edge after (put_edge old n m id) vars i j row column) ∙ set in
                      elim (or_either (edge before old vars n m) (gate vars && pass vars) (sym (here vars) ∙ now)) [
                        | inl was ↦ inl (same_edge before old vars i j row column ∙ was)
                        | inr link ↦ inr (row, column, link)
                      ]
                  | inr apart ↦ inl (sym (other vars i j inside_i inside_j (inr apart)) ∙ set)
                ]
            | inr apart ↦ inl (sym (other vars i j inside_i inside_j (inl apart)) ∙ set)
          ]

      back : (vars : ℕ → Bool) (i j : ℕ) → i < old.size → j < old.size →
          ((edge before old vars i j ≡ true) ⊎ ((i ≡ n) × (j ≡ m) × ((gate vars && pass vars) ≡ true))) →
          edge after (put_edge old n m id) vars i j ≡ true
      back vars i j inside_i inside_j (inl was) =
          elim (cases_eq i n) [
            | inl row ↦
                elim (cases_eq j m) [
                  | inl column ↦
                      same_edge after (put_edge old n m id) vars i j row column ∙ here vars
                      ∙ or_first (edge before old vars n m) (gate vars && pass vars)
                      (sym (same_edge before old vars i j row column) ∙ was)
                  | inr apart ↦ other vars i j inside_i inside_j (inr apart) ∙ was
                ]
            | inr apart ↦ other vars i j inside_i inside_j (inl apart) ∙ was
          ]
      back vars i j inside_i inside_j (inr link) =
          same_edge after (put_edge old n m id) vars i j link.0 link.1 ∙ here vars
          ∙ or_second (edge before old vars n m) (gate vars && pass vars) link.2

  -- from another node something is added to the right side
  pub AddsLink-right : old.size ≤ m →
      ((vars : ℕ → Bool) →
      value_at after vars id.place ≡ (right before old vars n || (gate vars && (pass vars && source vars)))) →
      AddsLink old.size m n gate pass source before old after (put_right old n id)
  AddsLink-right outside says = record {
    edges = λ vars i j inside_i inside_j.
        let same : edge after (put_right old n id) vars i j ≡ edge before old vars i j =
        ap (value_at after vars) (edge_at-put_right old n i j id)
        ∙ edge-extends before after old extends whole vars i j inside_i inside_j in (
          (λ set. inl (sym same ∙ set)),
          (λ either. elim either [ inl set ↦ same ∙ set | inr link ↦ let is_m : j ≡ m = link.1 in absurd (omega arith) ]),
        );
    rights = λ vars i inside. (forth vars i inside, back vars i inside);
  }
    where
      here : (vars : ℕ → Bool) →
          right after (put_right old n id) vars n ≡ (right before old vars n || (gate vars && (pass vars && source vars)))
      here vars = ap (value_at after vars) (right_at-put_same old whole.square n id inside_n) ∙ says vars

      other : (vars : ℕ → Bool) (i : ℕ) → i < old.size → i ≢ n →
          right after (put_right old n id) vars i ≡ right before old vars i
      other vars i inside apart =
          ap (value_at after vars) (right_at-put_other old n i id apart)
          ∙ right-extends before after old extends whole vars i inside

      forth : (vars : ℕ → Bool) (i : ℕ) → i < old.size → right after (put_right old n id) vars i ≡ true →
          (right before old vars i ≡ true) ⊎ ((i ≡ n) × (old.size ≤ m) × ((gate vars && (pass vars && source vars)) ≡ true))
      forth vars i inside set =
          elim (cases_eq i n) [
            | inl row ↦
                let now : right after (put_right old n id) vars n ≡ true =
                sym (ap (right after (put_right old n id) vars) row) ∙ set in
                elim (or_either (right before old vars n) (gate vars && (pass vars && source vars)) (sym (here vars) ∙ now)) [
                  | inl was ↦ inl (ap (right before old vars) row ∙ was)
                  | inr link ↦ inr (row, outside, link)
                ]
            | inr apart ↦ inl (sym (other vars i inside apart) ∙ set)
          ]

      back : (vars : ℕ → Bool) (i : ℕ) → i < old.size →
          ((right before old vars i ≡ true)
          ⊎ ((i ≡ n) × (old.size ≤ m) × ((gate vars && (pass vars && source vars)) ≡ true))) →
          right after (put_right old n id) vars i ≡ true
      back vars i inside (inl was) =
          elim (cases_eq i n) [
            | inl row ↦
                ap (right after (put_right old n id) vars) row ∙ here vars
                ∙ or_first (right before old vars n) (gate vars && (pass vars && source vars))
                (sym (ap (right before old vars) row) ∙ was)
            | inr apart ↦ other vars i inside apart ∙ was
          ]
      back vars i inside (inr link) =
          ap (right after (put_right old n id) vars) link.0 ∙ here vars
          ∙ or_second (right before old vars n) (gate vars && (pass vars && source vars)) link.2
