-- From the levels of a graph to the formulas of its members: what they mean, what they reach, and how many steps they took.
-- The pool is b once the inputs are made, and c once the levels are.
use Rattle.std.proofs.Common.{◌≡◌, ℕ, ◌+◌, ◌-◌, ◌*◌, ◌^◌, ◌<◌, ◌≤◌, Bool, inl, inr, List, [], ◌++◌, length, Some, sym, ap, ◌∙◌, subst, append_assoc, arith}
use Rattle.std.specs.Prelude.{All, Contains, slice_get, slice_index_or}
use Rattle.std.proofs.lemmas.Bool.{eqb-true}
use Rattle.std.proofs.lemmas.List.{length-append}
use Rattle.std.proofs.lemmas.List.Elements.{All-contains}
use Rattle.std.proofs.lemmas.Option.{slice_get-get_or}
use Rattle.std.proofs.lemmas.Cmp.{nat_eq_equiv}
use Rattle.std.proofs.lemmas.Map.Made.{length-le_from_is_member}
use Rattle.std.proofs.lemmas.Map.Views.{list_any-from_Contains, Contains-from_any}
use Rattle.std.proofs.Math.Nat.{pow-succ', pow-zero, mul-one, mul-add, mul_comm, mul_left_comm}
use Rattle.ternary.specs.declared.tern.Tern.{Tern}
use Rattle.ternary.specs.Tern.{may_one, may_zero}
use Rattle.switch_paths.specs.Graphs.{GraphData, IsWired, nodes}
use Rattle.bool_pool.specs.declared.gate.Gate.{Gate}
use Rattle.bool_pool.specs.declared.gate.Id.{Id}
use Rattle.bool_pool.specs.declared.gate.Rails.{Rails}
use Rattle.bool_pool.specs.Reach.{IsWithin}
use Rattle.bool_pool.specs.Value.{value_at}
use Rattle.bool_pool.specs.Pairs.{IsOperationOf, ReachAtMost, HasVariablesBelow}
use Rattle.dual_rail.specs.Conduct.{AreInside}
use Rattle.node_elimination.specs.declared.inputs.Inputs.{Inputs}
use Rattle.node_elimination.specs.declared.descent.Drives.{Drives}
use Rattle.node_elimination.specs.Growth.{AreGrown, Grows}
use Rattle.node_elimination.specs.LevelSystem.{value_of}
use Rattle.group_analysis.specs.Meaning.{gate_bound, switch_count, bound_of}
use Rattle.node_elimination.specs.Analysis.{AreRailsOfResponse}
use Rattle.node_elimination.specs.Inputs.{input_formulas}
use Rattle.node_elimination.specs.Descent.{driven_formulas, HaveDriven, ShowsDriven, level_cost, ArePairs}
use Rattle.node_elimination.proofs.LevelParts.{all_one, all_zero}
use Rattle.node_elimination.proofs.LevelLemmas.{driven_response}

module _ (one zero : List Id) (answers : List Rails) (pairs : ArePairs one zero answers) (same : length one ≡ length zero)
    (P : ℕ → Type 0) (of_one : All (λ id. P id.place) one) (of_zero : All (λ id. P id.place) zero) (k : ℕ) (rails : Rails)
    (stands : slice_get answers k ≡ Some rails) where
  -- what holds of the formulas for "may be 1" holds of the first one of each pair
  hi_holds : P rails.hi.place
  hi_holds =
      let pair = pairs.pairs k rails stands in
      subst P (sym pair.1) (of_one k (record { place = 0 }) pair.0)

  -- what holds of the formulas for "may be 0" holds of the second one
  lo_holds : P rails.lo.place
  lo_holds =
      let pair = pairs.pairs k rails stands in
      subst P (sym pair.2) (of_zero k (record { place = 0 }) (omega (arith, pair.0)))

-- where each formula of the pairs is within a list and a bound, the list holds each operation and the bound is above each
-- variable
module _ (gates : List Gate) (answers : List Rails) (listed : List ℕ) (bound : ℕ)
    (hi : (k : ℕ) (rails : Rails) → slice_get answers k ≡ Some rails → IsWithin gates listed bound rails.hi.place)
    (lo : (k : ℕ) (rails : Rails) → slice_get answers k ≡ Some rails → IsWithin gates listed bound rails.lo.place) where
  operation_listed : (place : ℕ) → IsOperationOf gates answers place → Contains listed place
  operation_listed place (operation, reaching) =
      elim reaching.reached [
        | inl over_hi ↦ (hi reaching.k reaching.rails reaching.answer).operations place over_hi operation
        | inr over_lo ↦ (lo reaching.k reaching.rails reaching.answer).operations place over_lo operation
      ]

  -- so no list of different operations is longer
  ReachAtMost-listed : ReachAtMost gates answers (length listed)
  ReachAtMost-listed places distinct all =
      length-le_from_is_member nat_eq_equiv places listed distinct
      (λ place member.
      list_any-from_Contains nat_eq_equiv place listed
      (operation_listed place
      (All-contains (IsOperationOf gates answers) places place all (Contains-from_any eqb-true place places member))))

  HasVariablesBelow-within : HasVariablesBelow gates answers bound
  HasVariablesBelow-within k rails v stands (inl over_hi) = (hi k rails stands).variables v over_hi
  HasVariablesBelow-within k rails v stands (inr over_lo) = (lo k rails stands).variables v over_lo

-- a longer list of operations is at most as long as any greater number
ReachAtMost-more : (gates : List Gate) (answers : List Rails) (few many : ℕ) → few ≤ many → ReachAtMost gates answers few →
    ReachAtMost gates answers many
ReachAtMost-more gates answers few many more at_most places distinct all = omega (arith, at_most places distinct all)

-- the formulas of the last level are the rails of the steady states
pub AreRails-shown : (g : GraphData) → IsWired g →
    (members : ℕ) (pool : List Gate) (drives : Drives) (answers : List Rails) (state : List Tern) (vars : ℕ → Bool)
    → HaveDriven members pool drives → ArePairs drives.one.items drives.zero.items answers →
    ShowsDriven g members pool drives 1 state vars →
    (k : ℕ) (rails : Rails) → slice_get answers k ≡ Some rails → AreRailsOfResponse g state pool vars k rails
AreRails-shown g wired members pool drives answers state vars have pairs shown k rails stands =
    let pair = pairs.pairs k rails stands in
    let below : k < members = omega (arith, pair.0, have.each_one) in
    let one : value_at pool vars rails.hi.place ≡ value_of pool drives.one.items vars k = ap (value_at pool vars) pair.1 in
    let zero : value_at pool vars rails.lo.place ≡ value_of pool drives.zero.items vars k = ap (value_at pool vars) pair.2 in
    let may_be_one = driven_response g wired state may_one k in
    let may_be_zero = driven_response g wired state may_zero k in
    record {
      one = (
        (λ set. may_be_one.0 ((shown.one k below).0 (sym one ∙ set))),
        (λ responds. one ∙ (shown.one k below).1 (may_be_one.1 responds)),
      );
      zero = (
        (λ set. may_be_zero.0 ((shown.zero k below).0 (sym zero ∙ set))),
        (λ responds. zero ∙ (shown.zero k below).1 (may_be_zero.1 responds)),
      );
    }

-- what the inputs reach, and what U comes to reach on them
AreGrown-drives : (b c : List Gate) (inputs : Inputs) (drives : Drives) (bound m n count : ℕ) →
    AreGrown b [] bound m (input_formulas inputs) → Grows b (input_formulas inputs) c (driven_formulas drives) n →
    m + n ≤ count →
    AreGrown c [] bound count (driven_formulas drives)
AreGrown-drives b c inputs drives bound m n count first next sum =
    let two : AreGrown c (first.more ++ []) bound n (driven_formulas drives) =
    next.grown (first.more ++ []) bound first.within in
    record {
      more = two.more ++ first.more;
      few = omega (arith, first.few, two.few, length-append two.more first.more);
      within = rw append_assoc two.within;
    }

-- the pairs of the last level, once it is made
module _ (pool : List Gate) (members : ℕ) (drives : Drives) (answers : List Rails) (have : HaveDriven members pool drives)
    (pairs : ArePairs drives.one.items drives.zero.items answers) where
  each_pair : length drives.one.items ≡ length drives.zero.items
  each_pair = omega (arith, have.each_one, have.each_zero)

  -- what holds of all formulas of the level holds of both of a pair
  both_hold : (P : ℕ → Type 0) → All (λ id. P id.place) (driven_formulas drives) → (k : ℕ) (rails : Rails) →
      slice_get answers k ≡ Some rails →
      P rails.hi.place × P rails.lo.place
  both_hold P all k rails stands =
      let of_one = all_one (λ id. P id.place) drives all in
      let of_zero = all_zero (λ id. P id.place) drives all in (
        hi_holds drives.one.items drives.zero.items answers pairs each_pair P of_one of_zero k rails stands,
        lo_holds drives.one.items drives.zero.items answers pairs each_pair P of_one of_zero k rails stands,
      )

  -- they are formulas of the pool
  pub AreInside-pairs : All (AreInside pool) answers
  AreInside-pairs k d inside =
      let both = both_hold (λ p. p < length pool) have.formulas k (slice_index_or answers k d)
      (slice_get-get_or answers k d inside) in
      record { hi = both.0; lo = both.1 }

  module _ (bound count : ℕ) (grown : AreGrown pool [] bound count (driven_formulas drives)) where
    within : (k : ℕ) (rails : Rails) → slice_get answers k ≡ Some rails →
        IsWithin pool (grown.more ++ []) bound rails.hi.place × IsWithin pool (grown.more ++ []) bound rails.lo.place
    within = both_hold (IsWithin pool (grown.more ++ []) bound) grown.within

    -- they reach at most so many operations
    ReachAtMost-pairs : (most : ℕ) → count ≤ most → ReachAtMost pool answers most
    ReachAtMost-pairs most fits =
        ReachAtMost-more pool answers (length (grown.more ++ [])) most
        (omega (arith, grown.few, length-append grown.more []))
        (ReachAtMost-listed pool answers (grown.more ++ []) bound (λ k rails stands. (within k rails stands).0)
        (λ k rails stands. (within k rails stands).1))

    -- and variables below the bound
    HasVariablesBelow-pairs : HasVariablesBelow pool answers bound
    HasVariablesBelow-pairs =
        HasVariablesBelow-within pool answers (grown.more ++ []) bound (λ k rails stands. (within k rails stands).0)
        (λ k rails stands. (within k rails stands).1)

-- a square and a cube as products
square : (n : ℕ) → n ^ 2 ≡ n * n
square n = pow-succ' n 1 ∙ ap (λ x. n * x) (pow-succ' n 0 ∙ ap (λ x. n * x) (pow-zero n) ∙ mul-one n)

cube : (n : ℕ) → n ^ 3 ≡ n * (n * n)
cube n = pow-succ' n 2 ∙ ap (λ x. n * x) (square n)

-- what a system of n unknowns costs, as a sum of products
row_cost : (n : ℕ) → n * (2 * n + 2) ≡ 2 * (n * n) + 2 * n
row_cost n = mul-add n (2 * n) 2 ∙ ap (λ x. x + n * 2) (mul_left_comm n 2 n) ∙ ap (λ x. 2 * (n * n) + x) (mul_comm n 2)

solving_cost : (n : ℕ) → n * (n * (2 * n + 2)) ≡ 2 * (n * (n * n)) + 2 * (n * n)
solving_cost n =
    ap (λ x. n * x) (row_cost n)
    ∙ mul-add n (2 * (n * n)) (2 * n)
    ∙ ap (λ x. x + n * (2 * n)) (mul_left_comm n 2 (n * n))
    ∙ ap (λ x. 2 * (n * (n * n)) + x) (mul_left_comm n 2 n)

-- the steps of the inputs and of all levels, by what a square, a cube and the solution of a system are
sum-within : (n e t squared cubed solved start mid end : ℕ) → 1 ≤ n → solved ≡ 2 * cubed + 2 * squared →
    mid ≤ start + (2 + (2 * (n + e) + 4 * t)) → end ≤ mid + 16 * (3 * (6 * t + solved) + 5 * n) →
    end ≤ start + (16 * (8 * cubed + 40 * squared + 40 * t + 40 * n) + 4 * (n + e))
sum-within n e t squared cubed solved start mid end some costs inputs levels = omega arith

-- they are within the bound of a graph with a member
pub steps-within : (n e t start mid end : ℕ) → 1 ≤ n → mid ≤ start + (2 + (2 * (n + e) + 4 * t)) →
    end ≤ mid + 16 * level_cost n t →
    end ≤ start + gate_bound n e t
steps-within n e t start mid end some inputs levels =
    let costs : n * (n * (2 * n + 2)) ≡ 2 * n ^ 3 + 2 * n ^ 2 =
    solving_cost n ∙ ap (λ x. 2 * x + 2 * (n * n)) (sym (cube n)) ∙ ap (λ x. 2 * n ^ 3 + 2 * x) (sym (square n)) in
    sum-within n e t (n ^ 2) (n ^ 3) (n * (n * (2 * n + 2))) start mid end some costs inputs levels

-- the steps of a graph with a member
pub steps-analysed : (g : GraphData) (members start mid end : ℕ) → members ≤ nodes g → 1 ≤ members →
    mid ≤ start + (2 + (2 * nodes g + 4 * switch_count g)) → end ≤ mid + 16 * level_cost members (switch_count g) →
    end ≤ start + bound_of g members
steps-analysed g members start mid end within some inputs levels =
    steps-within members (nodes g - members) (switch_count g) start mid end some (omega arith) levels

-- and so are the operations that are reached then
operations-within : (n e t mid end : ℕ) → 1 ≤ n → mid ≤ end → end ≤ mid + 16 * level_cost n t →
    2 * t + (end - mid) ≤ gate_bound n e t
operations-within n e t mid end some rises levels =
    let all : end + 2 * t ≤ mid + gate_bound n e t = steps-within n e t mid (mid + 2 * t) (end + 2 * t) some (omega arith)
    (omega arith) in
    omega (arith, all)

-- all that the pairs reach, by what the inputs and the levels do
module _ (g : GraphData) (members : ℕ) (b c : List Gate) (inputs : Inputs) (drives : Drives) (answers : List Rails)
    (mid end : ℕ) (have : HaveDriven members c drives) (pairs : ArePairs drives.one.items drives.zero.items answers)
    (first : AreGrown b [] (2 * nodes g) (2 * switch_count g) (input_formulas inputs))
    (next : Grows b (input_formulas inputs) c (driven_formulas drives) (end - mid)) where
  grown : AreGrown c [] (2 * nodes g) (2 * switch_count g + (end - mid)) (driven_formulas drives)
  grown =
      AreGrown-drives b c inputs drives (2 * nodes g) (2 * switch_count g) (end - mid) (2 * switch_count g + (end - mid))
      first next (omega arith)

  -- no more operations than the bound
  pub ReachAtMost-analysed : 1 ≤ members → mid ≤ end → end ≤ mid + 16 * level_cost members (switch_count g) →
      ReachAtMost c answers (bound_of g members)
  ReachAtMost-analysed some rises levels_few =
      ReachAtMost-pairs c members drives answers have pairs (2 * nodes g) (2 * switch_count g + (end - mid)) grown
      (bound_of g members)
      (operations-within members (nodes g - members) (switch_count g) mid end some rises levels_few)

  -- and variables of the graph's nodes alone
  pub HasVariablesBelow-analysed : HasVariablesBelow c answers (2 * nodes g)
  HasVariablesBelow-analysed =
      HasVariablesBelow-pairs c members drives answers have pairs (2 * nodes g) (2 * switch_count g + (end - mid)) grown
