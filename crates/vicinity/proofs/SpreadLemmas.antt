-- Tables while they spread: one entry that rises, rises one after the other, and what is owed yet.
use Rattle.std.proofs.Common.{◌≡◌, ℕ, zero, suc, ◌+◌, ◌-◌, ◌*◌, ◌<◌, ◌≤◌, Bool, true, false, if◌then◌else◌, inl, inr, List, length, take, get_or, sym, ap, ◌∙◌, subst, arith}
use Rattle.std.specs.Prelude.{Contains, slice_index, slice_index_or, slice_set}
use Rattle.std.proofs.Math.Nat.{mul-le-mul_left, mul-add}
use Rattle.std.proofs.lemmas.Bool.{cases_eq}
use Rattle.std.proofs.lemmas.List.{length-set, get_or-set_same, get_or-set_other, take_more}
use Rattle.std.proofs.lemmas.List.Elements.{Contains-push_cases}
use Rattle.vicinity.specs.Lists.{LiveListData, places_of}
use Rattle.ternary.specs.declared.tern.Tern.{Tern}
use Rattle.switch_paths.specs.Graphs.{GraphData}
use Rattle.vicinity.specs.declared.pass.Pass.{Pass}
use Rattle.vicinity.specs.NodeSets.{IsIn}
use Rattle.vicinity.specs.Entries.{IsWay, AreWays, IsSpreadOf, IsSpreadFrom}
use Rattle.vicinity.proofs.WayLemmas.{crosses_live}
use Rattle.vicinity.specs.Arms.{ListsLive}
use Rattle.vicinity.specs.Spreading.{Raises, IsSpreadOver, sum_below, looks, cost_at, owed}
use Rattle.machine_parts.proofs.SetMarks.{marked_inside, marked-set, marked-stays, marked-set_cases, marked-kept}

-- a sum of no greater terms is no greater
pub sum_below-most : (f h : ℕ → ℕ) (count : ℕ) → ((n : ℕ) → f n ≤ h n) → sum_below f count ≤ sum_below h count
sum_below-most f h zero most = omega arith
sum_below-most f h (suc n) most = omega (arith, most n, sum_below-most f h n most)

-- and less by as much as one of them is less
pub sum_below-less : (f h : ℕ → ℕ) (count node less : ℕ) → ((n : ℕ) → f n ≤ h n) → node < count → f node + less ≤ h node →
    sum_below f count + less ≤ sum_below h count
sum_below-less f h zero node less most within at = absurd (omega arith)
sum_below-less f h (suc n) node less most within at =
    elim (cases_eq node n) [
      | inl same ↦ omega (arith, sum_below-most f h n most, at, ap f same, ap h same)
      | inr other ↦ omega (arith, most n, sum_below-less f h n node less most (omega (arith, within)) at)
    ]

-- what a test lets through is no greater if it is no greater
pub when_most : (test : Bool) (a b : ℕ) → a ≤ b → (if test then a else 0) ≤ (if test then b else 0)
when_most true a b most = most
when_most false a b most = omega arith

-- fewer looks cost less
module _ (lists : List LiveListData) (inside : List Bool) (old new : List ℕ) (left left_too : List Bool) where
  abbrev before : ℕ → ℕ
  before node = if slice_index_or inside node false then cost_at lists node * looks (slice_index old node) (slice_index_or left node false) else 0

  abbrev after : ℕ → ℕ
  after node = if slice_index_or inside node false then cost_at lists node * looks (slice_index new node) (slice_index_or left_too node false) else 0

  term_most : ((n : ℕ) → looks (slice_index new n) (slice_index_or left_too n false) ≤ looks (slice_index old n) (slice_index_or left n false)) →
      (n : ℕ) → after n ≤ before n
  term_most fewer n = when_most (slice_index_or inside n false) _ _ (mul-le-mul_left (cost_at lists n) (fewer n))

  pub owed-most : ((n : ℕ) → looks (slice_index new n) (slice_index_or left_too n false) ≤ looks (slice_index old n) (slice_index_or left n false)) →
      owed lists inside new left_too ≤ owed lists inside old left
  owed-most fewer = sum_below-most after before (length inside) (term_most fewer)

-- an entry that rises has fewer looks, even if its node is left
raised_looks : (old new : ℕ) (left : Bool) → old < new → new ≤ 16 → looks new true ≤ looks old left
raised_looks old new true more high = omega arith
raised_looks old new false more high = omega arith

pub owed-raised : (lists : List LiveListData) (inside : List Bool) (table : List ℕ) (left : List Bool) (node value : ℕ) → node < length table → node < length left →
    slice_index table node < value → value ≤ 16 →
    owed lists inside (slice_set table node value) (slice_set left node true) ≤ owed lists inside table left
owed-raised lists inside table left node value within left_within more high =
    owed-most lists inside table (slice_set table node value) left (slice_set left node true) (λ n.
    elim (cases_eq n node) [
      | inl same ↦
          let value_is : slice_index (slice_set table node value) n ≡ value = rw same (get_or-set_same table node value 0 within) in
          let left_is : slice_index_or (slice_set left node true) n false ≡ true = rw same (get_or-set_same left node true false left_within) in
          rw (value_is, left_is) (raised_looks (slice_index table n) value (slice_index_or left n false) (omega (arith, more, ap (slice_index table) same)) high)
      | inr other ↦
          let value_is : slice_index (slice_set table node value) n ≡ slice_index table n = get_or-set_other table node n value 0 other in
          let left_is : slice_index_or (slice_set left node true) n false ≡ slice_index_or left n false = get_or-set_other left node n true false other in
          rw (value_is, left_is) (omega arith)
    ])

-- a node that isn't left any more has one look less
looks_less : (entry : ℕ) (left : Bool) → looks entry false ≤ looks entry left
looks_less entry true = omega arith
looks_less entry false = omega arith

pub owed-popped : (lists : List LiveListData) (inside : List Bool) (table : List ℕ) (left : List Bool) (node : ℕ) → IsIn inside node → IsIn left node →
    owed lists inside table (slice_set left node false) + cost_at lists node ≤ owed lists inside table left
owed-popped lists inside table left node is is_left =
    let cleared = slice_set left node false in
    let within = marked_inside left node is_left in
    let here : slice_index_or cleared node false ≡ false = get_or-set_same left node false false within in
    let fewer : (n : ℕ) → looks (slice_index table n) (slice_index_or cleared n false) ≤ looks (slice_index table n) (slice_index_or left n false) =
    λ n. elim (cases_eq n node) [
      | inl same ↦ rw (same, here) (looks_less (slice_index table node) (slice_index_or left node false))
      | inr other ↦ rw (get_or-set_other left node n false false other) (omega arith)
    ] in
    let cost = cost_at lists node in
    let look = 16 - slice_index table node in
    let whole : cost * (look + 1) ≡ cost * look + cost * 1 = mul-add cost look 1 in
    let at : after lists inside table table left cleared node + cost ≤ before lists inside table table left cleared node =
    rw (is, here, is_left) (omega (arith, whole, mul_one cost, mul_zero cost look)) in
    sum_below-less (after lists inside table table left cleared) (before lists inside table table left cleared) (length inside) node cost
    (term_most lists inside table table left cleared fewer) (marked_inside inside node is) at
  where
    mul_one : (n : ℕ) → n * 1 ≡ n
    mul_one n = omega arith

    mul_zero : (n k : ℕ) → n * (k + 0) ≡ n * k
    mul_zero n k = ap (λ m. n * m) (omega arith)

module _ (pass : Pass) (g : GraphData) (state : List Tern) (inside : List Bool) where
  -- one entry rises
  pub Raises-one : (left : List Bool) (table : List ℕ) (node value : ℕ) → AreWays pass g state inside table → ((node : ℕ) → IsIn left node → IsIn inside node) →
      node < length table → node < length left → IsIn inside node → slice_index table node < value → IsWay pass g state node value →
      Raises pass g state inside left (slice_set left node true) table (slice_set table node value)
  Raises-one left table node value ways within in_table in_left is more way =
      let here : slice_index (slice_set table node value) node ≡ value = get_or-set_same table node value 0 in_table in
      record {
        count = length-set table node value;
        left_count = length-set left node true;
        grows = λ n. elim (cases_eq n node) [
          | inl same ↦ rw (same, here) (omega arith)
          | inr other ↦ rw (get_or-set_other table node n value 0 other) (omega arith)
        ];
        ways = λ n in_set positive. elim (cases_eq n node) [
          | inl same ↦ rw (same, here) way
          | inr other ↦
              let stays : slice_index (slice_set table node value) n ≡ slice_index table n = get_or-set_other table node n value 0 other in
              rw stays (ways n in_set (rw stays at positive))
        ];
        stays = λ n is_left. marked-stays left node n is_left;
        within = λ n is_left. elim (marked-set_cases left node n is_left) [
          | inl before ↦ within n before
          | inr same ↦ subst (IsIn inside) (sym same) is
        ];
        same = λ n. elim (cases_eq n node) [
          | inl same ↦ inl (subst (IsIn (slice_set left node true)) (sym same) (marked-set left node in_left))
          | inr other ↦ inr (get_or-set_other table node n value 0 other)
        ];
      }

  -- rises one after the other
  pub Raises-then : (left mid_left new_left : List Bool) (old mid new : List ℕ) → Raises pass g state inside left mid_left old mid →
      Raises pass g state inside mid_left new_left mid new → Raises pass g state inside left new_left old new
  Raises-then left mid_left new_left old mid new first next = record {
    count = next.count ∙ first.count;
    left_count = next.left_count ∙ first.left_count;
    grows = λ node. omega (arith, first.grows node, next.grows node);
    ways = next.ways;
    stays = λ node is. next.stays node (first.stays node is);
    within = next.within;
    same = λ node. elim (next.same node) [
      | inl is ↦ inl is
      | inr stays ↦ elim (first.same node) [ inl is ↦ inl (next.stays node is) | inr before ↦ inr (stays ∙ before) ]
    ];
  }

  -- what a strength brought over a place stays brought
  pub over_grows : (floor old new : List ℕ) (from strength place : ℕ) → ((node : ℕ) → slice_index old node ≤ slice_index new node) →
      IsSpreadOver pass g state inside floor old from strength place → IsSpreadOver pass g state inside floor new from strength place
  over_grows floor old new from strength place grows over = λ to switch stands joins is cross above.
      omega (arith, grows to, over to switch stands joins is cross above)

  pub over_more : (floor table : List ℕ) (from strength : ℕ) (places : List ℕ) (i : ℕ) → i < length places →
      ((place : ℕ) → Contains (take i places) place → IsSpreadOver pass g state inside floor table from strength place) →
      IsSpreadOver pass g state inside floor table from strength (get_or places i 0) →
      (place : ℕ) → Contains (take (i + 1) places) place → IsSpreadOver pass g state inside floor table from strength place
  over_more floor table from strength places i within so_far here place there =
      elim (Contains-push_cases (take i places) (get_or places i 0) place (rw (take_more places i 0 within) at there)) [
        | inl before ↦ so_far place before
        | inr same ↦ subst (IsSpreadOver pass g state inside floor table from strength) same here
      ]

  -- over all places that are listed at a node, nothing more comes from it
  pub spread_of : (lists : List LiveListData) (floor table : List ℕ) (from strength : ℕ) (places : List ℕ) → ListsLive g state lists →
      places ≡ places_of lists from → ((place : ℕ) → Contains places place → IsSpreadOver pass g state inside floor table from strength place) →
      IsSpreadOf pass g state inside floor table from strength
  spread_of lists floor table from strength places ends listed all = λ place to switch stands joins is cross.
      let there = ends place from to (record { switch = switch; at_place = stands; joins = joins; live = crosses_live pass _ cross }) in
      all place (subst (λ list. Contains list place) (sym listed) there) to switch stands joins is cross

  -- a node from which the pass looked needs no other look while its entry stays, nor does any other node that isn't left
  pub rest_after : (floor old new : List ℕ) (left popped new_left : List Bool) (node : ℕ) → popped ≡ slice_set left node false →
      Raises pass g state inside popped new_left old new →
      IsSpreadOf pass g state inside floor new node (slice_index old node) →
      ((n : ℕ) → IsIn inside n → ¬ IsIn left n → IsSpreadFrom pass g state inside floor old n) →
      (n : ℕ) → IsIn inside n → ¬ IsIn new_left n → IsSpreadFrom pass g state inside floor new n
  rest_after floor old new left popped new_left node is raises looked rest n in_set absent =
      elim (raises.same n) [
        | inl left_now ↦ absurd (absent left_now)
        | inr stays ↦
            elim (cases_eq n node) [
              | inl same ↦
                  let entry : slice_index new n ≡ slice_index old node = stays ∙ ap (slice_index old) same in
                  rw entry (subst (λ k. IsSpreadOf pass g state inside floor new k (slice_index old node)) (sym same) looked)
              | inr other ↦
                  let not_left : ¬ IsIn left n = λ was. absent (raises.stays n (rw is (marked-kept left node n false other was))) in
                  let before = rest n in_set not_left in
                  rw stays (λ place to switch stands joins at cross above.
                  omega (arith, raises.grows to, before place to switch stands joins at cross above))
            ]
      ]
