-- A pass: nodes start one after the other, and what they start with stays.
use Rattle.machine_parts.proofs.SetMarks.{marked-kept, marked_inside}
use Rattle.machine_parts.specs.Marking.{AreOnce}
use Rattle.std.proofs.Common.{◌≡◌, ℕ, zero, suc, ◌+◌, ◌*◌, ◌<◌, ◌≤◌, Bool, true, false, if◌then◌else◌, inl, inr, ◌⊎◌, List, [], ◌∷◌, ◌++◌, length, take, get_or, sym, ap, ◌∙◌, subst, arith, refl}
use Rattle.std.specs.Prelude.{Contains, slice_index, slice_index_or, slice_set}
use Rattle.std.proofs.Math.Nat.{mul-le-mul_left}
use Rattle.std.proofs.lemmas.Bool.{cases_eq}
use Rattle.std.proofs.lemmas.List.{length-set, get_or-set_same, get_or-set_other, take_more}
use Rattle.std.proofs.lemmas.List.Elements.{Contains-push, Contains-push_cases, Contains-append_left}
use Rattle.vicinity.specs.Lists.{LiveListData}
use Rattle.ternary.specs.declared.tern.Tern.{Tern}
use Rattle.switch_paths.specs.Graphs.{GraphData}
use Rattle.vicinity.specs.NodeSets.{IsIn}
use Rattle.vicinity.specs.declared.pass.Pass.{Pass}
use Rattle.vicinity.specs.Entries.{IsWay, HasSources, IsSpreadFrom}
use Rattle.vicinity.specs.Spreading.{IsStarted, Starts, AreStarted, sum_below, looks, cost_at, owed, size_of}
use Rattle.vicinity.proofs.SpreadLemmas.{sum_below-most, sum_below-less}

module _ (pass : Pass) (g : GraphData) (state : List Tern) (floor : List ℕ) where
  -- a node that starts with an entry
  pub Starts-set : (node value : ℕ) (left new_left : List Bool) (table : List ℕ) → node < length table →
      (0 < value → IsWay pass g state node value) → HasSources pass g state node (slice_index floor node) value →
      length new_left ≡ length left → (IsIn new_left node ⊎ (value ≡ 0)) → ((n : ℕ) → IsIn left n → IsIn new_left n) →
      ((n : ℕ) → IsIn new_left n → IsIn left n ⊎ (n ≡ node)) → Starts pass g state floor node left new_left table (slice_set table node value)
  Starts-set node value left new_left table within way sources count is_left stays only =
      let here : slice_index (slice_set table node value) node ≡ value = get_or-set_same table node value 0 within in
      record {
        count = length-set table node value;
        left_count = count;
        started = record { way = λ positive. rw here (way (rw here at positive)); sources = rw here sources };
        others = λ n other. get_or-set_other table node n value 0 other;
        left = elim is_left [ inl is ↦ inl is | inr none ↦ inr (here ∙ none) ];
        stays = stays;
        only = only;
      }

  -- an entry that is as before has started as before
  started_same : (old new : List ℕ) (node : ℕ) → slice_index new node ≡ slice_index old node → IsStarted pass g state floor old node →
      IsStarted pass g state floor new node
  started_same old new node same started = record { way = λ positive. rw same (started.way (rw same at positive)); sources = rw same started.sources }

  -- one node more
  pub AreStarted-more : (list : List ℕ) (i node : ℕ) (left new_left : List Bool) (old new : List ℕ) → i < length list → node ≡ get_or list i 0 →
      AreStarted pass g state floor (take i list) left old → Starts pass g state floor node left new_left old new →
      AreStarted pass g state floor (take (i + 1) list) new_left new
  AreStarted-more list i node left new_left old new within is so_far starts =
      let more : take (i + 1) list ≡ take i list ++ node ∷ [] = take_more list i 0 within ∙ ap (λ n. take i list ++ n ∷ []) (sym is) in
      rw more (record {
        each = λ n there. elim (cases_eq n node) [
          | inl same ↦ subst (IsStarted pass g state floor new) (sym same) starts.started
          | inr other ↦
              elim (Contains-push_cases (take i list) node n there) [
                | inl before ↦ started_same old new n (starts.others n other) (so_far.each n before)
                | inr same ↦ absurd (other (sym same))
              ]
        ];
        lefts = λ n there. elim (cases_eq n node) [
          | inl same ↦ elim starts.left [
            | inl is_left ↦ inl (subst (IsIn new_left) (sym same) is_left)
            | inr none ↦ inr (ap (slice_index new) same ∙ none)
          ]
          | inr other ↦
              elim (Contains-push_cases (take i list) node n there) [
                | inl before ↦ elim (so_far.lefts n before) [
                  | inl is_left ↦ inl (starts.stays n is_left)
                  | inr none ↦ inr (starts.others n other ∙ none)
                ]
                | inr same ↦ absurd (other (sym same))
              ]
        ];
        only = λ n is_left. elim (starts.only n is_left) [
          | inl before ↦ Contains-append_left (take i list) (node ∷ []) n (so_far.only n before)
          | inr same ↦ subst (Contains (take i list ++ node ∷ [])) (sym same) (Contains-push (take i list) node)
        ];
      })

  -- a node that isn't left has nothing to bring
  pub rests_at_none : (inside : List Bool) (table : List ℕ) (node : ℕ) → slice_index table node ≡ 0 → IsSpreadFrom pass g state inside floor table node
  rests_at_none inside table node none = λ place to switch stands joins is cross above. omega (arith, none)

  -- what a node starts with stays as its entry grows
  pub sources_grow : (node low high : ℕ) → low ≤ high → HasSources pass g state node (slice_index floor node) low →
      HasSources pass g state node (slice_index floor node) high
  sources_grow node low high more sources = record {
    own = λ above. omega (arith, sources.own above);
    edge = λ place other switch stands joins input cross above. omega (arith, sources.edge place other switch stands joins input cross above);
  }

-- a node is looked from at most once for each level and once more
looks_high : (entry : ℕ) (left : Bool) → looks entry left ≤ 17
looks_high entry true = omega arith
looks_high entry false = omega arith

-- so what is owed is at most so many looks from each node of the set
sum_below-times : (f : ℕ → ℕ) (count : ℕ) → sum_below (λ n. 17 * f n) count ≡ 17 * sum_below f count
sum_below-times f zero = omega arith
sum_below-times f (suc n) = omega (arith, sum_below-times f n)

when_times : (test : Bool) (a b c : ℕ) → a ≤ 17 * b → (if test then a else 0) ≤ 17 * (if test then b else 0)
when_times true a b c most = most
when_times false a b c most = omega arith

times_flip : (cost look : ℕ) → look ≤ 17 → cost * look ≤ 17 * cost
times_flip cost look most = omega (arith, mul-le-mul_left cost most)

pub owed_within : (lists : List LiveListData) (inside : List Bool) (table : List ℕ) (left : List Bool) →
    owed lists inside table left ≤ 17 * size_of lists inside
owed_within lists inside table left =
    let one : ℕ → ℕ = λ n. if slice_index_or inside n false then cost_at lists n else 0 in
    let all : ℕ → ℕ = λ n. if slice_index_or inside n false then cost_at lists n * looks (slice_index table n) (slice_index_or left n false) else 0 in
    let most = sum_below-most all (λ n. 17 * one n) (length inside) (λ n.
    when_times (slice_index_or inside n false) _ (cost_at lists n) 0 (times_flip (cost_at lists n) _ (looks_high (slice_index table n) (slice_index_or left n false)))) in
    omega (arith, most, sum_below-times one (length inside))

-- nodes that are listed once, all of them in a set, cost at most what the set costs
pub listed_cost : (f : ℕ → ℕ) (list : List ℕ) (i : ℕ) (inside : List Bool) → i ≤ length list → AreOnce list →
    ((j : ℕ) → j < i → IsIn inside (slice_index list j)) →
    sum_below (λ j. f (slice_index list j)) i ≤ sum_below (λ n. if slice_index_or inside n false then f n else 0) (length inside)
listed_cost f list zero inside within once are = omega arith
listed_cost f list (suc i) inside within once are =
    let node = slice_index list i in
    let is : IsIn inside node = are i (omega arith) in
    let less : List Bool = slice_set inside node false in
    let rest = listed_cost f list i less (omega (arith, within)) once (λ j before.
    marked-kept inside node (slice_index list j) false (once j i before (omega (arith, within))) (are j (omega (arith, before)))) in
    let one : ℕ → ℕ = λ n. if slice_index_or less n false then f n else 0 in
    let all : ℕ → ℕ = λ n. if slice_index_or inside n false then f n else 0 in
    let cleared : slice_index_or less node false ≡ false = get_or-set_same inside node false false (marked_inside inside node is) in
    let most : (n : ℕ) → one n ≤ all n = λ n. elim (cases_eq n node) [
      | inl same ↦ rw (same, cleared) (omega arith)
      | inr other ↦ rw (get_or-set_other inside node n false false other) (omega arith)
    ] in
    let at : one node + f node ≤ all node = rw (cleared, is) (omega arith) in
    let more = sum_below-less one all (length inside) node (f node) most (marked_inside inside node is) at in
    omega (arith, rest, more, ap (sum_below one) (length-set inside node false))

-- a sum with one term more
pub sum_below-more : (f : ℕ → ℕ) (n : ℕ) → sum_below f (n + 1) ≡ f n + sum_below f n
sum_below-more f n = let same : n + 1 ≡ suc n = omega arith in ap (sum_below f) same

-- equal terms have equal sums
pub sum_below-same : (f h : ℕ → ℕ) (count : ℕ) → ((n : ℕ) → n < count → f n ≡ h n) → sum_below f count ≡ sum_below h count
sum_below-same f h zero same = refl
sum_below-same f h (suc n) same = omega (arith, same n (omega arith), sum_below-same f h n (λ k inside. same k (omega (arith, inside))))
