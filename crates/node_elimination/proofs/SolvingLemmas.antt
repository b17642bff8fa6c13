-- One unknown is taken out, what is left is solved, and the unknown is read back.
-- a, x is the pool and the system at first; b, y once k was eliminated; c, z once what is left was solved; d, w once k was
-- read back.
use Rattle.std.proofs.Common.{◌≡◌, ◌≢◌, ℕ, ◌+◌, ◌<◌, ◌≤◌, ◌⊎◌, Bool, true, false, not, ◌&&◌, ◌==◌, eq-eqb, inl, inr, List, [], length, set, refl, sym, ap, ◌∙◌, true≢false, get_or-set_same, get_or-set_other, arith}
use Rattle.std.specs.Prelude.{◌↔◌, slice_index_or}
use Rattle.std.proofs.lemmas.Bool.{cases_eq}
use Rattle.std.proofs.lemmas.List.{set-set, set-get_or}
use Rattle.bool_pool.specs.declared.gate.Gate.{Gate}
use Rattle.node_elimination.specs.Solution.{Sol, without, edge_past, right_past}
use Rattle.node_elimination.specs.Solution.Sol.{begins, follows}
use Rattle.node_elimination.specs.Equations.{SystemData, IsSquare, formulas_of, edge_at, right_at, is_left, put_left, edge, right}
use Rattle.node_elimination.specs.Elimination.{Moves, PassesRows, Follows, Gathers, Solves}
use Rattle.node_elimination.proofs.SolutionLemmas.{or_either, both_parts, without-left, left-without, Sol-along, elimination_keeps}
use Rattle.node_elimination.proofs.EquationsLemmas.{IsWhole-put_left}
use Rattle.node_elimination.proofs.GrowthLemmas.{Extends-trans, Grows-trans}
use Rattle.node_elimination.proofs.PassingLemmas.{left-other, left-inside}

-- if nothing is left, the right sides are the solution
pub Solves-none : (gates : List Gate) (system : SystemData) → ((i : ℕ) → is_left system i ≡ false) →
    Solves gates system gates system
Solves-none gates system none = record {
  answers = λ vars i stays. absurd (true≢false (sym stays ∙ none i));
  edges = λ vars m n row column gone. refl;
  rights = λ vars m row gone. refl;
}

-- the unknown that was taken out isn't left
pub put_left-gone : (system : SystemData) (k : ℕ) → k < length system.left → is_left (put_left system k false) k ≡ false
put_left-gone system k inside = get_or-set_same system.left k false false inside

-- and all others are as left as they were
put_left-others : (system : SystemData) (k i : ℕ) (b : Bool) → i ≢ k → is_left (put_left system k b) i ≡ is_left system i
put_left-others system k i b other = get_or-set_other system.left k i b false other

-- taken out and put back, the unknown is left as it was
put_left-back : (system : SystemData) (k : ℕ) (flags : List Bool) → flags ≡ set system.left k false →
    is_left system k ≡ true → set flags k true ≡ system.left
put_left-back system k flags taken stays =
    ap (λ (l : List Bool). set l k true) taken ∙ set-set system.left k false true ∙ ap (λ b. set system.left k b) (sym stays)
    ∙ set-get_or system.left k false

module _ (a b c d : List Gate) (x y z w : SystemData) (k : ℕ) (square : IsSquare x) (stays : is_left x k ≡ true)
    (size_y : y.size ≡ x.size) (size_z : z.size ≡ y.size) (left_y : y.left ≡ (put_left x k false).left)
    (left_z : z.left ≡ y.left) (rows : PassesRows k x.size a (put_left x k false) b y) (solves : Solves b y c z)
    (gathers : Gathers k z.size c z d w)
  where
    -- k is one of the unknowns
    inside_k : k < x.size
    inside_k = left-inside x square k stays

    -- k isn't left when it was taken out
    gone_y : is_left y k ≡ false
    gone_y =
        let inside : k < length x.left = omega (arith, square.left, inside_k) in
        ap (λ (flags : List Bool). slice_index_or flags k false) left_y ∙ put_left-gone x k inside

    -- the others are as left as they were
    same_left : (i : ℕ) → i ≢ k → is_left y i ≡ is_left x i
    same_left i other = ap (λ (flags : List Bool). slice_index_or flags i false) left_y ∙ put_left-others x k i false other

    -- what is left then is what was left beside k
    beside : (i : ℕ) → is_left y i ≡ true → without (is_left x) k i ≡ true
    beside i left =
        let other : i ≢ k = left-other y i k left gone_y in
        left-without (is_left x) k i (sym (same_left i other) ∙ left) other

    -- an unknown beside k isn't k
    beside-other : (i : ℕ) → without (is_left x) k i ≡ true → i ≢ k
    beside-other i left same =
        let apart : not (i == k) ≡ true = (both_parts (is_left x i) (not (i == k)) left).1 in
        true≢false (sym apart ∙ ap not (eq-eqb i k same))

    left_beside : (i : ℕ) → without (is_left x) k i ≡ true → is_left y i ≡ true
    left_beside i left = same_left i (beside-other i left) ∙ without-left (is_left x) k i left

    module _ (vars : ℕ → Bool) where
      -- the unknown is true in the whole system; past k; and in the system that is left
      abbrev Whole : ℕ → Type 0
      Whole i = Sol (is_left x) (edge a x vars) (right a x vars) i

      abbrev Past : ℕ → Type 0
      Past i = Sol (without (is_left x) k) (edge_past (edge a x vars) k) (right_past (edge a x vars) (right a x vars) k) i

      abbrev Smaller : ℕ → Type 0
      Smaller i = Sol (is_left y) (edge b y vars) (right b y vars) i

      -- what is left in the smaller system was left, and is one of its unknowns
      was_left : (i : ℕ) → is_left y i ≡ true → is_left (put_left x k false) i ≡ true
      was_left i left = sym (ap (λ (flags : List Bool). slice_index_or flags i false) left_y) ∙ left

      was_inside : (i : ℕ) → is_left y i ≡ true → i < x.size
      was_inside i left = left-inside x square i (without-left (is_left x) k i (beside i left))

      -- its edges and right sides are those past k
      edge_is : (i j : ℕ) → is_left y i ≡ true → is_left y j ≡ true → edge b y vars i j ≡ edge_past (edge a x vars) k i j
      unfolding edge_at
      edge_is i j left_i left_j = rows.edges vars i j (was_inside i left_i) (was_left i left_i) (was_left j left_j)

      right_is : (i : ℕ) → is_left y i ≡ true → right b y vars i ≡ right_past (edge a x vars) (right a x vars) k i
      unfolding edge_at right_at
      right_is i left_i = rows.rights vars i (was_inside i left_i) (was_left i left_i)

      -- so the smaller system has the solution past k
      smaller_past : (i : ℕ) → is_left y i ≡ true → Smaller i → Past i
      smaller_past i left =
          Sol-along (is_left y) (without (is_left x) k) (edge b y vars) (edge_past (edge a x vars) k) (right b y vars)
          (right_past (edge a x vars) (right a x vars) k) beside (λ m n left_m left_n set. sym (edge_is m n left_m left_n)
          ∙ set)
          (λ m left_m set. sym (right_is m left_m) ∙ set) i left

      past_smaller : (i : ℕ) → without (is_left x) k i ≡ true → Past i → Smaller i
      past_smaller i left =
          Sol-along (without (is_left x) k) (is_left y) (edge_past (edge a x vars) k) (edge b y vars)
          (right_past (edge a x vars) (right a x vars) k)
          (right b y vars) left_beside (λ m n left_m left_n set. edge_is m n (left_beside m left_m) (left_beside n left_n)
          ∙ set)
          (λ m left_m set. right_is m (left_beside m left_m) ∙ set) i left

      -- past k the solution is that of the whole system
      whole_past : (i : ℕ) → Whole i ↔ Past i
      whole_past i = elimination_keeps (is_left x) (edge a x vars) (right a x vars) k i stays

      -- row k stands still, from the time when it was taken out
      row_k : (j : ℕ) → j < x.size → edge c z vars k j ≡ edge a x vars k j
      unfolding edge_at
      row_k j inside =
          solves.edges vars k j (omega (arith, inside_k)) (omega arith) gone_y
          ∙ rows.other_edges vars k j inside_k inside
          (inr (sym (ap (λ (flags : List Bool). slice_index_or flags k false) left_y) ∙ gone_y))

      right_k : right c z vars k ≡ right a x vars k
      unfolding right_at
      right_k =
          solves.rights vars k (omega (arith, inside_k)) gone_y
          ∙ rows.other_rights vars k inside_k
          (inr (sym (ap (λ (flags : List Bool). slice_index_or flags k false) left_y) ∙ gone_y))

      -- what is read back for k is true where k is
      read_whole : right d w vars k ≡ true → Whole k
      read_whole set =
          elim ((gathers.gathered vars).0 set) [
            | inl own ↦ begins (sym right_k ∙ own)
            | inr next ↦
                let left : is_left y next.j ≡ true = sym (ap (λ (flags : List Bool). slice_index_or flags next.j false) left_z)
                ∙ next.left in
                let inside : next.j < x.size = was_inside next.j left in
                let smaller : Smaller next.j = (solves.answers vars next.j left).0 next.right_set in
                let whole : Whole next.j = (whole_past next.j).1 (smaller_past next.j left smaller) in
                follows next.j (without-left (is_left x) k next.j (beside next.j left))
                (sym (row_k next.j inside) ∙ next.edge_set) whole
          ]

      -- one step from k past k
      from_past : Past k → (right c z vars k ≡ true) ⊎ Follows k z.size c z vars
      from_past (begins set) =
          elim (or_either (right a x vars k) (edge a x vars k k && right a x vars k) set) [
            | inl own ↦ inl (right_k ∙ own)
            | inr by_k ↦ inl (right_k ∙ (both_parts (edge a x vars k k) (right a x vars k) by_k).1)
          ]
      from_past (follows j left joined past) =
          let left_y_j : is_left y j ≡ true = left_beside j left in
          let inside : j < x.size = was_inside j left_y_j in
          let own : edge a x vars k j ≡ true =
          elim (or_either (edge a x vars k j) (edge a x vars k k && edge a x vars k j) joined) [
            | inl direct ↦ direct
            | inr by_k ↦ (both_parts (edge a x vars k k) (edge a x vars k j) by_k).1
          ] in
          inr (record {
            j = j;
            below = omega arith;
            left = ap (λ (flags : List Bool). slice_index_or flags j false) left_z ∙ left_y_j;
            edge_set = row_k j inside ∙ own;
            right_set = (solves.answers vars j left_y_j).1 (past_smaller j left past);
          })

      -- and where k is true, so is what is read back
      whole_read : Whole k → right d w vars k ≡ true
      whole_read whole = (gathers.gathered vars).1 (from_past ((whole_past k).0 whole))

      -- what is left beside k keeps its answer
      answer : (i : ℕ) → is_left x i ≡ true → (right d w vars i ≡ true) ↔ Whole i
      answer i left =
          elim (cases_eq i k) [
            | inl same ↦ rw same (read_whole, whole_read)
            | inr other ↦
                let left_i : is_left y i ≡ true = same_left i other ∙ left in
                let inside : i < x.size = was_inside i left_i in
                let kept : right d w vars i ≡ right c z vars i = gathers.rights vars i (omega arith) other in (
                  (λ set. (whole_past i).1 (smaller_past i left_i ((solves.answers vars i left_i).0 (sym kept ∙ set)))),
                  (λ whole. kept ∙ (solves.answers vars i left_i).1
                      (past_smaller i (beside i left_i) ((whole_past i).0 whole))),
                )
          ]

    -- what wasn't left isn't k, and stays gone
    gone_other : (m : ℕ) → is_left x m ≡ false → m ≢ k
    gone_other m gone same = true≢false (sym stays ∙ sym (ap (is_left x) same) ∙ gone)

    still_gone : (m : ℕ) → is_left x m ≡ false → is_left y m ≡ false
    still_gone m gone = same_left m (gone_other m gone) ∙ gone

    was_gone : (m : ℕ) → is_left x m ≡ false → is_left (put_left x k false) m ≡ false
    was_gone m gone = put_left-others x k m false (gone_other m gone) ∙ gone

    -- one unknown more is solved
    pub Solves-step : Solves a x d (put_left w k true)
    unfolding edge_at right_at
    Solves-step = record {
      answers = λ vars i left. answer vars i left;
      edges = λ vars m n row column gone.
          gathers.edges vars m n (omega arith) (omega arith)
          ∙ solves.edges vars m n (omega arith) (omega arith) (still_gone m gone)
          ∙ rows.other_edges vars m n row column (inr (was_gone m gone));
      rights = λ vars m row gone.
          gathers.rights vars m (omega arith) (gone_other m gone)
          ∙ solves.rights vars m (omega arith) (still_gone m gone)
          ∙ rows.other_rights vars m row (inr (was_gone m gone));
    }

    -- and the system is whole again, with what all three took
    pub Moves-step : (one two three count : ℕ) → Moves [] a (put_left x k false) b y one → Moves [] b y c z two →
        Moves [] c z d w three →
        one + two + three ≤ count → Moves [] a x d (put_left w k true) count
    Moves-step one two three count first second third sum = record {
      extends = Extends-trans a c d (Extends-trans a b c first.extends second.extends) third.extends;
      whole = IsWhole-put_left d w k true third.whole;
      size = third.size ∙ second.size ∙ first.size;
      left = put_left-back x k w.left (third.left ∙ second.left ∙ first.left) stays;
      grows = Grows-trans a c d (formulas_of x) (formulas_of z) (formulas_of w) (one + two) three count
          (Grows-trans a b c (formulas_of x) (formulas_of y) (formulas_of z) one two (one + two) first.grows second.grows
          (omega arith)) third.grows sum;
    }
