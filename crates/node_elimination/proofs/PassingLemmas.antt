-- What is done to the values of a system, one edge or right side after the other.
use Rattle.std.proofs.Common.{◌≡◌, ◌≢◌, ℕ, ◌+◌, ◌<◌, ◌≤◌, ◌⊎◌, Bool, true, false, ◌&&◌, ◌||◌, inl, inr, List, length, refl, sym, ap, ◌∙◌, true≢false, arith}
use Rattle.std.specs.Prelude.{slice_index_or}
use Rattle.std.proofs.lemmas.Bool.{cases_eq, cases_lt}
use Rattle.std.proofs.lemmas.List.{get_or_past}
use Rattle.bool_pool.specs.declared.gate.Gate.{Gate}
use Rattle.bool_pool.specs.declared.gate.Id.{Id}
use Rattle.bool_pool.specs.Gate.{Extends}
use Rattle.bool_pool.specs.Value.{value_at}
use Rattle.node_elimination.specs.Solution.{edge_past, right_past}
use Rattle.node_elimination.specs.Equations.{SystemData, IsSquare, IsWhole, is_left, put_edge, put_right, edge, right}
use Rattle.node_elimination.specs.Elimination.{PassesEdge, PassesEdges, PassesRow, PassesRows, PutsRight, with_next, Follows, Gathers}
use Rattle.node_elimination.proofs.SolutionLemmas.{or_either, or_first, or_second, and_both, both_parts}
use Rattle.node_elimination.proofs.EquationsLemmas.{edge-extends, right-extends, edge_at-put_same, edge_at-put_other, right_at-put_edge, right_at-put_same, right_at-put_other, edge_at-put_right}

-- what comes from an unknown that is left
pub with_next-left : (gates : List Gate) (system : SystemData) (vars : ℕ → Bool) (k j : ℕ) → is_left system j ≡ true →
    (right gates system vars k || (edge gates system vars k j && right gates system vars j))
    ≡ with_next gates system vars k j
with_next-left gates system vars k j stays =
    ap (λ b. right gates system vars k || (b && (edge gates system vars k j && right gates system vars j))) (sym stays)

-- nothing comes through what is false
or_and-false : (a b c : Bool) → c ≡ false → a ≡ (a || (b && c))
or_and-false true b c none = refl
or_and-false false true c none = sym none
or_and-false false false c none = refl

or_and-false_first : (a b c : Bool) → b ≡ false → a ≡ (a || (b && c))
or_and-false_first true b c none = refl
or_and-false_first false true c none = absurd cc
or_and-false_first false false c none = refl

-- an unknown that is left isn't one that is gone
pub left-other : (system : SystemData) (i k : ℕ) → is_left system i ≡ true → is_left system k ≡ false → i ≢ k
left-other system i k stays gone same = true≢false (sym stays ∙ ap (is_left system) same ∙ gone)

module _ (before : List Gate) (old : SystemData) (after : List Gate) (whole : IsWhole before old)
    (extends : Extends before after) where
  -- the edges and right sides of a system that isn't changed
  module _ (k i j : ℕ) where
    -- an edge to what isn't left, or where no edge leads on from k, stays
    pub PassesEdge-skip : is_left old j ≡ false → PassesEdge k i j before old before old
    PassesEdge-skip gone = record {
      here = λ vars stays. absurd (true≢false (sym stays ∙ gone));
      skipped = λ vars none. refl;
      others = λ vars m n row column apart. refl;
      rights = λ vars m row. refl;
    }

    pub PassesEdge-false : ((vars : ℕ → Bool) → edge before old vars k j ≡ false) → PassesEdge k i j before old before old
    PassesEdge-false none = record {
      here = λ vars stays. or_and-false (edge before old vars i j) (edge before old vars i k) (edge before old vars k j)
          (none vars);
      skipped = λ vars gone. refl;
      others = λ vars m n row column apart. refl;
      rights = λ vars m row. refl;
    }

    -- the edge that leads past k as well is put
    pub PassesEdge-put : (id : Id) → i < old.size → j < old.size → is_left old j ≡ true →
        ((vars : ℕ → Bool) → value_at after vars id.place ≡ edge_past (edge before old vars) k i j) →
        PassesEdge k i j before old after (put_edge old i j id)
    PassesEdge-put id row column stays says = record {
      here = λ vars left. ap (value_at after vars) (edge_at-put_same old whole.square i j id row column) ∙ says vars;
      skipped = λ vars gone. absurd (true≢false (sym stays ∙ gone));
      others = λ vars m n inside_m inside_n apart.
          ap (value_at after vars) (edge_at-put_other old i j m n id column inside_n apart)
          ∙ edge-extends before after old extends whole vars m n inside_m inside_n;
      rights = λ vars m inside.
          ap (value_at after vars) (right_at-put_edge old i j m id)
          ∙ right-extends before after old extends whole vars m inside;
    }

  -- a right side of this value is put
  pub PutsRight-put : (i : ℕ) (id : Id) (meaning : (ℕ → Bool) → Bool) → i < old.size →
      ((vars : ℕ → Bool) → value_at after vars id.place ≡ meaning vars) →
      PutsRight i meaning before old after (put_right old i id)
  PutsRight-put i id meaning row says = record {
    here = λ vars. ap (value_at after vars) (right_at-put_same old whole.square i id row) ∙ says vars;
    edges = λ vars m n inside_m inside_n.
        ap (value_at after vars) (edge_at-put_right old i m n id)
        ∙ edge-extends before after old extends whole vars m n inside_m inside_n;
    others = λ vars m inside other.
        ap (value_at after vars) (right_at-put_other old i m id other)
        ∙ right-extends before after old extends whole vars m inside;
  }

  -- nothing comes from j if it isn't left or no edge leads to it
  pub PutsRight-skip : (k j : ℕ) → ((vars : ℕ → Bool) → (is_left old j && edge before old vars k j) ≡ false) →
      PutsRight k (λ vars. with_next before old vars k j) before old before old
  PutsRight-skip k j none = record {
    here = λ vars. nothing (right before old vars k) (is_left old j) (edge before old vars k j) (right before old vars j)
        (none vars);
    edges = λ vars m n inside_m inside_n. refl;
    others = λ vars m inside other. refl;
  }
    where
      nothing : (a b c d : Bool) → (b && c) ≡ false → a ≡ (a || (b && (c && d)))
      nothing true b c d neither = refl
      nothing false true true d neither = absurd cc
      nothing false true false d neither = refl
      nothing false false c d neither = refl

-- the same right side, by another name of its value
pub PutsRight-same : (i : ℕ) (meaning other : (ℕ → Bool) → Bool) (before after : List Gate) (old new : SystemData) →
    ((vars : ℕ → Bool) → meaning vars ≡ other vars) → PutsRight i meaning before old after new →
    PutsRight i other before old after new
PutsRight-same i meaning other before after old new same puts = record {
  here = λ vars. puts.here vars ∙ same vars;
  edges = puts.edges;
  others = puts.others;
}

-- no edge of the row was passed yet
pub PassesEdges-none : (k i : ℕ) (gates : List Gate) (system : SystemData) → PassesEdges k i 0 gates system gates system
PassesEdges-none k i gates system = record {
  done = λ vars j below stays. absurd (omega arith);
  rest = λ vars m n row column apart. refl;
  rights = λ vars m row. refl;
}

-- one edge more
pub PassesEdges-more : (k i count : ℕ) (a b c : List Gate) (x y z : SystemData) → k < x.size → i < x.size → count < x.size →
    i ≢ k →
    is_left x k ≡ false → y.size ≡ x.size → y.left ≡ x.left → PassesEdges k i count a x b y → PassesEdge k i count b y c z →
    PassesEdges k i (count + 1) a x c z
PassesEdges-more k i count a b c x y z inside_k inside_i inside_count other gone size left so_far next = record {
  done = done;
  rest = rest;
  rights = λ vars m row. next.rights vars m (omega arith) ∙ so_far.rights vars m row;
}
  where
    same_left : (n : ℕ) → is_left y n ≡ is_left x n
    same_left n = ap (λ (flags : List Bool). slice_index_or flags n false) left

    here : (vars : ℕ → Bool) → is_left x count ≡ true → edge c z vars i count ≡ edge_past (edge a x vars) k i count
    here vars stays =
        let own : edge b y vars i count ≡ edge a x vars i count =
        so_far.rest vars i count inside_i inside_count (inr (inl (omega arith))) in
        let to_k : edge b y vars i k ≡ edge a x vars i k = so_far.rest vars i k inside_i inside_k (inr (inr gone)) in
        let from_k : edge b y vars k count ≡ edge a x vars k count =
        so_far.rest vars k count inside_k inside_count (inl (λ same. other (sym same))) in
        next.here vars (same_left count ∙ stays)
        ∙ ap (λ e. e || (edge b y vars i k && edge b y vars k count)) own
        ∙ ap (λ e. edge a x vars i count || (e && edge b y vars k count)) to_k
        ∙ ap (λ e. edge a x vars i count || (edge a x vars i k && e)) from_k

    done : (vars : ℕ → Bool) (j : ℕ) → j < count + 1 → is_left x j ≡ true →
        edge c z vars i j ≡ edge_past (edge a x vars) k i j
    done vars j below stays =
        elim (cases_eq j count) [
          | inl same ↦ rw same (here vars (sym (ap (is_left x) same) ∙ stays))
          | inr apart ↦ next.others vars i j (omega arith) (omega arith) (inr apart) ∙ so_far.done vars j (omega arith) stays
        ]

    rest : (vars : ℕ → Bool) (m n : ℕ) → m < x.size → n < x.size → ((m ≢ i) ⊎ ((count + 1 ≤ n) ⊎ (is_left x n ≡ false))) →
        edge c z vars m n ≡ edge a x vars m n
    rest vars m n row column (inl other_row) =
        next.others vars m n (omega arith) (omega arith) (inl other_row) ∙ so_far.rest vars m n row column (inl other_row)
    rest vars m n row column (inr (inl later)) =
        next.others vars m n (omega arith) (omega arith) (inr (omega arith))
        ∙ so_far.rest vars m n row column (inr (inl (omega arith)))
    rest vars m n row column (inr (inr none)) =
        elim (cases_eq n count) [
          | inl same ↦
              elim (cases_eq m i) [
                | inl same_row ↦
                    rw (same, same_row)
                    (next.skipped vars (same_left count ∙ sym (ap (is_left x) same) ∙ none)
                    ∙ so_far.rest vars i count inside_i inside_count (inr (inl (omega arith))))
                | inr other_row ↦ next.others vars m n (omega arith) (omega arith) (inl other_row)
                    ∙ so_far.rest vars m n row column (inl other_row)
              ]
          | inr apart ↦ next.others vars m n (omega arith) (omega arith) (inr apart)
              ∙ so_far.rest vars m n row column (inr (inr none))
        ]

-- an unknown is as left as in a system with the same unknowns left
pub left-same : (y x : SystemData) (i : ℕ) → y.left ≡ x.left → is_left y i ≡ is_left x i
left-same y x i left = ap (λ (flags : List Bool). slice_index_or flags i false) left

-- what isn't left isn't so in a system with the same unknowns left
pub gone-same : (x y : SystemData) (j k : ℕ) → y.left ≡ x.left → j ≡ k → is_left x k ≡ false → is_left y j ≡ false
gone-same x y j k left same gone = ap (λ (flags : List Bool). slice_index_or flags j false) left ∙ ap (is_left x) same ∙ gone

-- what is left is one of the unknowns
pub left-inside : (system : SystemData) → IsSquare system → (i : ℕ) → is_left system i ≡ true → i < system.size
left-inside system square i stays =
    elim (cases_lt i (length system.left)) [
      | inl inside ↦ omega (arith, square.left)
      | inr past ↦ absurd (true≢false (sym stays ∙ get_or_past system.left i false past))
    ]

-- a row of what isn't left stays
pub PassesRow-skip : (k i : ℕ) (gates : List Gate) (system : SystemData) → is_left system i ≡ false →
    PassesRow k i gates system gates system
PassesRow-skip k i gates system gone = record {
  edges = λ vars j left stays. absurd (true≢false (sym left ∙ gone));
  right_side = λ vars left. absurd (true≢false (sym left ∙ gone));
  other_edges = λ vars m n row column apart. refl;
  other_rights = λ vars m row apart. refl;
}

-- and so does a row without an edge to k
pub PassesRow-false : (k i : ℕ) (gates : List Gate) (system : SystemData) →
    ((vars : ℕ → Bool) → edge gates system vars i k ≡ false) →
    PassesRow k i gates system gates system
PassesRow-false k i gates system none = record {
  edges = λ vars j left stays. or_and-false_first (edge gates system vars i j) (edge gates system vars i k)
      (edge gates system vars k j) (none vars);
  right_side = λ vars left. or_and-false_first (right gates system vars i) (edge gates system vars i k)
      (right gates system vars k) (none vars);
  other_edges = λ vars m n row column apart. refl;
  other_rights = λ vars m row apart. refl;
}

-- a row whose edges and right side were passed
pub PassesRow-passed : (k i : ℕ) (a b c : List Gate) (x y z : SystemData) → IsSquare x → k < x.size → i < x.size →
    is_left x k ≡ false → is_left x i ≡ true → y.size ≡ x.size → PassesEdges k i x.size a x b y →
    PutsRight i (λ vars. right_past (edge b y vars) (right b y vars) k i) b y c z → PassesRow k i a x c z
PassesRow-passed k i a b c x y z square inside_k inside_i gone stays size edges last = record {
  edges = λ vars j left_i left_j.
      let inside : j < x.size = left-inside x square j left_j in
      last.edges vars i j (omega arith) (omega arith) ∙ edges.done vars j inside left_j;
  right_side = λ vars left_i.
      last.here vars
      ∙ ap (λ e. e || (edge b y vars i k && right b y vars k)) (edges.rights vars i inside_i)
      ∙ ap (λ e. right a x vars i || (e && right b y vars k)) (edges.rest vars i k inside_i inside_k (inr (inr gone)))
      ∙ ap (λ e. right a x vars i || (edge a x vars i k && e)) (edges.rights vars k inside_k);
  other_edges = λ vars m n row column apart.
      last.edges vars m n (omega arith) (omega arith) ∙ edges.rest vars m n row column (inl (another m apart));
  other_rights = λ vars m row apart. last.others vars m (omega arith) (another m apart) ∙ edges.rights vars m row;
}
  where
    another : (m : ℕ) → ((m ≢ i) ⊎ (is_left x m ≡ false)) → m ≢ i
    another m (inl other) = other
    another m (inr none) = λ same. true≢false (sym stays ∙ sym (ap (is_left x) same) ∙ none)

-- no row was passed yet
pub PassesRows-none : (k : ℕ) (gates : List Gate) (system : SystemData) → PassesRows k 0 gates system gates system
PassesRows-none k gates system = record {
  edges = λ vars i j below left_i left_j. absurd (omega arith);
  rights = λ vars i below left_i. absurd (omega arith);
  other_edges = λ vars m n row column apart. refl;
  other_rights = λ vars m row apart. refl;
}

-- one row more
pub PassesRows-more : (k count : ℕ) (a b c : List Gate) (x y z : SystemData) → IsSquare x → k < x.size → count < x.size →
    is_left x k ≡ false →
    y.size ≡ x.size → y.left ≡ x.left → PassesRows k count a x b y → PassesRow k count b y c z →
    PassesRows k (count + 1) a x c z
PassesRows-more k count a b c x y z square inside_k inside gone size left so_far next = record {
  edges = edges;
  rights = rights;
  other_edges = λ vars m n row column apart.
      next.other_edges vars m n (omega arith) (omega arith) (later_next m apart)
      ∙ so_far.other_edges vars m n row column (later m apart);
  other_rights = λ vars m row apart.
      next.other_rights vars m (omega arith) (later_next m apart) ∙ so_far.other_rights vars m row (later m apart);
}
  where
    same_left : (n : ℕ) → is_left y n ≡ is_left x n
    same_left n = ap (λ (flags : List Bool). slice_index_or flags n false) left

    later : (m : ℕ) → ((count + 1 ≤ m) ⊎ (is_left x m ≡ false)) → ((count ≤ m) ⊎ (is_left x m ≡ false))
    later m (inl after) = inl (omega arith)
    later m (inr none) = inr none

    later_next : (m : ℕ) → ((count + 1 ≤ m) ⊎ (is_left x m ≡ false)) → ((m ≢ count) ⊎ (is_left y m ≡ false))
    later_next m (inl after) = inl (omega arith)
    later_next m (inr none) = inr (same_left m ∙ none)

    edges : (vars : ℕ → Bool) (i j : ℕ) → i < count + 1 → is_left x i ≡ true → is_left x j ≡ true →
        edge c z vars i j ≡ edge_past (edge a x vars) k i j
    edges vars i j below left_i left_j =
        let inside_j : j < x.size = left-inside x square j left_j in
        elim (cases_eq i count) [
          | inl same ↦
              let left_count : is_left x count ≡ true = sym (ap (is_left x) same) ∙ left_i in
              rw same
              (next.edges vars j (same_left count ∙ left_count) (same_left j ∙ left_j)
              ∙ ap (λ e. e || (edge b y vars count k && edge b y vars k j))
              (so_far.other_edges vars count j inside inside_j (inl (omega arith)))
              ∙ ap (λ e. edge a x vars count j || (e && edge b y vars k j))
              (so_far.other_edges vars count k inside inside_k (inl (omega arith)))
              ∙ ap (λ e. edge a x vars count j || (edge a x vars count k && e))
              (so_far.other_edges vars k j inside_k inside_j (inr gone)))
          | inr other ↦
              let before : i < count = omega arith in
              next.other_edges vars i j (omega arith) (omega arith) (inl other) ∙ so_far.edges vars i j before left_i left_j
        ]

    rights : (vars : ℕ → Bool) (i : ℕ) → i < count + 1 → is_left x i ≡ true →
        right c z vars i ≡ right_past (edge a x vars) (right a x vars) k i
    rights vars i below left_i =
        elim (cases_eq i count) [
          | inl same ↦
              let left_count : is_left x count ≡ true = sym (ap (is_left x) same) ∙ left_i in
              rw same
              (next.right_side vars (same_left count ∙ left_count)
              ∙ ap (λ e. e || (edge b y vars count k && right b y vars k))
              (so_far.other_rights vars count inside (inl (omega arith)))
              ∙ ap (λ e. right a x vars count || (e && right b y vars k))
              (so_far.other_edges vars count k inside inside_k (inl (omega arith)))
              ∙ ap (λ e. right a x vars count || (edge a x vars count k && e))
              (so_far.other_rights vars k inside_k (inr gone)))
          | inr other ↦
              let before : i < count = omega arith in
              next.other_rights vars i (omega arith) (inl other) ∙ so_far.rights vars i before left_i
        ]

-- nothing was gathered yet
pub Gathers-none : (k : ℕ) (gates : List Gate) (system : SystemData) → Gathers k 0 gates system gates system
Gathers-none k gates system = record {
  gathered = λ vars. (
    (λ set. inl set),
    (λ either. elim either [ inl set ↦ set | inr follows ↦ absurd (omega (arith, follows.below)) ]),
  );
  edges = λ vars m n row column. refl;
  rights = λ vars m row other. refl;
}

-- one unknown more
pub Gathers-more : (k count : ℕ) (a b c : List Gate) (x y z : SystemData) → k < x.size → count < x.size →
    is_left x k ≡ false →
    y.size ≡ x.size → y.left ≡ x.left → Gathers k count a x b y → PutsRight k (λ vars. with_next b y vars k count) b y c z →
    Gathers k (count + 1) a x c z
Gathers-more k count a b c x y z inside_k inside gone size left so_far next = record {
  gathered = λ vars. (forth vars, back vars);
  edges = λ vars m n row column. next.edges vars m n (omega arith) (omega arith) ∙ so_far.edges vars m n row column;
  rights = λ vars m row other. next.others vars m (omega arith) other ∙ so_far.rights vars m row other;
}
  where
    same_left : (n : ℕ) → is_left y n ≡ is_left x n
    same_left n = ap (λ (flags : List Bool). slice_index_or flags n false) left

    more : (vars : ℕ → Bool) → ((right a x vars k ≡ true) ⊎ Follows k count a x vars) →
        (right a x vars k ≡ true) ⊎ Follows k (count + 1) a x vars
    more vars (inl set) = inl set
    more vars (inr follows) = inr (record {
      j = follows.j;
      below = omega (arith, follows.below);
      left = follows.left;
      edge_set = follows.edge_set;
      right_set = follows.right_set;
    })

    forth : (vars : ℕ → Bool) → right c z vars k ≡ true → (right a x vars k ≡ true) ⊎ Follows k (count + 1) a x vars
    forth vars set =
        elim (or_either (right b y vars k) (is_left y count && (edge b y vars k count && right b y vars count))
        (sym (next.here vars) ∙ set)) [
          | inl so_set ↦ more vars ((so_far.gathered vars).0 so_set)
          | inr now ↦
              let first = both_parts (is_left y count) (edge b y vars k count && right b y vars count) now in
              let second = both_parts (edge b y vars k count) (right b y vars count) first.1 in
              let stays : is_left x count ≡ true = sym (same_left count) ∙ first.0 in
              inr (record {
                j = count;
                below = omega arith;
                left = stays;
                edge_set = sym (so_far.edges vars k count inside_k inside) ∙ second.0;
                right_set = sym (so_far.rights vars count inside (left-other x count k stays gone)) ∙ second.1;
              })
        ]

    last : (vars : ℕ → Bool) (j : ℕ) → j ≡ count → is_left x j ≡ true → edge a x vars k j ≡ true → right a x vars j ≡ true →
        right c z vars k ≡ true
    last vars j same stays joined set =
        let here : is_left x count ≡ true = sym (ap (is_left x) same) ∙ stays in
        let joined_here : edge b y vars k count ≡ true =
        so_far.edges vars k count inside_k inside ∙ sym (ap (edge a x vars k) same) ∙ joined in
        let set_here : right b y vars count ≡ true =
        so_far.rights vars count inside (left-other x count k here gone) ∙ sym (ap (right a x vars) same) ∙ set in
        next.here vars
        ∙ or_second (right b y vars k) (is_left y count && (edge b y vars k count && right b y vars count))
        (and_both (is_left y count) (edge b y vars k count && right b y vars count) (same_left count ∙ here)
        (and_both (edge b y vars k count) (right b y vars count) joined_here set_here))

    back : (vars : ℕ → Bool) → ((right a x vars k ≡ true) ⊎ Follows k (count + 1) a x vars) → right c z vars k ≡ true
    back vars (inl set) =
        next.here vars ∙ or_first (right b y vars k) (is_left y count && (edge b y vars k count && right b y vars count))
        ((so_far.gathered vars).1 (inl set))
    back vars (inr follows) =
        elim (cases_eq follows.j count) [
          | inl same ↦ last vars follows.j same follows.left follows.edge_set follows.right_set
          | inr other ↦
              let earlier : Follows k count a x vars = record {
                j = follows.j;
                below = omega (arith, follows.below);
                left = follows.left;
                edge_set = follows.edge_set;
                right_set = follows.right_set;
              } in
              next.here vars
              ∙ or_first (right b y vars k) (is_left y count && (edge b y vars k count && right b y vars count))
              ((so_far.gathered vars).1 (inr earlier))
        ]
