-- The bases of a level's system, and the level solved over them.
use Rattle.std.proofs.Common.{◌≡◌, ◌≢◌, ℕ, ◌+◌, ◌*◌, ◌<◌, ◌≤◌, Bool, true, false, ◌&&◌, ◌||◌, ◌==◌, eq-eqb, if◌then◌else◌, inl, inr, List, [], ◌∷◌, ◌++◌, length, replicate, refl, sym, ap, ◌∙◌, subst, append_assoc, arith}
use Rattle.std.specs.Prelude.{All, slice_index_or}
use Rattle.std.proofs.lemmas.Bool.{cases_eq, ne_eqb}
use Rattle.std.proofs.lemmas.List.{length-append, length-replicate, get_or-replicate}
use Rattle.std.proofs.lemmas.List.Elements.{All-append, All-replicate, All-from_get_or}
use Rattle.std.proofs.lemmas.Nat.{mul-add-lt}
use Rattle.switch_paths.specs.Graphs.{GraphData, nodes, level_of}
use Rattle.bool_pool.specs.declared.gate.Gate.{Gate}
use Rattle.bool_pool.specs.declared.gate.Id.{Id}
use Rattle.bool_pool.specs.Gate.{Extends}
use Rattle.bool_pool.specs.Value.{value_at}
use Rattle.bool_pool.specs.Reach.{IsWithin}
use Rattle.bool_pool.specs.Made.{IsFormed}
use Rattle.bool_pool.proofs.WithinLemmas.{IsGrown-within}
use Rattle.node_elimination.specs.Growth.{place_of, AreWithin, AreGrown, Grows}
use Rattle.node_elimination.specs.Equations.{SystemData, IsSquare, IsWhole, formulas_of, edge_at, right_at, is_left, all_reset, put_right, edge, right}
use Rattle.node_elimination.specs.Elimination.{Moves, PutsRight, PutsRights}
use Rattle.node_elimination.specs.LevelSystem.{value_of, FitLinks, IsConstant, driven_base, IsFresh, IsPlace, SolvesLevel}
use Rattle.node_elimination.proofs.GrowthLemmas.{All-front, All-back}
use Rattle.node_elimination.proofs.EquationsLemmas.{right_at-put_same, right_at-put_other}
use Rattle.node_elimination.proofs.LinkLemmas.{value_of-extends, gate_same, pass_same, source_same}
use Rattle.node_elimination.proofs.AlongLinks.{Link-along, Fed-along}

-- what holds of the one formula that stands for each edge, and of each right side, holds of all formulas
formulas-all : (P : ℕ → Type 0) (system : SystemData) (falsehood : Id) (count : ℕ) →
    system.edges ≡ replicate count falsehood → IsSquare system → P falsehood.place →
    ((i : ℕ) → i < system.size → P (right_at system i)) → All (λ id. P id.place) (formulas_of system)
unfolding right_at
formulas-all P system falsehood count edges square here rights =
    All-append (λ id. P id.place) system.edges system.rights
    (rw edges (All-replicate (λ id. P id.place) count falsehood here))
    (All-from_get_or (λ id. P id.place) system.rights (record { place = 0 })
    (λ i inside. rights i (omega (arith, square.rights))))

-- each edge has the value of that formula
edge-all : (gates : List Gate) (system : SystemData) (falsehood : Id) (count : ℕ) →
    system.edges ≡ replicate count falsehood → IsSquare system → (vars : ℕ → Bool) (i j : ℕ) →
    i < system.size → j < system.size → edge gates system vars i j ≡ value_at gates vars falsehood.place
unfolding edge_at
edge-all gates system falsehood count edges square vars i j row column =
    let index : i * system.size + j < count =
    omega (
      arith,
      mul-add-lt i system.size j system.size row column,
      square.edges,
      ap length edges,
      length-replicate count falsehood,
    ) in
    ap (value_at gates vars) (ap (λ ids. place_of ids (i * system.size + j)) edges
    ∙ ap (λ id. id.place) (get_or-replicate count (i * system.size + j) falsehood (record { place = 0 }) index))

-- a system whose edges are false and whose right sides are formulas is whole and fresh
pub IsWhole-bases : (gates : List Gate) (system : SystemData) (falsehood : Id) (count : ℕ) →
    system.edges ≡ replicate count falsehood → IsSquare system →
    IsConstant false gates falsehood → ((i : ℕ) → i < system.size → right_at system i < length gates) → IsWhole gates system
IsWhole-bases gates system falsehood count edges square constant rights = record {
  square = square;
  formulas = formulas-all (λ p. p < length gates) system falsehood count edges square constant.inside rights;
}

pub IsFresh-bases : (gates : List Gate) (system : SystemData) (falsehood : Id) (count : ℕ) →
    system.edges ≡ replicate count falsehood → IsSquare system →
    IsConstant false gates falsehood → ((i : ℕ) → i < system.size → is_left system i ≡ true) → IsFresh gates system
IsFresh-bases gates system falsehood count edges square constant left = record {
  no_edges = λ vars i j row column. edge-all gates system falsehood count edges square vars i j row column
      ∙ constant.value_is vars;
  all_left = left;
}

-- a system that was reset is square, and its right sides are that formula
pub IsSquare-reset : (system : SystemData) (falsehood : Id) → IsSquare system → IsSquare (all_reset system falsehood)
IsSquare-reset system falsehood square = record {
  edges = length-replicate (length system.edges) falsehood ∙ square.edges;
  rights = length-replicate (length system.rights) falsehood ∙ square.rights;
  left = square.left;
}

pub right_at-reset : (system : SystemData) (falsehood : Id) (i : ℕ) → IsSquare system → i < system.size →
    right_at (all_reset system falsehood) i ≡ falsehood.place
unfolding right_at
right_at-reset system falsehood i square row =
    ap (λ id. id.place) (get_or-replicate (length system.rights) i falsehood (record { place = 0 })
    (omega (arith, square.rights)))

-- the same level, with gates, passes, sources and bases of the same values
pub SolvesLevel-same : (g : GraphData) (members s : ℕ)
    (pass other_pass base other_base gate other_gate source other_source answer : ℕ → Bool) →
    ((p : ℕ) → p < length g.places → pass p ≡ other_pass p) → ((i : ℕ) → i < members → base i ≡ other_base i) →
    ((i : ℕ) → i < members → gate i ≡ other_gate i) → ((m : ℕ) → m < nodes g → source m ≡ other_source m) →
    SolvesLevel g members pass base gate source s answer →
    SolvesLevel g members other_pass other_base other_gate other_source s answer
SolvesLevel-same g members s pass other_pass base other_base gate other_gate source other_source answer passes bases gates
    sources solves = record {
      left = solves.left;
      edge = solves.edge;
      right = solves.right;
      system = record {
        all_left = solves.system.all_left;
        edges = λ i j inside_i inside_j.
            let was = solves.system.edges i j inside_i inside_j in (
              (λ set.
                  let linked = was.0 set in (
                    sym (gates i inside_i) ∙ linked.0,
                    Link-along g pass other_pass (IsPlace g) (IsPlace g) s j i (λ p inside true_pass. sym (passes p inside)
                        ∙ true_pass) (λ p place. place) linked.1,
                  )),
              (λ linked.
                  was.1 (
                    gates i inside_i ∙ linked.0,
                    Link-along g other_pass pass (IsPlace g) (IsPlace g) s j i
                        (λ p inside true_pass. passes p inside ∙ true_pass) (λ p place. place) linked.1,
                  )),
            );
        rights = λ i inside.
            let was = solves.system.rights i inside in (
              (λ set.
                  elim (was.0 set) [
                    | inl based ↦ inl (sym (bases i inside) ∙ based)
                    | inr fed ↦
                        inr (
                          sym (gates i inside) ∙ fed.0,
                          Fed-along g members pass other_pass source other_source (IsPlace g) (IsPlace g) s i
                              (λ p inside_p true_pass. sym (passes p inside_p) ∙ true_pass)
                              (λ m inside_m true_source. sym (sources m inside_m) ∙ true_source)
                              (λ p place. place) fed.1,
                        )
                  ]),
              (λ either.
                  was.1 (elim either [
                    | inl based ↦ inl (bases i inside ∙ based)
                    | inr fed ↦
                        inr (
                          gates i inside ∙ fed.0,
                          Fed-along g members other_pass pass other_source source (IsPlace g) (IsPlace g) s i
                              (λ p inside_p true_pass. passes p inside_p ∙ true_pass)
                              (λ m inside_m true_source. sources m inside_m ∙ true_source)
                              (λ p place. place) fed.1,
                        )
                  ])),
            );
      };
      answers = solves.answers;
    }

-- a formula that is held is formed in no step
pub IsFormed-held : (gates : List Gate) (p count : ℕ) → p < length gates →
    IsFormed gates gates count (p ∷ []) (λ vars. value_at gates vars p) p
IsFormed-held gates p count inside = record {
  inside = inside;
  value_is = λ vars. refl;
  grown = λ listed bound within.
      let same = IsGrown-within gates listed bound p within.0 in
      record { more = same.more; few = omega (arith, same.few); within = same.within };
}

-- the right sides so far and the next one
pub rights-more : (system : SystemData) → IsSquare system → (i : ℕ) (id : Id) (wanted : ℕ → ℕ) → i < system.size →
    ((k : ℕ) → k < i → right_at system k ≡ wanted k) → id.place ≡ wanted i → (k : ℕ) → k < i + 1 →
    right_at (put_right system i id) k ≡ wanted k
rights-more system square i id wanted row so_far here k below =
    elim (cases_eq k i) [
      | inl same ↦ rw same (right_at-put_same system square i id row ∙ here)
      | inr other ↦ right_at-put_other system i k id other ∙ so_far k (omega arith)
    ]

-- the values so far and the next one
pub PutsRights-more : (count : ℕ) (meaning : (ℕ → Bool) → ℕ → Bool) (value : (ℕ → Bool) → Bool) (a b c : List Gate)
    (x y z : SystemData) →
    y.size ≡ x.size → ((vars : ℕ → Bool) → value vars ≡ meaning vars count) → PutsRights count meaning a x b y →
    PutsRight count value b y c z →
    PutsRights (count + 1) meaning a x c z
PutsRights-more count meaning value a b c x y z size says so_far next = record {
  done = λ vars i below inside.
      elim (cases_eq i count) [
        | inl same ↦ rw same (next.here vars ∙ says vars)
        | inr other ↦
            let before : i < count = omega arith in
            next.others vars i (omega arith) other ∙ so_far.done vars i before inside
      ];
  edges = λ vars m n row column. next.edges vars m n (omega arith) (omega arith) ∙ so_far.edges vars m n row column;
}

-- no right side was put yet
pub PutsRights-none : (meaning : (ℕ → Bool) → ℕ → Bool) (gates : List Gate) (system : SystemData) →
    PutsRights 0 meaning gates system gates system
PutsRights-none meaning gates system = record {
  done = λ vars i below inside. absurd (omega arith);
  edges = λ vars m n row column. refl;
}

module _ (g : GraphData) (s i : ℕ) (above gates sources : List Id) where
  -- the base of U(s) at a node of another level
  pub driven_base-other : (pool : List Gate) (vars : ℕ → Bool) → level_of g i ≢ s →
      value_at pool vars (place_of above i)
      ≡ driven_base g s (value_of pool above vars) (value_of pool gates vars) (value_of pool sources vars) i
  driven_base-other pool vars other =
      beside (value_of pool above vars i) (value_of pool gates vars i && value_of pool sources vars i)
      ∙ ap (λ b. value_of pool above vars i || (b && (value_of pool gates vars i && value_of pool sources vars i)))
      (sym (ne_eqb (level_of g i) s other))
    where
      beside : (a b : Bool) → a ≡ (a || (false && b))
      beside true b = refl
      beside false b = refl

  -- and at one of this level
  pub driven_base-root : (pool : List Gate) (vars : ℕ → Bool) → level_of g i ≡ s →
      (value_at pool vars (place_of above i)
      || (value_at pool vars (place_of gates i) && value_at pool vars (place_of sources i)))
      ≡ driven_base g s (value_of pool above vars) (value_of pool gates vars) (value_of pool sources vars) i
  driven_base-root pool vars same =
      ap (λ b. value_of pool above vars i || (b && (value_of pool gates vars i && value_of pool sources vars i)))
      (sym (eq-eqb (level_of g i) s same))

  -- it is the same in a pool that extends that of the formulas
  pub driven_base-extends : (before after : List Gate) (vars : ℕ → Bool) → Extends before after →
      place_of above i < length before →
      place_of gates i < length before → place_of sources i < length before →
      driven_base g s (value_of after above vars) (value_of after gates vars) (value_of after sources vars) i
      ≡ driven_base g s (value_of before above vars) (value_of before gates vars) (value_of before sources vars) i
  driven_base-extends before after vars extends inside_above inside_gate inside_source =
      ap (λ b. b || ((level_of g i == s) && (value_of after gates vars i && value_of after sources vars i)))
      (value_of-extends before after above vars i extends inside_above)
      ∙ ap (λ b. value_of before above vars i || ((level_of g i == s) && (b && value_of after sources vars i)))
      (value_of-extends before after gates vars i extends inside_gate)
      ∙ ap (λ b. value_of before above vars i || ((level_of g i == s) && (value_of before gates vars i && b)))
      (value_of-extends before after sources vars i extends inside_source)

-- formulas within which all formulas of a system are that was reset
pub within-reset : (gates : List Gate) (system : SystemData) (falsehood : Id) (listed : List ℕ) (bound : ℕ) →
    IsSquare system →
    IsConstant false gates falsehood → AreWithin gates listed bound (formulas_of (all_reset system falsehood))
within-reset gates system falsehood listed bound square constant =
    formulas-all (IsWithin gates listed bound) (all_reset system falsehood) falsehood (length system.edges) refl
    (IsSquare-reset system falsehood square)
    (constant.within listed bound)
    (λ i inside. subst (IsWithin gates listed bound) (sym (right_at-reset system falsehood i square inside))
    (constant.within listed bound))

-- of a whole and fresh system that was reset
pub IsWhole-reset : (gates : List Gate) (system : SystemData) (falsehood : Id) → IsSquare system →
    IsConstant false gates falsehood →
    IsWhole gates (all_reset system falsehood)
IsWhole-reset gates system falsehood square constant =
    IsWhole-bases gates (all_reset system falsehood) falsehood (length system.edges) refl
    (IsSquare-reset system falsehood square) constant
    (λ i inside. subst (λ p. p < length gates) (sym (right_at-reset system falsehood i square inside)) constant.inside)

pub IsFresh-reset : (gates : List Gate) (system : SystemData) (falsehood : Id) → IsSquare system →
    IsConstant false gates falsehood →
    ((i : ℕ) → i < system.size → is_left system i ≡ true) → IsFresh gates (all_reset system falsehood)
IsFresh-reset gates system falsehood square constant left =
    IsFresh-bases gates (all_reset system falsehood) falsehood (length system.edges) refl
    (IsSquare-reset system falsehood square) constant left

-- the bases were put, and then the level was solved
pub Grows-drive : (above held answers : List Id) (a b c : List Gate) (x y : SystemData) (m n count : ℕ) →
    ((listed : List ℕ) (bound : ℕ) → AreWithin a listed bound (formulas_of x)) → Moves (above ++ held) a x b y m →
    Grows b (held ++ formulas_of y) c answers n → m + n ≤ count → Grows a (above ++ held) c answers count
Grows-drive above held answers a b c x y m n count bases first second sum = record { grown = grown }
  where
    grown : (listed : List ℕ) (bound : ℕ) → AreWithin a listed bound (above ++ held) → AreGrown c listed bound count answers
    grown listed bound within =
        let one : AreGrown b listed bound m ((above ++ held) ++ formulas_of y) =
        first.grows.grown listed bound (All-append (λ id. IsWithin a listed bound id.place) (above ++ held)
        (formulas_of x) within (bases listed bound)) in
        let P : Id → Type 0 = λ id. IsWithin b (one.more ++ listed) bound id.place in
        let held_within : All P held = All-back P above held (All-front P (above ++ held) (formulas_of y) one.within) in
        let two : AreGrown c (one.more ++ listed) bound n answers =
        second.grown (one.more ++ listed) bound
        (All-append P held (formulas_of y) held_within (All-back P (above ++ held) (formulas_of y) one.within)) in
        record {
          more = two.more ++ one.more;
          few = omega (arith, one.few, two.few, length-append two.more one.more);
          within = rw append_assoc two.within;
        }

-- the level was solved over bases that are constants
pub Grows-reach : (held answers : List Id) (a c : List Gate) (x : SystemData) (count : ℕ) →
    ((listed : List ℕ) (bound : ℕ) → AreWithin a listed bound (formulas_of x)) →
    Grows a (held ++ formulas_of x) c answers count →
    Grows a held c answers count
Grows-reach held answers a c x count bases grows = record {
  grown = λ listed bound within.
      grows.grown listed bound (All-append (λ id. IsWithin a listed bound id.place) held (formulas_of x) within
      (bases listed bound));
}

-- the one formula or the other is a constant of that value
pub value-chosen : (gates : List Gate) (falsehood truth : Id) (test : Bool) (p : ℕ) → IsConstant false gates falsehood →
    IsConstant true gates truth →
    p ≡ (if test then truth.place else falsehood.place) →
    (p < length gates) × ((vars : ℕ → Bool) → value_at gates vars p ≡ test)
    × ((listed : List ℕ) (bound : ℕ) → IsWithin gates listed bound p)
value-chosen gates falsehood truth true p is_false is_true is = (
  rw is is_true.inside,
  (λ vars. rw is (is_true.value_is vars)),
  (λ listed bound. rw is (is_true.within listed bound)),
)
value-chosen gates falsehood truth false p is_false is_true is = (
  rw is is_false.inside,
  (λ vars. rw is (is_false.value_is vars)),
  (λ listed bound. rw is (is_false.within listed bound)),
)

-- within which the formulas are of a system with constant bases
pub within-bases : (gates : List Gate) (system : SystemData) (falsehood : Id) (count : ℕ) (listed : List ℕ) (bound : ℕ) →
    system.edges ≡ replicate count falsehood → IsSquare system → IsConstant false gates falsehood →
    ((i : ℕ) → i < system.size → IsWithin gates listed bound (right_at system i)) →
    AreWithin gates listed bound (formulas_of system)
within-bases gates system falsehood count listed bound edges square constant rights =
    formulas-all (IsWithin gates listed bound) system falsehood count edges square (constant.within listed bound) rights

-- a fresh system stays so while right sides are put
pub IsFresh-puts : (count : ℕ) (meaning : (ℕ → Bool) → ℕ → Bool) (a b : List Gate) (x y : SystemData) → y.size ≡ x.size →
    y.left ≡ x.left →
    IsFresh a x → PutsRights count meaning a x b y → IsFresh b y
IsFresh-puts count meaning a b x y size left fresh puts = record {
  no_edges = λ vars i j row column. puts.edges vars i j (omega arith) (omega arith)
      ∙ fresh.no_edges vars i j (omega arith) (omega arith);
  all_left = λ i inside. ap (λ (flags : List Bool). slice_index_or flags i false) left ∙ fresh.all_left i (omega arith);
}

-- a level that was solved in a pool that extends that of its formulas
pub SolvesLevel-extends : (g : GraphData) (s : ℕ) (gates passes sources : List Id) (a b : List Gate) (x y : SystemData)
    (vars : ℕ → Bool)
    (base answer : ℕ → Bool) → FitLinks g x.size a gates passes sources → Extends a b → y.size ≡ x.size →
    ((i : ℕ) → i < x.size → right b y vars i ≡ base i) →
    SolvesLevel g y.size (value_of b passes vars) (right b y vars) (value_of b gates vars) (value_of b sources vars) s
    answer →
    SolvesLevel g x.size (value_of a passes vars) base (value_of a gates vars) (value_of a sources vars) s answer
SolvesLevel-extends g s gates passes sources a b x y vars base answer fit extends size bases solves =
    SolvesLevel-same g x.size s (value_of b passes vars) (value_of a passes vars) (right b y vars) base
    (value_of b gates vars) (value_of a gates vars)
    (value_of b sources vars) (value_of a sources vars) answer
    (λ p inside. pass_same g x.size s gates passes sources a b b x y y fit extends vars p inside) bases
    (λ i inside. gate_same g x.size s gates passes sources a b b x y y fit extends vars i inside)
    (λ m inside. source_same g x.size s gates passes sources a b b x y y fit extends vars m inside)
    (subst (λ n. SolvesLevel g n (value_of b passes vars) (right b y vars) (value_of b gates vars) (value_of b sources vars)
    s answer) size solves)
