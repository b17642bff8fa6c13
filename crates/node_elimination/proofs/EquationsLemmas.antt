-- A system after one edge or one right side was put.
use Rattle.std.proofs.Common.{◌≡◌, ◌≢◌, ℕ, ◌+◌, ◌*◌, ◌<◌, ◌≤◌, ◌⊎◌, Bool, true, false, ⊎_elim, List, ◌++◌, length, set, cond, refl, ap, ◌∙◌, get_or-set_same, get_or-set_other, arith}
use Rattle.std.specs.Prelude.{All}
use Rattle.std.proofs.lemmas.List.{length-set}
use Rattle.std.proofs.lemmas.List.Elements.{All-append, All-set}
use Rattle.std.proofs.lemmas.List.Sums.{sum_by-set}
use Rattle.std.proofs.lemmas.Nat.{mul-add-lt, same_from_place}
use Rattle.bool_pool.specs.declared.gate.Gate.{Gate}
use Rattle.bool_pool.specs.declared.gate.Id.{Id}
use Rattle.bool_pool.specs.Gate.{Extends}
use Rattle.bool_pool.specs.Reach.{IsWithin, IsGrown}
use Rattle.bool_pool.specs.Made.{IsFormed}
use Rattle.bool_pool.proofs.ValueLemmas.{value_at-extends}
use Rattle.node_elimination.specs.Growth.{AreWithin, AreGrown, Grows}
use Rattle.node_elimination.specs.Equations.{SystemData, IsSquare, IsWhole, formulas_of, edge_at, right_at, is_left, left_count, put_edge, put_right, put_left, edge, right}
use Rattle.node_elimination.specs.Elimination.{Moves}
use Rattle.node_elimination.proofs.GrowthLemmas.{Extends-same, Extends-trans, All-front, All-back, AreFormulas-extends, AreWithin-moved, Grows-same, Grows-trans, IsHeld, AreHeld, IsHeld-front, IsHeld-back, inside-held, AllWithin-held}

-- the edge from i to j stands in the list of the edges
pub index_in : (system : SystemData) → IsSquare system → (i j : ℕ) → i < system.size → j < system.size →
    i * system.size + j < length system.edges
index_in system square i j row column = rw square.edges (mul-add-lt i system.size j system.size row column)

-- an edge is held
pub IsHeld-edge : (system : SystemData) → IsSquare system → (i j : ℕ) → i < system.size → j < system.size →
    IsHeld (formulas_of system) (edge_at system i j)
unfolding edge_at
IsHeld-edge system square i j row column =
    IsHeld-front system.edges system.rights _ (i * system.size + j, index_in system square i j row column, refl)

-- a right side is held
pub IsHeld-right : (system : SystemData) → IsSquare system → (i : ℕ) → i < system.size →
    IsHeld (formulas_of system) (right_at system i)
unfolding right_at
IsHeld-right system square i row = IsHeld-back system.edges system.rights _ (i, rw square.rights row, refl)

-- the same of a formula at the place of an edge or of a right side
pub IsHeld-at_edge : (others : List Id) (system : SystemData) → IsSquare system → (i j p : ℕ) → i < system.size →
    j < system.size → p ≡ edge_at system i j →
    IsHeld (others ++ formulas_of system) p
IsHeld-at_edge others system square i j p row column is =
    rw is (IsHeld-back others (formulas_of system) (edge_at system i j) (IsHeld-edge system square i j row column))

pub IsHeld-at_right : (others : List Id) (system : SystemData) → IsSquare system → (i p : ℕ) → i < system.size →
    p ≡ right_at system i →
    IsHeld (others ++ formulas_of system) p
IsHeld-at_right others system square i p row is =
    rw is (IsHeld-back others (formulas_of system) (right_at system i) (IsHeld-right system square i row))

-- an edge is a formula of the pool
pub edge-inside : (gates : List Gate) (system : SystemData) → IsWhole gates system → (i j : ℕ) → i < system.size →
    j < system.size → edge_at system i j < length gates
edge-inside gates system whole i j row column =
    inside-held gates (formulas_of system) (edge_at system i j) whole.formulas
    (IsHeld-edge system whole.square i j row column)

-- a right side is a formula of the pool
pub right-inside : (gates : List Gate) (system : SystemData) → IsWhole gates system → (i : ℕ) → i < system.size →
    right_at system i < length gates
right-inside gates system whole i row =
    inside-held gates (formulas_of system) (right_at system i) whole.formulas (IsHeld-right system whole.square i row)

-- an edge keeps its value when gates are added
pub edge-extends : (before after : List Gate) (system : SystemData) → Extends before after → IsWhole before system →
    (vars : ℕ → Bool) (i j : ℕ) →
    i < system.size → j < system.size → edge after system vars i j ≡ edge before system vars i j
edge-extends before after system extends whole vars i j row column =
    value_at-extends before after vars (edge_at system i j) extends (edge-inside before system whole i j row column)

-- and so does a right side
pub right-extends : (before after : List Gate) (system : SystemData) → Extends before after → IsWhole before system →
    (vars : ℕ → Bool) (i : ℕ) →
    i < system.size → right after system vars i ≡ right before system vars i
right-extends before after system extends whole vars i row =
    value_at-extends before after vars (right_at system i) extends (right-inside before system whole i row)

-- the edge that was put
pub edge_at-put_same : (system : SystemData) → IsSquare system → (i j : ℕ) (id : Id) → i < system.size → j < system.size →
    edge_at (put_edge system i j id) i j ≡ id.place
unfolding edge_at put_edge
edge_at-put_same system square i j id row column =
    ap (λ x. x.place) (get_or-set_same system.edges (i * system.size + j) id (record { place = 0 })
    (index_in system square i j row column))

-- another edge
pub edge_at-put_other : (system : SystemData) (i j m n : ℕ) (id : Id) → j < system.size → n < system.size →
    ((m ≢ i) ⊎ (n ≢ j)) →
    edge_at (put_edge system i j id) m n ≡ edge_at system m n
unfolding edge_at put_edge
edge_at-put_other system i j m n id column inside apart =
    ap (λ x. x.place) (get_or-set_other system.edges (i * system.size + j) (m * system.size + n) id (record { place = 0 })
    differ)
  where
    differ : m * system.size + n ≢ i * system.size + j
    differ same =
        let parts = same_from_place m n i j system.size inside column same in
        ⊎_elim (λ (other : m ≢ i). other parts.0) (λ (other : n ≢ j). other parts.1) apart

-- the right sides when an edge was put
pub right_at-put_edge : (system : SystemData) (i j m : ℕ) (id : Id) → right_at (put_edge system i j id) m ≡ right_at system m
unfolding right_at put_edge
right_at-put_edge system i j m id = refl

-- the right side that was put
pub right_at-put_same : (system : SystemData) → IsSquare system → (i : ℕ) (id : Id) → i < system.size →
    right_at (put_right system i id) i ≡ id.place
unfolding right_at put_right
right_at-put_same system square i id row =
    ap (λ x. x.place) (get_or-set_same system.rights i id (record { place = 0 }) (rw square.rights row))

-- another right side
pub right_at-put_other : (system : SystemData) (i m : ℕ) (id : Id) → m ≢ i →
    right_at (put_right system i id) m ≡ right_at system m
unfolding right_at put_right
right_at-put_other system i m id other =
    ap (λ x. x.place) (get_or-set_other system.rights i m id (record { place = 0 }) other)

-- the edges when a right side was put
pub edge_at-put_right : (system : SystemData) (i m n : ℕ) (id : Id) →
    edge_at (put_right system i id) m n ≡ edge_at system m n
unfolding edge_at put_right
edge_at-put_right system i m n id = refl

-- the edges and right sides when an unknown was taken out or put back
pub edge_at-put_left : (system : SystemData) (k : ℕ) (b : Bool) (m n : ℕ) →
    edge_at (put_left system k b) m n ≡ edge_at system m n
unfolding edge_at
edge_at-put_left system k b m n = refl

pub right_at-put_left : (system : SystemData) (k : ℕ) (b : Bool) (m : ℕ) →
    right_at (put_left system k b) m ≡ right_at system m
unfolding right_at
right_at-put_left system k b m = refl

-- a system that stays as it is
pub Moves-same : (others : List Id) (gates : List Gate) (system : SystemData) (count : ℕ) → IsWhole gates system →
    Moves others gates system gates system count
Moves-same others gates system count whole = record {
  extends = Extends-same gates;
  whole = whole;
  size = refl;
  left = refl;
  grows = Grows-same gates (others ++ formulas_of system) count;
}

-- one change after another
pub Moves-trans : (others : List Id) (a b c : List Gate) (x y z : SystemData) (m n count : ℕ) → Moves others a x b y m →
    Moves others b y c z n →
    m + n ≤ count → Moves others a x c z count
Moves-trans others a b c x y z m n count first next sum = record {
  extends = Extends-trans a b c first.extends next.extends;
  whole = next.whole;
  size = next.size ∙ first.size;
  left = next.left ∙ first.left;
  grows = Grows-trans a b c (others ++ formulas_of x) (others ++ formulas_of y) (others ++ formulas_of z) m n count
      first.grows next.grows sum;
}

-- each formula of the new list is one of the old list, or this one
abbrev Replaces : List Id → List Id → Id → Type 1
Replaces old new id = (P : Id → Type 0) → All P old → P id → All P new

-- formulas of which one is replaced by one that was formed from what is held
Grows-replaced : (before after : List Gate) (old new : List Id) (id : Id) (operands : List ℕ) (meaning : (ℕ → Bool) → Bool)
    (count : ℕ) →
    Extends before after → AreHeld old operands → IsFormed before after count operands meaning id.place →
    Replaces old new id →
    Grows before old after new count
Grows-replaced before after old new id operands meaning count extends held formed replaces = record { grown = grown }
  where
    grown : (listed : List ℕ) (bound : ℕ) → AreWithin before listed bound old → AreGrown after listed bound count new
    grown listed bound within =
        let more : IsGrown after listed bound count id.place =
        formed.grown listed bound (AllWithin-held before listed bound old operands within held) in
        record {
          more = more.more;
          few = more.few;
          within = replaces (λ x. IsWithin after (more.more ++ listed) bound x.place)
              (AreWithin-moved before after more.more listed bound old extends within) more.within;
        }

-- a system of which one formula is replaced
Moves-replaced : (others : List Id) (before after : List Gate) (old new : SystemData) (id : Id) (operands : List ℕ)
    (meaning : (ℕ → Bool) → Bool)
    (count : ℕ) → IsWhole before old → Extends before after → AreHeld (others ++ formulas_of old) operands →
    IsFormed before after count operands meaning id.place → Replaces (formulas_of old) (formulas_of new) id → IsSquare new →
    new.size ≡ old.size → new.left ≡ old.left → Moves others before old after new count
Moves-replaced others before after old new id operands meaning count whole extends held formed replaces square size left =
    record {
      extends = extends;
      whole = record {
        square = square;
        formulas = replaces (λ x. x.place < length after)
            (AreFormulas-extends before after (formulas_of old) extends whole.formulas) formed.inside;
      };
      size = size;
      left = left;
      grows = Grows-replaced before after (others ++ formulas_of old) (others ++ formulas_of new) id operands meaning count
          extends held formed
          (λ P all here.
          All-append P others (formulas_of new) (All-front P others (formulas_of old) all)
          (replaces P (All-back P others (formulas_of old) all) here));
    }

-- an edge that was formed from what is held is put
pub Moves-put_edge : (others : List Id) (before after : List Gate) (old : SystemData) (i j : ℕ) (id : Id) (operands : List ℕ)
    (meaning : (ℕ → Bool) → Bool) (count : ℕ) → IsWhole before old → Extends before after →
    AreHeld (others ++ formulas_of old) operands →
    IsFormed before after count operands meaning id.place → Moves others before old after (put_edge old i j id) count
unfolding put_edge
Moves-put_edge others before after old i j id operands meaning count whole extends held formed =
    Moves-replaced others before after old (put_edge old i j id) id operands meaning count whole extends held formed
    (λ P all here.
    All-append P (set old.edges (i * old.size + j) id) old.rights
    (All-set P old.edges (i * old.size + j) id here (All-front P old.edges old.rights all))
    (All-back P old.edges old.rights all))
    (record {
      edges = length-set old.edges (i * old.size + j) id ∙ whole.square.edges;
      rights = whole.square.rights;
      left = whole.square.left;
    })
    refl refl

-- a right side that was formed from what is held is put
pub Moves-put_right : (others : List Id) (before after : List Gate) (old : SystemData) (i : ℕ) (id : Id) (operands : List ℕ)
    (meaning : (ℕ → Bool) → Bool) (count : ℕ) → IsWhole before old → Extends before after →
    AreHeld (others ++ formulas_of old) operands →
    IsFormed before after count operands meaning id.place → Moves others before old after (put_right old i id) count
unfolding put_right
Moves-put_right others before after old i id operands meaning count whole extends held formed =
    Moves-replaced others before after old (put_right old i id) id operands meaning count whole extends held formed
    (λ P all here.
    All-append P old.edges (set old.rights i id) (All-front P old.edges old.rights all)
    (All-set P old.rights i id here (All-back P old.edges old.rights all)))
    (record {
      edges = whole.square.edges;
      rights = length-set old.rights i id ∙ whole.square.rights;
      left = whole.square.left;
    })
    refl refl

-- a square system stays so when a right side is put
pub IsSquare-put_right : (system : SystemData) (i : ℕ) (id : Id) → IsSquare system → IsSquare (put_right system i id)
unfolding put_right
IsSquare-put_right system i id square = record {
  edges = square.edges;
  rights = length-set system.rights i id ∙ square.rights;
  left = square.left;
}

-- and its edges, its size and what is left of it stay
pub edges-put_right : (system : SystemData) (i : ℕ) (id : Id) → (put_right system i id).edges ≡ system.edges
unfolding put_right
edges-put_right system i id = refl

pub size-put_right : (system : SystemData) (i : ℕ) (id : Id) → (put_right system i id).size ≡ system.size
unfolding put_right
size-put_right system i id = refl

pub left-put_right : (system : SystemData) (i : ℕ) (id : Id) → (put_right system i id).left ≡ system.left
unfolding put_right
left-put_right system i id = refl

-- a system in which an unknown was taken out or put back is as whole as it was
pub IsWhole-put_left : (gates : List Gate) (system : SystemData) (k : ℕ) (b : Bool) → IsWhole gates system →
    IsWhole gates (put_left system k b)
IsWhole-put_left gates system k b whole = record {
  square = record {
    edges = whole.square.edges;
    rights = whole.square.rights;
    left = length-set system.left k b ∙ whole.square.left;
  };
  formulas = whole.formulas;
}

-- an unknown that was left and is taken out is one less
pub left_count-put_left : (system : SystemData) (k : ℕ) → k < length system.left → is_left system k ≡ true →
    left_count (put_left system k false) + 1 ≡ left_count system
left_count-put_left system k inside stays =
    let change : left_count (put_left system k false) + cond {A = ℕ} (is_left system k) 1 0 ≡ left_count system + 0 =
    sum_by-set (λ b. cond b 1 0) system.left k false false inside in
    let counted : cond {A = ℕ} (is_left system k) 1 0 ≡ 1 = ap (λ (b : Bool). cond b 1 0) stays in
    omega arith
