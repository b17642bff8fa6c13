-- The columns of a decision graph are the valuations of its variables.
use Rattle.std.proofs.Common.{◌≡◌, ℕ, zero, suc, ◌+◌, ◌-◌, ◌*◌, ◌/◌, ◌%◌, ◌<◌, ◌≤◌, ◌^◌, ◌==◌, Bool, true, false, List, length, refl, sym, ap, ◌∙◌, ◌⊎◌, ⊎_elim, true≢false, if◌then◌else◌, arith}
use Rattle.std.specs.Int.{bit_at}
use Rattle.std.proofs.lemmas.Nat.Bits.{bit_at_lowest, bit_at-suc}
use Rattle.std.proofs.Math.Nat.{pow-suc}
use Rattle.word_columns.specs.Columns.{is_in_column}
use Rattle.decision_graph.specs.declared.vertex.Vertex.{Vertex}
use Rattle.decision_graph.specs.declared.vertex.Function.{Function}
use Rattle.decision_graph.specs.Vertices.{IsReduced, Extends}
use Rattle.decision_graph.specs.Meaning.{holds, IsBeforeAll}
use Rattle.decision_graph.proofs.ValueLemmas.{holds-extends}
use Rattle.decision_graph.proofs.AgreeLemmas.{holds-known}
use Rattle.truth_columns.specs.Columns.{AreKept}
use Rattle.truth_makers.specs.Valuations.{valuation_of, holds_in, number_of, column_of, IsFirstColumn}

-- the lowest bit of a number that is one more than twice another, or twice it
lowest : (b : Bool) (c : ℕ) → bit_at ((if b then 1 else 0) + 2 * c) 0 ≡ (if b then 1 else 0)
lowest true c = bit_at_lowest (1 + 2 * c) ∙ (omega arith)
lowest false c = bit_at_lowest (0 + 2 * c) ∙ (omega arith)

-- its other bits are those of the other number
others : (b : Bool) (c i : ℕ) → bit_at ((if b then 1 else 0) + 2 * c) (suc i) ≡ bit_at c i
others true c i = bit_at-suc (1 + 2 * c) i ∙ ap (λ n. bit_at n i) (omega arith)
others false c i = bit_at-suc (0 + 2 * c) i ∙ ap (λ n. bit_at n i) (omega arith)

-- a truth value as a bit
as_bit : (b : Bool) → ((if b then 1 else 0) == 1) ≡ b
as_bit true = refl
as_bit false = refl

-- a number of so many bits
number_of-lt : (n : ℕ) (bits : ℕ → Bool) → number_of bits n < 2 ^ n
unfolding number_of
number_of-lt zero bits = omega arith
number_of-lt (suc n) bits = by (bits 0) (number_of (λ v. bits (suc v)) n) (number_of-lt n (λ v. bits (suc v)))
  where
    by : (b : Bool) (c : ℕ) → c < 2 ^ n → (if b then 1 else 0) + 2 * c < 2 ^ suc n
    by true c less = let power : 2 ^ suc n ≡ 2 ^ n * 2 = pow-suc 2 n in omega arith
    by false c less = let power : 2 ^ suc n ≡ 2 ^ n * 2 = pow-suc 2 n in omega arith

-- it has these bits
number_of-bit : (n : ℕ) (bits : ℕ → Bool) (i : ℕ) → i < n → is_in_column i (number_of bits n) ≡ bits i
unfolding number_of is_in_column
number_of-bit zero bits i less = absurd (omega arith)
number_of-bit (suc n) bits zero less = ap (λ bit. bit == 1) (lowest (bits 0) (number_of (λ v. bits (suc v)) n)) ∙ as_bit (bits 0)
number_of-bit (suc n) bits (suc i) less =
    ap (λ bit. bit == 1) (others (bits 0) (number_of (λ v. bits (suc v)) n) i) ∙ number_of-bit n (λ v. bits (suc v)) i (omega arith)

-- the column of a valuation is one of those of so many variables
pub column_of-lt : (n : ℕ) (vars : ℕ → Bool) → column_of vars n < 2 ^ n
column_of-lt n vars = number_of-lt n (λ i. vars (n - 1 - i))

-- in the column of a valuation the variables have its values
pub valuation_of-column : (n : ℕ) (vars : ℕ → Bool) (v : ℕ) → v < n → valuation_of n (column_of vars n) v ≡ vars v
valuation_of-column n vars v less =
    number_of-bit n (λ i. vars (n - 1 - i)) (n - 1 - v) (omega arith) ∙ ap vars (omega arith)

-- what holds in no column holds under no valuation
pub never-in_columns : (variables : ℕ) (vertices : List Vertex) (place : ℕ) → IsReduced variables vertices → place < length vertices
    → ((column : ℕ) → column < 2 ^ variables → holds_in variables vertices column place ≡ false) → (vars : ℕ → Bool) → holds vertices vars place ≡ false
never-in_columns variables vertices place reduced inside none vars =
    holds-known variables vertices vars (valuation_of variables (column_of vars variables)) place reduced inside
    (λ v known. sym (valuation_of-column variables vars v known))
    ∙ none (column_of vars variables) (column_of-lt variables vars)

-- functions that agree in all columns agree under all valuations
pub same-in_columns : (variables : ℕ) (vertices : List Vertex) (a b : ℕ) → IsReduced variables vertices → a < length vertices → b < length vertices
    → ((column : ℕ) → column < 2 ^ variables → holds_in variables vertices column a ≡ holds_in variables vertices column b) → (vars : ℕ → Bool) → holds vertices vars a ≡ holds vertices vars b
same-in_columns variables vertices a b reduced first second same vars =
    let known = λ (v : ℕ) (below : v < variables). sym (valuation_of-column variables vars v below) in
    holds-known variables vertices vars (valuation_of variables (column_of vars variables)) a reduced first known
    ∙ same (column_of vars variables) (column_of-lt variables vars)
    ∙ sym (holds-known variables vertices vars (valuation_of variables (column_of vars variables)) b reduced second known)

-- a graph that extends another keeps all functions
pub functions-kept : (variables later : ℕ) (old new : List Vertex) → later ≡ variables → Extends old new
    → AreKept (2 ^ variables) (λ (f : Function). f.place < length old) (λ (f : Function) column. holds_in variables old column f.place)
    (2 ^ later) (λ (f : Function). f.place < length new) (λ (f : Function) column. holds_in later new column f.place)
functions-kept variables later old new same extends = record {
  count = ap (λ n. 2 ^ n) same;
  there = λ f inside. omega (arith, extends.longer);
  stays = λ f column inside below.
      ap (λ n. holds new (valuation_of n column) f.place) same ∙ holds-extends old new (valuation_of variables column) f.place extends inside;
}

-- where two numbers first differ, from the highest bit down: the less one has 0 there
record Parts (n c d : ℕ) : Type 0 where
  at_bit : ℕ
  below : at_bit < n
  more : is_in_column at_bit c ≡ true
  less : is_in_column at_bit d ≡ false
  above : (j : ℕ) → at_bit < j → is_in_column j d ≡ is_in_column j c

-- a bit but the lowest is one of the half
half : (x j : ℕ) → is_in_column (suc j) x ≡ is_in_column j (x / 2)
unfolding is_in_column
half x j = ap (λ bit. bit == 1) (bit_at-suc x j)

-- the lowest bit is the rest
last : (x : ℕ) → is_in_column 0 x ≡ (x % 2 == 1)
unfolding is_in_column
last x = ap (λ bit. bit == 1) (bit_at_lowest x)

-- a part of the halves is one of the numbers
Parts-half : (n c d : ℕ) → Parts n (c / 2) (d / 2) → Parts (suc n) c d
Parts-half n c d parts = record {
  at_bit = suc parts.at_bit;
  below = omega (arith, parts.below);
  more = half c parts.at_bit ∙ parts.more;
  less = half d parts.at_bit ∙ parts.less;
  above = by;
}
  where
    by : (j : ℕ) → suc parts.at_bit < j → is_in_column j d ≡ is_in_column j c
    by zero up = absurd (omega arith)
    by (suc j) up = half d j ∙ parts.above j (omega arith) ∙ sym (half c j)

-- equal halves part at the lowest bit
Parts-last : (n c d : ℕ) → d < c → c / 2 ≡ d / 2 → Parts (suc n) c d
Parts-last n c d lower same =
    let c_rest : c % 2 ≡ 1 = omega arith in
    let d_rest : d % 2 ≡ 0 = omega arith in
    record {
      at_bit = 0;
      below = omega arith;
      more = last c ∙ ap (λ x. x == 1) c_rest;
      less = last d ∙ ap (λ x. x == 1) d_rest;
      above = by;
    }
  where
    by : (j : ℕ) → 0 < j → is_in_column j d ≡ is_in_column j c
    by zero up = absurd (omega arith)
    by (suc j) up = half d j ∙ ap (is_in_column j) (sym same) ∙ sym (half c j)

parts_of : (n c d : ℕ) → d < c → c < 2 ^ n → Parts n c d
parts_of zero c d lower small = absurd (omega arith)
parts_of (suc n) c d lower small =
    let power : 2 ^ suc n ≡ 2 ^ n * 2 = pow-suc 2 n in
    ⊎_elim (λ (below : d / 2 < c / 2). Parts-half n c d (parts_of n (c / 2) (d / 2) below (omega arith)))
    (λ (same : c / 2 ≡ d / 2). Parts-last n c d lower same)
    (either (d / 2) (c / 2) (omega arith))
  where
    either : (a b : ℕ) → a ≤ b → (a < b) ⊎ (b ≡ a)
    either a b few = grind arith

-- no column before the first valuation's has the function
pub first-column : (variables : ℕ) (vertices : List Vertex) (place : ℕ) (vars : ℕ → Bool) → IsReduced variables vertices → place < length vertices
    → holds vertices vars place ≡ true → IsBeforeAll vertices place 0 vars → IsFirstColumn variables vertices place (column_of vars variables)
first-column variables vertices place vars reduced inside held before = record {
  inside = column_of-lt variables vars;
  held = holds-known variables vertices (valuation_of variables (column_of vars variables)) vars place reduced inside
      (λ v known. valuation_of-column variables vars v known) ∙ held;
  earlier = λ other lower. by other lower (holds_in variables vertices other place) refl;
}
  where
    by : (other : ℕ) → other < column_of vars variables → (b : Bool) → holds_in variables vertices other place ≡ b → holds_in variables vertices other place ≡ false
    by other lower false is = is
    by other lower true is =
        let parts = parts_of variables (column_of vars variables) other lower (column_of-lt variables vars) in
        let v = variables - 1 - parts.at_bit in
        let back : variables - 1 - v ≡ parts.at_bit = omega (arith, parts.below) in
        let set : vars v ≡ true = sym (valuation_of-column variables vars v (omega (arith, parts.below)))
        ∙ ap (λ i. is_in_column i (column_of vars variables)) back ∙ parts.more in
        let agree : (w : ℕ) → w < v → valuation_of variables other w ≡ vars w =
        λ w earlier. parts.above (variables - 1 - w) (omega (arith, parts.below)) ∙ valuation_of-column variables vars w (omega (arith, parts.below)) in
        let also : valuation_of variables other v ≡ true = before (valuation_of variables other) v is agree (omega arith) set in
        absurd (true≢false (sym also ∙ ap (λ i. is_in_column i other) back ∙ parts.less))
