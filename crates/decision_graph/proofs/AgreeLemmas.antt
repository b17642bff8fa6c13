-- A function depends on no variable before its level, and equal functions have equal places.
-- After Bryant, "Graph-Based Algorithms for Boolean Function Manipulation", 1986.
use Rattle.std.proofs.Common.{◌≡◌, ◌≢◌, ℕ, zero, suc, ◌+◌, ◌<◌, ◌≤◌, ◌⊎◌, Bool, true, false, List, length, refl, sym, ap, ◌∙◌, subst, inl, inr, ⊎_elim, if◌then◌else◌, arith}
use Rattle.std.proofs.lemmas.Bool.Decides.{eqb_tells}
use Rattle.decision_graph.specs.declared.vertex.Vertex.{Vertex}
use Rattle.decision_graph.specs.declared.vertex.Function.{Function}
use Rattle.decision_graph.specs.declared.vertex.Vertex.TheVariants.{Leaf, Branch}
use Rattle.decision_graph.specs.Vertices.{vertex_at, level_at, level_of, IsNext, IsApart, IsDecided, IsReduced}
use Rattle.decision_graph.specs.Meaning.{vertex_value, holds, with_variable}
use Rattle.decision_graph.proofs.ValueLemmas.{holds-vertex}
use Rattle.decision_graph.proofs.CanonLemmas.{holds-leaf, level-leaf}

-- both valuations agree on these variables, from the first on
abbrev pub AgreeFrom : ℕ → ℕ → (ℕ → Bool) → (ℕ → Bool) → Type 0
AgreeFrom v variables f g = (w : ℕ) → v ≤ w → w < variables → f w ≡ g w

-- a branch is its first function if its variable is true, and its second one if it is false
pub holds-branch : (variables : ℕ) (vertices : List Vertex) (vars : ℕ → Bool) (i v : ℕ) (high low : Function) → IsReduced variables vertices → i < length vertices
    → vertex_at vertices i ≡ Branch v high low
    → holds vertices vars i ≡ (if vars v then holds vertices vars high.place else holds vertices vars low.place)
holds-branch variables vertices vars i v high low reduced inside is =
    holds-vertex vertices vars i reduced.order inside ∙ ap (λ x. vertex_value vars (holds vertices vars) x) is

-- where valuations agree from a function's level on, it holds under both or under none, if that is so of all functions before it
agree_step : (variables : ℕ) (vertices : List Vertex) (f g : ℕ → Bool) (i : ℕ) → IsReduced variables vertices → i < length vertices
    → AgreeFrom (level_at variables vertices i) variables f g
    → ((k : ℕ) → k < i → AgreeFrom (level_at variables vertices k) variables f g → holds vertices f k ≡ holds vertices g k)
    → (x : Vertex) → vertex_at vertices i ≡ x → IsDecided variables vertices x → holds vertices f i ≡ holds vertices g i
agree_step variables vertices f g i reduced inside agree before (Leaf b) is decided =
    holds-leaf variables vertices f i b reduced inside is ∙ sym (holds-leaf variables vertices g i b reduced inside is)
agree_step variables vertices f g i reduced inside agree before (Branch v high low) is decided =
    let level : level_at variables vertices i ≡ v = ap (level_of variables) is in
    let on_high = before high.place (reduced.order i high.place (subst (λ x. IsNext x high.place) (sym is) (inl refl)))
    (λ w later known. agree w (omega (arith, decided.later_high)) known) in
    let on_low = before low.place (reduced.order i low.place (subst (λ x. IsNext x low.place) (sym is) (inr refl)))
    (λ w later known. agree w (omega (arith, decided.later_low)) known) in
    holds-branch variables vertices f i v high low reduced inside is
    ∙ ap (λ t. if t then holds vertices f high.place else holds vertices f low.place) (agree v (omega arith) decided.known)
    ∙ ap (λ t. if g v then t else holds vertices f low.place) on_high
    ∙ ap (λ t. if g v then holds vertices g high.place else t) on_low
    ∙ sym (holds-branch variables vertices g i v high low reduced inside is)

-- the same by induction
holds-agree : (n variables : ℕ) (vertices : List Vertex) (f g : ℕ → Bool) (i : ℕ) → i < n → IsReduced variables vertices → i < length vertices
    → AgreeFrom (level_at variables vertices i) variables f g → holds vertices f i ≡ holds vertices g i
holds-agree zero variables vertices f g i small reduced inside agree = absurd (omega arith)
holds-agree (suc n) variables vertices f g i small reduced inside agree =
    agree_step variables vertices f g i reduced inside agree
    (λ k less. holds-agree n variables vertices f g k (omega arith) reduced (omega arith))
    (vertex_at vertices i) refl (reduced.decided i)

-- the same without a bound
pub holds-same : (variables : ℕ) (vertices : List Vertex) (f g : ℕ → Bool) (i : ℕ) → IsReduced variables vertices → i < length vertices
    → AgreeFrom (level_at variables vertices i) variables f g → holds vertices f i ≡ holds vertices g i
holds-same variables vertices f g i reduced inside agree = holds-agree (i + 1) variables vertices f g i (omega arith) reduced inside agree

-- a function sees the graph's variables alone
pub holds-known : (variables : ℕ) (vertices : List Vertex) (f g : ℕ → Bool) (i : ℕ) → IsReduced variables vertices → i < length vertices
    → ((w : ℕ) → w < variables → f w ≡ g w) → holds vertices f i ≡ holds vertices g i
holds-known variables vertices f g i reduced inside agree = holds-same variables vertices f g i reduced inside (λ w from known. agree w known)

-- a variable's new value
pub with_variable-here : (v : ℕ) (b : Bool) (vars : ℕ → Bool) → with_variable v b vars v ≡ b
with_variable-here v b vars = ⊎_elim (λ same. ap (λ t. if t then b else vars v) same.0) (λ other. absurd (other.1 refl)) (eqb_tells v v)

-- another variable keeps its value
pub with_variable-other : (v : ℕ) (b : Bool) (vars : ℕ → Bool) (w : ℕ) → w ≢ v → with_variable v b vars w ≡ vars w
with_variable-other v b vars w other = ⊎_elim (λ same. absurd (other same.1)) (λ no. ap (λ t. if t then b else vars w) no.0) (eqb_tells w v)

-- a function of later variables doesn't see a variable's new value
pub holds-unseen : (variables : ℕ) (vertices : List Vertex) (vars : ℕ → Bool) (v : ℕ) (b : Bool) (i : ℕ) → IsReduced variables vertices → i < length vertices
    → v < level_at variables vertices i → holds vertices (with_variable v b vars) i ≡ holds vertices vars i
holds-unseen variables vertices vars v b i reduced inside later =
    holds-same variables vertices (with_variable v b vars) vars i reduced inside
    (λ w from known. with_variable-other v b vars w (λ e. let lt : v < w = omega arith in absurd (omega arith)))

-- both functions agree under all valuations
abbrev pub Agree : List Vertex → ℕ → ℕ → Type 0
Agree vertices i j = (vars : ℕ → Bool) → holds vertices vars i ≡ holds vertices vars j

-- with a value for a branch's variable, the branch is one of those to which it leads
branch-with : (variables : ℕ) (vertices : List Vertex) (vars : ℕ → Bool) (i v : ℕ) (high low : Function) (b : Bool) → IsReduced variables vertices
    → i < length vertices → vertex_at vertices i ≡ Branch v high low → holds vertices (with_variable v b vars) i
    ≡ (if b then holds vertices (with_variable v b vars) high.place else holds vertices (with_variable v b vars) low.place)
branch-with variables vertices vars i v high low b reduced inside is =
    let set = with_variable v b vars in
    holds-branch variables vertices set i v high low reduced inside is
    ∙ ap (λ t. if t then holds vertices set high.place else holds vertices set low.place) (with_variable-here v b vars)

branch-high : (variables : ℕ) (vertices : List Vertex) (vars : ℕ → Bool) (i v : ℕ) (high low : Function) → IsReduced variables vertices → i < length vertices
    → vertex_at vertices i ≡ Branch v high low → high.place < length vertices → v < level_at variables vertices high.place
    → holds vertices (with_variable v true vars) i ≡ holds vertices vars high.place
branch-high variables vertices vars i v high low reduced inside is high_inside later =
    branch-with variables vertices vars i v high low true reduced inside is ∙ holds-unseen variables vertices vars v true high.place reduced high_inside later

branch-low : (variables : ℕ) (vertices : List Vertex) (vars : ℕ → Bool) (i v : ℕ) (high low : Function) → IsReduced variables vertices → i < length vertices
    → vertex_at vertices i ≡ Branch v high low → low.place < length vertices → v < level_at variables vertices low.place
    → holds vertices (with_variable v false vars) i ≡ holds vertices vars low.place
branch-low variables vertices vars i v high low reduced inside is low_inside later =
    branch-with variables vertices vars i v high low false reduced inside is ∙ holds-unseen variables vertices vars v false low.place reduced low_inside later

-- the places to which a branch leads are before it
before_branch : (variables : ℕ) (vertices : List Vertex) (k v : ℕ) (high low : Function) → IsReduced variables vertices → vertex_at vertices k ≡ Branch v high low
    → (high.place < k) × (low.place < k)
before_branch variables vertices k v high low reduced is = (
  reduced.order k high.place (subst (λ x. IsNext x high.place) (sym is) (inl refl)),
  reduced.order k low.place (subst (λ x. IsNext x low.place) (sym is) (inr refl)),
)

-- functions whose places are together before this one have one place, if they agree
abbrev PlacesAgree : List Vertex → ℕ → Type 0
PlacesAgree vertices sum = (a b : ℕ) → a + b < sum → a < length vertices → b < length vertices → Agree vertices a b → a ≡ b

-- a branch doesn't agree with a function of later variables alone
deeper : (variables : ℕ) (vertices : List Vertex) (a b v : ℕ) (high low : Function) → IsReduced variables vertices → PlacesAgree vertices (a + b)
    → a < length vertices → b < length vertices → Agree vertices a b
    → vertex_at vertices a ≡ Branch v high low → IsDecided variables vertices (Branch v high low) → v < level_at variables vertices b → ⊥
deeper variables vertices a b v high low reduced smaller a_inside b_inside both is decided later =
    let less = before_branch variables vertices a v high low reduced is in
    let high_is : high.place ≡ b = smaller high.place b (omega (arith, less.0)) (omega (arith, less.0)) b_inside
    (λ vars. sym (branch-high variables vertices vars a v high low reduced a_inside is (omega (arith, less.0)) decided.later_high)
    ∙ both (with_variable v true vars) ∙ holds-unseen variables vertices vars v true b reduced b_inside later) in
    let low_is : low.place ≡ b = smaller low.place b (omega (arith, less.1)) (omega (arith, less.1)) b_inside
    (λ vars. sym (branch-low variables vertices vars a v high low reduced a_inside is (omega (arith, less.1)) decided.later_low)
    ∙ both (with_variable v false vars) ∙ holds-unseen variables vertices vars v false b reduced b_inside later) in
    decided.differ (high_is ∙ sym low_is)

-- branches on one variable that agree lead to the same places
level_same : (variables : ℕ) (vertices : List Vertex) (i j v : ℕ) (high low others rest : Function) → IsReduced variables vertices → IsApart vertices
    → PlacesAgree vertices (i + j) → i < length vertices → j < length vertices → Agree vertices i j
    → vertex_at vertices i ≡ Branch v high low → vertex_at vertices j ≡ Branch v others rest
    → IsDecided variables vertices (Branch v high low) → IsDecided variables vertices (Branch v others rest) → i ≡ j
level_same variables vertices i j v high low others rest reduced apart smaller i_inside j_inside agree is_i is_j decided_i decided_j =
    let i_less = before_branch variables vertices i v high low reduced is_i in
    let j_less = before_branch variables vertices j v others rest reduced is_j in
    let high_is : high.place ≡ others.place = smaller high.place others.place (omega (arith, i_less.0, j_less.0)) (omega (arith, i_less.0)) (omega (arith, j_less.0))
    (λ vars. sym (branch-high variables vertices vars i v high low reduced i_inside is_i (omega (arith, i_less.0)) decided_i.later_high)
    ∙ agree (with_variable v true vars)
    ∙ branch-high variables vertices vars j v others rest reduced j_inside is_j (omega (arith, j_less.0)) decided_j.later_high) in
    let low_is : low.place ≡ rest.place = smaller low.place rest.place (omega (arith, i_less.1, j_less.1)) (omega (arith, i_less.1)) (omega (arith, j_less.1))
    (λ vars. sym (branch-low variables vertices vars i v high low reduced i_inside is_i (omega (arith, i_less.1)) decided_i.later_low)
    ∙ agree (with_variable v false vars)
    ∙ branch-low variables vertices vars j v others rest reduced j_inside is_j (omega (arith, j_less.1)) decided_j.later_low) in
    apart i j i_inside j_inside (is_i ∙ ap (λ p. Branch v (record { place = p }) low) high_is
    ∙ ap (λ p. Branch v others (record { place = p })) low_is ∙ sym is_j)

-- functions that agree under all valuations have one place, if that is so of all whose places are together before theirs
place_step : (variables : ℕ) (vertices : List Vertex) (i j : ℕ) → IsReduced variables vertices → IsApart vertices → PlacesAgree vertices (i + j)
    → i < length vertices → j < length vertices → Agree vertices i j
    → (x y : Vertex) → vertex_at vertices i ≡ x → vertex_at vertices j ≡ y → IsDecided variables vertices x → IsDecided variables vertices y → i ≡ j
place_step variables vertices i j reduced apart smaller i_inside j_inside agree (Leaf a) (Leaf b) is_i is_j decided_i decided_j =
    let same : a ≡ b = sym (holds-leaf variables vertices (λ v. false) i a reduced i_inside is_i) ∙ agree (λ v. false)
    ∙ holds-leaf variables vertices (λ v. false) j b reduced j_inside is_j in
    apart i j i_inside j_inside (is_i ∙ ap Leaf same ∙ sym is_j)
place_step variables vertices i j reduced apart smaller i_inside j_inside agree (Leaf a) (Branch w high low) is_i is_j decided_i decided_j =
    let level : level_at variables vertices i ≡ variables = level-leaf variables vertices i a is_i in
    absurd (deeper variables vertices j i w high low reduced (λ a b less. smaller a b (omega arith)) j_inside i_inside (λ vars. sym (agree vars)) is_j decided_j
    (omega (arith, decided_j.known)))
place_step variables vertices i j reduced apart smaller i_inside j_inside agree (Branch v high low) (Leaf b) is_i is_j decided_i decided_j =
    let level : level_at variables vertices j ≡ variables = level-leaf variables vertices j b is_j in
    absurd (deeper variables vertices i j v high low reduced smaller i_inside j_inside agree is_i decided_i (omega (arith, decided_i.known)))
place_step variables vertices i j reduced apart smaller i_inside j_inside agree (Branch v high low) (Branch w more less) is_i is_j decided_i decided_j =
    let level_i : level_at variables vertices i ≡ v = ap (level_of variables) is_i in
    let level_j : level_at variables vertices j ≡ w = ap (level_of variables) is_j in
    ⊎_elim
    (λ (first : v < w). absurd (deeper variables vertices i j v high low reduced smaller i_inside j_inside agree is_i decided_i (omega arith)))
    (λ (rest : (w < v) ⊎ (v ≡ w)). ⊎_elim
    (λ (second : w < v).
    absurd (deeper variables vertices j i w more less reduced (λ a b small. smaller a b (omega arith)) j_inside i_inside (λ vars. sym (agree vars)) is_j decided_j (omega arith)))
    (λ (same : v ≡ w). level_same variables vertices i j v high low more less reduced apart smaller i_inside j_inside agree is_i
    (is_j ∙ ap (λ k. Branch k more less) (sym same)) decided_i (subst (λ k. IsDecided variables vertices (Branch k more less)) (sym same) decided_j))
    rest)
    (either v w)
  where
    either : (m n : ℕ) → (m < n) ⊎ ((n < m) ⊎ (m ≡ n))
    either m n = grind arith

-- the same by induction on both places together
place-agree : (n variables : ℕ) (vertices : List Vertex) (i j : ℕ) → i + j < n → IsReduced variables vertices → IsApart vertices
    → i < length vertices → j < length vertices → Agree vertices i j → i ≡ j
place-agree zero variables vertices i j small reduced apart i_inside j_inside agree = absurd (omega arith)
place-agree (suc n) variables vertices i j small reduced apart i_inside j_inside agree =
    place_step variables vertices i j reduced apart (λ a b less. place-agree n variables vertices a b (omega arith) reduced apart)
    i_inside j_inside agree (vertex_at vertices i) (vertex_at vertices j) refl refl (reduced.decided i) (reduced.decided j)

-- functions of a reduced graph that agree under all valuations have one place
pub place-same : (variables : ℕ) (vertices : List Vertex) (i j : ℕ) → IsReduced variables vertices → IsApart vertices
    → i < length vertices → j < length vertices → Agree vertices i j → i ≡ j
place-same variables vertices i j reduced apart i_inside j_inside agree =
    place-agree (i + j + 1) variables vertices i j (omega arith) reduced apart i_inside j_inside agree
