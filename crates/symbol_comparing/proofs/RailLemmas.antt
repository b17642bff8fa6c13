-- The function in which rails differ: it doesn't hold exactly where they hold alike, node by node.
use Rattle.std.proofs.Common.{◌≡◌, ◌↔◌, ℕ, ◌+◌, ◌<◌, Bool, true, false, ◌||◌, inl, inr, refl, sym, ap, ◌∙◌, subst, arith, All, List, length}
use Rattle.std.proofs.lemmas.Bool.{cases_lt}
use Rattle.std.proofs.lemmas.List.Elements.{All-get_or}
use Rattle.decision_graph.specs.declared.vertex.Vertex.{Vertex}
use Rattle.decision_graph.specs.declared.vertex.Function.{Function}
use Rattle.decision_graph.specs.Meaning.{holds}
use Rattle.decision_graph.specs.Vertices.{Extends}
use Rattle.decision_graph.proofs.ValueLemmas.{holds-extends}
use Rattle.truth_makers.specs.declared.symbols.Symbols.{Symbols}
use Rattle.truth_makers.specs.Makers.{IsFunctionOf}
use Rattle.truth_makers.proofs.ExpectLemmas.{unlike}
use Rattle.symbol_comparing.specs.Rails.{RailLists, function_at, AreRailsOf, HoldAlike}

-- exactly one of two is true unless they are the same
unlike-same : (a b : Bool) → (unlike a b ≡ false) ↔ (a ≡ b)
unlike-same true true = (λ e. refl, λ e. refl)
unlike-same true false = (λ e. absurd (cc e), λ e. absurd (cc e))
unlike-same false true = (λ e. absurd (cc e), λ e. absurd (cc e))
unlike-same false false = (λ e. refl, λ e. refl)

-- none of two is true
none-of : (a b : Bool) → ((a || b) ≡ false) ↔ ((a ≡ false) × (b ≡ false))
none-of true b = (λ e. (e, absurd (cc e)), λ e. e.0)
none-of false b = (λ e. (refl, e), λ e. e.1)

-- the test of a node's rails, behind that of others
pub test_of_node : (made a b c d : Bool) → ((made || (unlike a b || unlike c d)) ≡ false) ↔ ((made ≡ false) × (a ≡ b) × (c ≡ d))
test_of_node made a b c d = (
  λ e.
      let parts = (none-of made (unlike a b || unlike c d)).0 e in
      let rails = (none-of (unlike a b) (unlike c d)).0 parts.1 in
      (parts.0, (unlike-same a b).0 rails.0, (unlike-same c d).0 rails.1),
  λ e.
      let (front, one, other) = e in
      (none-of made (unlike a b || unlike c d)).1
      (front, (none-of (unlike a b) (unlike c d)).1 ((unlike-same a b).1 one, (unlike-same c d).1 other)),
)

-- the functions of rails are those of their maker
pub inside_all : (symbols : Symbols) (rails : RailLists) → AreRailsOf symbols rails → (k : ℕ) → k < length rails.highs →
    ((function_at rails.highs k).place < length symbols.graph.vertices) × ((function_at rails.lows k).place < length symbols.graph.vertices)
inside_all symbols rails are k inside = (
  every_at (IsFunctionOf symbols) rails.highs k are.highs inside,
  every_at (IsFunctionOf symbols) rails.lows k are.lows (omega (arith, inside, are.columns.counted)),
)
  where
    every_at : (P : Function → Type 0) (list : List Function) (place : ℕ) → All P list → place < length list → P (function_at list place)
    every_at P list place all within = All-get_or P list place (record { place = 0 }) within all

-- also if another list tells how many they are
pub inside_even : (symbols : Symbols) (one other : RailLists) → AreRailsOf symbols other → length other.highs ≡ length one.highs → (k : ℕ) →
    k < length one.highs →
    ((function_at other.highs k).place < length symbols.graph.vertices) × ((function_at other.lows k).place < length symbols.graph.vertices)
inside_even symbols one other are even k inside = inside_all symbols other are k (omega (arith, inside, even))

-- one node more
pub alike_more : (old now new : List Vertex) (vars : ℕ → Bool) (one other : RailLists) (k : ℕ) (made more : ℕ) (high other_high low other_low : ℕ) →
    Extends old now → high ≡ (function_at one.highs k).place → other_high ≡ (function_at other.highs k).place →
    low ≡ (function_at one.lows k).place → other_low ≡ (function_at other.lows k).place →
    ((function_at one.highs k).place < length old) × ((function_at one.lows k).place < length old) →
    ((function_at other.highs k).place < length old) × ((function_at other.lows k).place < length old) →
    (holds now vars made ≡ false) ↔ HoldAlike old vars k one other →
    (holds new vars more ≡ false) ↔ ((holds now vars made ≡ false) × (holds now vars high ≡ holds now vars other_high) × (holds now vars low ≡ holds now vars other_low)) →
    (holds new vars more ≡ false) ↔ HoldAlike old vars (k + 1) one other
alike_more old now new vars one other k made more high other_high low other_low extends is_high is_other is_low is_last inside other_inside before tests = (
  λ unheld.
      let (front, highs, lows) = tests.0 unheld in
      let so_far = before.0 front in
      λ j below. elim (cases_lt j k) [
        | inl less ↦ so_far j less
        | inr past ↦
            let here : k ≡ j = omega (arith, past, below) in
            subst (λ (at : ℕ). (holds old vars (function_at one.highs at).place ≡ holds old vars (function_at other.highs at).place)
            × (holds old vars (function_at one.lows at).place ≡ holds old vars (function_at other.lows at).place)) here (
              sym (value high (function_at one.highs k).place is_high inside.0) ∙ highs ∙ value other_high (function_at other.highs k).place is_other other_inside.0,
              sym (value low (function_at one.lows k).place is_low inside.1) ∙ lows ∙ value other_low (function_at other.lows k).place is_last other_inside.1,
            )
      ],
  λ alike. tests.1 (
    before.1 (λ j below. alike j (omega (arith, below))),
    value high (function_at one.highs k).place is_high inside.0 ∙ (alike k (omega arith)).0
        ∙ sym (value other_high (function_at other.highs k).place is_other other_inside.0),
    value low (function_at one.lows k).place is_low inside.1 ∙ (alike k (omega arith)).1
        ∙ sym (value other_low (function_at other.lows k).place is_last other_inside.1),
  ),
)
  where
    value : (place own : ℕ) → place ≡ own → own < length old → holds now vars place ≡ holds old vars own
    value place own is within = ap (holds now vars) is ∙ holds-extends old now vars own extends within
