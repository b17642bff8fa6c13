-- The state that a node has under all valuations is the one that it has in all columns; if it has none, two columns have different ones.
use Rattle.std.proofs.Common.{◌≡◌, ◌≢◌, ℕ, zero, suc, ◌<◌, ◌^◌, ◌⊎◌, inl, inr, List, length, refl, sym, ap, ◌∙◌, arith}
use Rattle.std.proofs.lemmas.Bool.{cases_lt}
use Rattle.ternary.specs.declared.tern.Tern.{Tern}
use Rattle.ternary.specs.declared.tern.Tern.TheVariants.{Zero, One, Unk}
use Rattle.ternary.specs.Tern.{may_one, may_zero}
use Rattle.ternary.proofs.TernLemmas.{same_or_other}
use Rattle.decision_graph.specs.declared.vertex.Vertex.{Vertex}
use Rattle.decision_graph.specs.Vertices.{IsReduced}
use Rattle.decision_graph.proofs.AgreeLemmas.{holds-known}
use Rattle.truth_makers.specs.Valuations.{column_of, holds_in, valuation_of}
use Rattle.truth_makers.specs.Expecting.{IsStateOfAll}
use Rattle.truth_makers.proofs.SymbolLemmas.{column_of-lt, valuation_of-column}

-- the first of several columns have one state, or one of them another
pub other_column : (states : ℕ → Tern) (own : Tern) (columns : ℕ) →
    ((column : ℕ) → column < columns → states column ≡ own) ⊎ ((column : ℕ) × (column < columns) × (states column ≢ own))
other_column states own zero = inl (λ column inside. absurd (omega (arith, inside)))
other_column states own (suc columns) = by (same_or_other (states columns) own) (other_column states own columns)
  where
    by : ((states columns ≡ own) ⊎ (states columns ≢ own)) →
        (((column : ℕ) → column < columns → states column ≡ own) ⊎ ((column : ℕ) × (column < columns) × (states column ≢ own))) →
        ((column : ℕ) → column < suc columns → states column ≡ own) ⊎ ((column : ℕ) × (column < suc columns) × (states column ≢ own))
    by last (inr other) = inr (other.0, omega (arith, other.1), other.2)
    by (inr other) (inl same) = inr (columns, omega arith, other)
    by (inl last) (inl same) = inl (λ column inside. elim (cases_lt column columns) [
      | inl below ↦ same column below
      | inr above ↦ ap states (let e : column ≡ columns = omega (arith, inside, above) in e) ∙ last
    ])

-- a state with the rails of another is it
one_of_rails : (a b : Tern) → may_one a ≡ may_one b → may_zero a ≡ may_zero b → a ≡ b
one_of_rails Zero Zero one other = refl
one_of_rails Zero One one other = absurd (cc)
one_of_rails Zero Unk one other = absurd (cc)
one_of_rails One Zero one other = absurd (cc)
one_of_rails One One one other = refl
one_of_rails One Unk one other = absurd (cc)
one_of_rails Unk Zero one other = absurd (cc)
one_of_rails Unk One one other = absurd (cc)
one_of_rails Unk Unk one other = refl

module _ (variables : ℕ) (vertices : List Vertex) (hi lo : ℕ) (states : ℕ → Tern)
    (ones : (column : ℕ) → column < 2 ^ variables → holds_in variables vertices column hi ≡ may_one (states column))
    (zeros : (column : ℕ) → column < 2 ^ variables → holds_in variables vertices column lo ≡ may_zero (states column)) where
  -- a node with these rails that has a state under all valuations has it in all columns
  pub state_in_columns : (state : Tern) → IsStateOfAll vertices hi lo state → (column : ℕ) → column < 2 ^ variables → states column ≡ state
  state_in_columns state is column inside =
      let (one, other) = is (valuation_of variables column) in
      one_of_rails (states column) state (sym (ones column inside) ∙ one) (sym (zeros column inside) ∙ other)

  -- and one that has it in all columns has it under all valuations
  pub state_of_columns : IsReduced variables vertices → hi < length vertices → lo < length vertices → (state : Tern) →
      ((column : ℕ) → column < 2 ^ variables → states column ≡ state) → IsStateOfAll vertices hi lo state
  state_of_columns reduced high low state all vars =
      let column = column_of vars variables in
      let inside : column < 2 ^ variables = column_of-lt variables vars in
      let known = λ (v : ℕ) (below : v < variables). sym (valuation_of-column variables vars v below) in (
        holds-known variables vertices vars (valuation_of variables column) hi reduced high known ∙ ones column inside ∙ ap may_one (all column inside),
        holds-known variables vertices vars (valuation_of variables column) lo reduced low known ∙ zeros column inside ∙ ap may_zero (all column inside),
      )

  -- so if it has none, it has another state in some column than in the first
  pub states_differ : IsReduced variables vertices → hi < length vertices → lo < length vertices → ((state : Tern) → IsStateOfAll vertices hi lo state → ⊥) →
      (column : ℕ) × (column < 2 ^ variables) × (states column ≢ states 0)
  states_differ reduced high low never =
      elim (other_column states (states 0) (2 ^ variables)) [
        | inl same ↦ absurd (never (states 0) (state_of_columns reduced high low (states 0) same))
        | inr other ↦ other
      ]
