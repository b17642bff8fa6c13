-- What a maker of functions says of a node's rails is what is told of the node: the letter that it has under all valuations, and the first column in
-- which it isn't as a formula wants it.
use Rattle.std.proofs.Common.{◌≡◌, ◌≢◌, ℕ, ◌<◌, ◌^◌, true, false, List, length, Option, Some, None, sym, ◌∙◌, true≢false, arith}
use Rattle.std.specs.Prelude.{IfSome, IfNone}
use Rattle.std.proofs.lemmas.Nat.{pow_pos}
use Rattle.ternary.specs.declared.tern.Tern.{Tern}
use Rattle.ternary.specs.Tern.{may_one, may_zero}
use Rattle.decision_graph.specs.declared.vertex.Vertex.{Vertex}
use Rattle.decision_graph.specs.Vertices.{IsReduced}
use Rattle.truth_makers.specs.Valuations.{holds_in, valuation_of, IsFirstColumn}
use Rattle.truth_makers.specs.Expecting.{IsMissed, IsStateOfAll, state_of_truth}
use Rattle.truth_makers.proofs.LetterLemmas.{state_in_columns, states_differ}
use Rattle.symbol_meaning.specs.Merging.{IsOfAll}

-- the state that is found for a node's rails is the letter that it has in all columns; if none is, two columns differ
pub letter_of_rails : (variables : ℕ) (vertices : List Vertex) (hi lo : ℕ) (states : ℕ → Tern) →
    ((column : ℕ) → column < 2 ^ variables → holds_in variables vertices column hi ≡ may_one (states column)) →
    ((column : ℕ) → column < 2 ^ variables → holds_in variables vertices column lo ≡ may_zero (states column)) →
    IsReduced variables vertices → hi < length vertices → lo < length vertices → (found : Option Tern) → IfSome found (IsStateOfAll vertices hi lo) →
    IfNone found ((state : Tern) → IsStateOfAll vertices hi lo state → ⊥) → IsOfAll (2 ^ variables) states found
letter_of_rails variables vertices hi lo states ones zeros reduced high low (Some state) is differs =
    state_in_columns variables vertices hi lo states ones zeros state is
letter_of_rails variables vertices hi lo states ones zeros reduced high low None is differs =
    let (column, inside, other) = states_differ variables vertices hi lo states ones zeros reduced high low differs in
    (column, 0, inside, pow_pos variables, other)

-- where the function of what is missed holds, the node hasn't the state that is wanted, and elsewhere it has
module _ (variables : ℕ) (old new : List Vertex) (hi lo wanted made : ℕ) (states : ℕ → Tern)
    (ones : (column : ℕ) → column < 2 ^ variables → holds_in variables old column hi ≡ may_one (states column))
    (zeros : (column : ℕ) → column < 2 ^ variables → holds_in variables old column lo ≡ may_zero (states column))
    (missed : IsMissed old new hi lo wanted made) where
  pub missed_in_column : (column : ℕ) → column < 2 ^ variables → holds_in variables new column made ≡ true →
      states column ≢ state_of_truth (holds_in variables old column wanted)
  missed_in_column column inside held = λ same.
      let unheld = (missed (valuation_of variables column) (states column) (ones column inside) (zeros column inside)).1 same in
      true≢false (sym held ∙ unheld)

  pub met_in_column : (column : ℕ) → column < 2 ^ variables → holds_in variables new column made ≡ false →
      states column ≡ state_of_truth (holds_in variables old column wanted)
  met_in_column column inside unheld =
      (missed (valuation_of variables column) (states column) (ones column inside) (zeros column inside)).0 unheld

  -- so the first column in which it holds is the first in which the node isn't as it is wanted
  pub first_missed : (column : ℕ) → IsFirstColumn variables new made column →
      (states column ≢ state_of_truth (holds_in variables old column wanted))
      × ((other : ℕ) → other < column → states other ≡ state_of_truth (holds_in variables old other wanted))
  first_missed column first = (
    missed_in_column column first.inside first.held,
    λ other before. met_in_column other (omega (arith, before, first.inside)) (first.earlier other before),
  )
