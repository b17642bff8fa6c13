-- The first refusal is that of an item before which there is none.
use Rattle.std.proofs.Common.{◌≡◌, ◌∙◌, ℕ, List, None, sym, ap, arith}
use Rattle.std.proofs.lemmas.List.{drop_all}
use Rattle.truth_parts.proofs.KeptLemmas.{passed_on}
use Rattle.script_lang.specs.declared.value.Value.{Value}
use Rattle.node_values.specs.Givings.{letters_given}
use Rattle.session_meaning.specs.Refusals.{first_refusal, given_refusal, none_at}
use Rattle.session_meaning.proofs.ItemLemmas.{refusal-next}
use Rattle.symbol_expecting.proofs.FaultLemmas.{item_refused, of_item, refusal_stops}
use Rattle.symbol_expecting.proofs.allowing.allow_all.Goals as goal

pub returns-in_err-allow_value-clause-refused : goal.returns-in_err-allow_value-clause-refused
returns-in_err-allow_value-clause-refused c =
    let item = c.loop-name-item.result in
    let refusal = λ (one : List ℕ × Value). given_refusal none_at (letters_given c.args.circuit.now c.args.vectors.now one) in
    passed_on _ c.from_residual.result _ c.from_residual.ensures.1
    (refusal_stops refusal c.args.list.now c.loop-name.name-index item _ (omega arith) c.loop-name-item.is c.loop-name.invariant
    (item_refused refusal item c.items.result.now _ c.items.ensures c.in_err-allow_value.ensures.refused))

pub loop-name-preserved : goal.loop-name-preserved
loop-name-preserved c =
    let item = c.loop-name-item.result in
    let refusal = λ (one : List ℕ × Value). given_refusal none_at (letters_given c.args.circuit.now c.args.vectors.now one) in
    let none : refusal item ≡ None =
    of_item (λ (one : List ℕ × Value). refusal one ≡ None) item c.items.result.now c.items.ensures c.in_ok-allow_value.ensures.allowed in
    refusal-next refusal c.args.list.now c.loop-name.name-index item (omega arith) c.loop-name-item.is none ∙ c.loop-name.invariant

pub returns-clause-allowed : goal.returns-clause-allowed
returns-clause-allowed c =
    sym c.loop-name.invariant
    ∙ ap (first_refusal (λ (one : List ℕ × Value). given_refusal none_at (letters_given c.args.circuit.now c.args.vectors.now one)))
    (drop_all c.loop-name.name-index c.args.list.now (omega arith))
