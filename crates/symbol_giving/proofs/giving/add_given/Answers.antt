-- One node more.
use Rattle.std.proofs.Common.{◌+◌, ℕ, List, get_or, drop, ap, arith}
use Rattle.std.proofs.lemmas.List.{drop_all, get_or_default}
use Rattle.truth_parts.proofs.KeptLemmas.{passed_on}
use Rattle.node_values.specs.Givings.{states_given}
use Rattle.symbol_stage.specs.Given.{letter_given}
use Rattle.session_meaning.specs.Truths.{letters_in_column}
use Rattle.session_meaning.proofs.ItemLemmas.{given-end, given-next}
use Rattle.symbol_giving.specs.declared.letters.SymbolLetter.{SymbolLetter}
use Rattle.symbol_giving.specs.declared.letters.SymbolLetter.TheVariants.{Any}
use Rattle.symbol_giving.specs.Letters.{pairs_in}
use Rattle.symbol_giving.proofs.GivingLemmas.{states_next}
use Rattle.symbol_giving.proofs.giving.add_given.Goals as goal

pub add_letter-requires-clause-letter : goal.add_letter-requires-clause-letter
add_letter-requires-clause-letter c = c.requires.letters c.loop-node.node-index (0, Any) c.loop-node-test.true

pub add_letter-requires-clause-own : goal.add_letter-requires-clause-own
add_letter-requires-clause-own c = c.loop-node.invariant.own

pub loop-node-preserved : goal.loop-node-preserved
loop-node-preserved c =
    let stage = c.args.stage.now in
    let pairs = c.args.pairs.now in
    let place = c.loop-node.node-index in
    let pair : ℕ × SymbolLetter = get_or pairs place (0, Any) in
    let is = get_or_default pairs place (0, Any) pair c.loop-node-test.true in
    record {
      own = c.in_ok-add_letter.ensures.own;
      states = λ column inside.
          given-next (letters_in_column letter_given stage c.loop-node.given.items column) _
          (letters_in_column letter_given stage c.add_letter.new.given.items column) (states_given (pairs_in stage (drop place pairs) column))
          (states_given (pairs_in stage (drop (place + 1) pairs) column)) _ (c.loop-node.invariant.states column inside)
          (states_next stage column pairs place pair c.loop-node-test.true is) (c.in_ok-add_letter.ensures.states column inside);
    }

pub returns-in_err-add_letter-clause-spent : goal.returns-in_err-add_letter-clause-spent
returns-in_err-add_letter-clause-spent c = passed_on _ c.from_residual.result _ c.from_residual.ensures.1 c.in_err-add_letter.ensures.spent

pub returns-clause-own : goal.returns-clause-own
returns-clause-own c = c.loop-node.invariant.own

pub returns-clause-states : goal.returns-clause-states
returns-clause-states c = λ column inside.
    given-end (letters_in_column letter_given c.args.stage.now c.loop-node.given.items column) _ _ (c.loop-node.invariant.states column inside)
    (ap (λ (left : List (ℕ × SymbolLetter)). states_given (pairs_in c.args.stage.now left column)) (drop_all c.loop-node.node-index c.args.pairs.now (omega arith)))
