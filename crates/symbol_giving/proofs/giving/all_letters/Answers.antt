-- One assignment more: what was made so far is what it was.
use Rattle.std.proofs.Common.{ℕ, ◌≡◌, ◌<◌, ◌++◌, List, All, sym, ap, subst, arith}
use Rattle.std.proofs.lemmas.List.{drop_all}
use Rattle.std.proofs.lemmas.List.Elements.{All-nil}
use Rattle.truth_parts.proofs.KeptLemmas.{passed_on}
use Rattle.node_values.specs.Givings.{states_given}
use Rattle.symbol_script.specs.declared.line.Assignment.{Assignment}
use Rattle.symbol_stage.specs.declared.given.Letters.{Letters}
use Rattle.symbol_stage.specs.Given.{GivesLetters, letter_given}
use Rattle.symbol_stage.specs.Stages.{StageData, columns_on}
use Rattle.session_meaning.specs.Truths.{letters_in_column}
use Rattle.session_meaning.proofs.ItemLemmas.{given-end}
use Rattle.symbol_giving.specs.declared.letters.SymbolLetter.{SymbolLetter}
use Rattle.symbol_giving.specs.Letters.{IsLetterOf, pairs_in}
use Rattle.symbol_giving.specs.Giving.{states_in_column}
use Rattle.symbol_giving.proofs.LetterLemmas.{given_own, only_both, only_columns, only_keeps, only_none, table_more}
use Rattle.symbol_giving.proofs.GivingLemmas.{given_on, is_given_still, states_from}
use Rattle.symbol_giving.proofs.giving.all_letters.Goals as goal

pub loop-own-init : goal.loop-own-init
loop-own-init c =
    let session = c.args.session.now in
    record {
      only = only_none session;
      own = subst (All (λ (pair : ℕ × Letters). GivesLetters session.stage pair.1)) (sym c.new-given.ensures.items)
          (All-nil (λ (pair : ℕ × Letters). GivesLetters session.stage pair.1));
      states = λ column inside.
          ap (λ (given : List (ℕ × Letters)). letters_in_column letter_given session.stage given column ++ states_from c.args.table.now c.args.list.now session column 0)
          c.new-given.ensures.items;
    }

pub letters_of-requires-clause-table : goal.letters_of-requires-clause-table
letters_of-requires-clause-table c =
    table_more c.args.session.now.stage c.loop-own.session.stage c.args.table.now c.loop-own.invariant.only.makes c.requires.table

pub letters_of-requires-clause-given : goal.letters_of-requires-clause-given
letters_of-requires-clause-given c =
    is_given_still c.args.session.now c.loop-own.session c.args.list.now c.loop-own.own-index c.own-item.result c.loop-own.invariant.only (omega arith) c.own-item.is
    c.requires.given

pub add_given-requires-clause-letters : goal.add_given-requires-clause-letters
add_given-requires-clause-letters c =
    let now = c.letters_of.new.session.stage in
    subst (λ (stage : StageData). All (λ (pair : ℕ × SymbolLetter). IsLetterOf stage pair.1) c.deref.result.now) (sym c.stage.ensures.value)
    (rw c.deref.ensures.value c.in_ok-pairs.ensures.own)

pub add_given-requires-clause-own : goal.add_given-requires-clause-own
add_given-requires-clause-own c =
    let old = c.loop-own.session in
    let now = c.letters_of.new.session in
    let made = c.letters_of.ensures.only in
    subst (λ (stage : StageData). All (λ (pair : ℕ × Letters). GivesLetters stage pair.1) c.loop-own.given.items) (sym c.stage.ensures.value)
    (given_own old.stage now.stage (only_columns old now made) (only_keeps old now made) c.loop-own.given.items c.loop-own.invariant.own)

pub loop-own-preserved : goal.loop-own-preserved
loop-own-preserved c =
    let first = c.args.session.now in
    let now = c.loop-own.session in
    let later = c.letters_of.new.session in
    let made = c.letters_of.ensures.only in
    let given = c.loop-own.given.items in
    let more = c.add_given.new.given.items in
    let pairs = c.in_ok-pairs.pairs.items in
    let grown : (column : ℕ) → column < columns_on later.stage →
    letters_in_column letter_given later.stage more column
    ≡ letters_in_column letter_given later.stage given column ++ states_given (pairs_in later.stage pairs column) =
    rw (c.stage.ensures.value, c.deref.ensures.value) at c.in_ok-add_given.ensures.states in
    record {
      only = only_both first now later c.loop-own.invariant.only made;
      own = rw c.stage.ensures.value at c.in_ok-add_given.ensures.own;
      states = given_on first now later c.args.table.now c.args.list.now c.loop-own.own-index c.own-item.result c.loop-own.invariant.only made c.requires.table
          (omega arith) c.own-item.is given more pairs c.in_ok-pairs.ensures.letters c.loop-own.invariant.own grown c.loop-own.invariant.states;
    }

pub returns-in_err-pairs-clause-only : goal.returns-in_err-pairs-clause-only
returns-in_err-pairs-clause-only c =
    only_both c.args.session.now c.loop-own.session c.letters_of.new.session c.loop-own.invariant.only c.letters_of.ensures.only

pub returns-in_err-add_given-clause-only : goal.returns-in_err-add_given-clause-only
returns-in_err-add_given-clause-only c =
    only_both c.args.session.now c.loop-own.session c.letters_of.new.session c.loop-own.invariant.only c.letters_of.ensures.only

pub returns-in_err-pairs-clause-spent : goal.returns-in_err-pairs-clause-spent
returns-in_err-pairs-clause-spent c = passed_on _ c.from_residual.result _ c.from_residual.ensures.1 c.in_err-pairs.ensures.spent

pub returns-clause-only : goal.returns-clause-only
returns-clause-only c = c.loop-own.invariant.only

pub returns-in_err-add_given-clause-spent : goal.returns-in_err-add_given-clause-spent
returns-in_err-add_given-clause-spent c =
    passed_on _ c.from_residual-in_err-add_given.result _ c.from_residual-in_err-add_given.ensures.1
    (rw c.stage.ensures.value at c.in_err-add_given.ensures.spent)

pub returns-clause-own : goal.returns-clause-own
returns-clause-own c = c.loop-own.invariant.own

pub returns-clause-states : goal.returns-clause-states
returns-clause-states c = λ column inside.
    given-end (letters_in_column letter_given c.loop-own.session.stage c.loop-own.given.items column) _ _ (c.loop-own.invariant.states column inside)
    (ap (λ (left : List Assignment). states_in_column c.args.table.now left c.args.session.now column) (drop_all c.loop-own.own-index c.args.list.now (omega arith)))
