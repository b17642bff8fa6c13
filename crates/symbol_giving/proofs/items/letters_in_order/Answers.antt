-- One item more: the letters that were made are what they were.
use Rattle.std.proofs.Common.{◌++◌, List, All, map, sym, ap, subst, arith}
use Rattle.std.proofs.lemmas.List.Elements.{All-nil, All-push}
use Rattle.truth_parts.proofs.KeptLemmas.{passed_on}
use Rattle.symbol_meaning.specs.Readings.{letter_under}
use Rattle.symbol_giving.specs.declared.letters.SymbolLetter.{SymbolLetter}
use Rattle.symbol_giving.specs.Letters.{IsLetterOf, letter_in, named_in}
use Rattle.symbol_giving.proofs.LetterLemmas.{letters_own, only_both, only_columns, only_keeps, only_none, table_more}
use Rattle.symbol_giving.proofs.ItemLemmas.{items_end, items_on, spent_by_memory}
use Rattle.symbol_giving.proofs.items.letters_in_order.Goals as goal

pub loop-item-init : goal.loop-item-init
loop-item-init c = record {
  only = only_none c.args.session.now;
  letters = λ column inside.
      let stage = c.args.session.now.stage in
      ap (λ (letters : List SymbolLetter). map (letter_in stage column) letters ++ map (letter_under (named_in stage c.args.table.now column)) c.args.items.now)
      c.new-letters.ensures.items;
  own = subst (All (IsLetterOf c.args.session.now.stage)) (sym c.new-letters.ensures.items) (All-nil (IsLetterOf c.args.session.now.stage));
}

pub item_letter-requires : goal.item_letter-requires
item_letter-requires c = table_more c.args.session.now.stage c.loop-item.session.stage c.args.table.now c.loop-item.invariant.only.makes c.requires

pub loop-item-preserved : goal.loop-item-preserved
loop-item-preserved c =
    let first = c.args.session.now in
    let now = c.loop-item.session in
    let later = c.item_letter.new.session in
    let inv = c.loop-item.invariant in
    let made = c.item_letter.ensures.only in
    record {
      only = only_both first now later inv.only made;
      letters = items_on first now later c.args.table.now c.args.items.now c.loop-item.item-index c.item-item.result inv.only made c.requires (omega arith)
          c.item-item.is c.loop-item.letters.items c.in_ok-letter.letter c.push.new.letters.items c.in_ok-push.ensures.ok inv.own c.in_ok-letter.ensures.letter
          inv.letters;
      own = subst (All (IsLetterOf later.stage)) (sym c.in_ok-push.ensures.ok)
          (All-push (IsLetterOf later.stage) c.loop-item.letters.items c.in_ok-letter.letter
          (letters_own now.stage later.stage (only_columns now later made) (only_keeps now later made) c.loop-item.letters.items inv.own)
          c.in_ok-letter.ensures.own);
    }

pub returns-in_err-letter-clause-only : goal.returns-in_err-letter-clause-only
returns-in_err-letter-clause-only c =
    only_both c.args.session.now c.loop-item.session c.item_letter.new.session c.loop-item.invariant.only c.item_letter.ensures.only

pub returns-in_err-letter-clause-spent : goal.returns-in_err-letter-clause-spent
returns-in_err-letter-clause-spent c = passed_on _ c.from_residual.result _ c.from_residual.ensures.1 c.in_err-letter.ensures.spent

pub returns-in_err-push-clause-only : goal.returns-in_err-push-clause-only
returns-in_err-push-clause-only c =
    only_both c.args.session.now c.loop-item.session c.item_letter.new.session c.loop-item.invariant.only c.item_letter.ensures.only

pub returns-in_err-push-clause-spent : goal.returns-in_err-push-clause-spent
returns-in_err-push-clause-spent c =
    passed_on _ c.from_residual-in_err-push.result _ c.from_residual-in_err-push.ensures.1
    (spent_by_memory c.item_letter.new.session.stage _ c.in_err-push.ensures.room)

pub returns-clause-letters : goal.returns-clause-letters
returns-clause-letters c = λ column inside.
    let values = named_in c.args.session.now.stage c.args.table.now column in
    items_end values c.args.items.now c.loop-item.item-index (map (letter_in c.loop-item.session.stage column) c.loop-item.letters.items) (omega arith)
    (c.loop-item.invariant.letters column inside)

pub returns-clause-own : goal.returns-clause-own
returns-clause-own c = c.loop-item.invariant.own

pub returns-clause-only : goal.returns-clause-only
returns-clause-only c = c.loop-item.invariant.only
