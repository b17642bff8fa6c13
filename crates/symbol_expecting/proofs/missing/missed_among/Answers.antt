-- One node more.
use Rattle.std.proofs.Common.{ℕ, List, not, sym, ap, ◌∙◌, arith}
use Rattle.std.proofs.lemmas.List.{take_all}
use Rattle.truth_parts.proofs.KeptLemmas.{passed_on}
use Rattle.symbol_giving.specs.declared.letters.SymbolLetter.{SymbolLetter}
use Rattle.symbol_expecting.specs.Missing.{are_met_in, MakesOn}
use Rattle.symbol_expecting.proofs.MissingLemmas.{count_more, makes_more, makes_none, missed_next, own_more, there_more, wanted_at}
use Rattle.symbol_expecting.proofs.missing.missed_among.Goals as goal

pub loop-k-init : goal.loop-k-init
loop-k-init c = record {
  makes = makes_none c.args.stage.now;
  inside = c.constant-made.ensures.has;
  value = c.constant-made.ensures.value;
}

pub missed_at-requires : goal.missed_at-requires
missed_at-requires c =
    let old = c.args.stage.now in
    let now = c.loop-k.stage in
    let inv = c.loop-k.invariant in
    let wanted = wanted_at old c.args.pairs.now c.loop-k.k c.pair_at-node.result c.requires c.loop-k-test.true (sym c.pair_at-node.ensures) in
    record {
      node = omega (arith, wanted.0, count_more old now inv.makes.makes);
      wanted = own_more old now inv.makes.makes c.pair_at-node.result.1 wanted.1;
    }

pub either-requires : goal.either-requires
either-requires c = record {
  first = there_more c.loop-k.stage c.missed_at.new.stage c.in_ok-own.ensures.makes.makes c.loop-k.made c.loop-k.invariant.inside;
  second = c.in_ok-own.ensures.inside;
}

pub loop-k-preserved : goal.loop-k-preserved
loop-k-preserved c =
    let old = c.args.stage.now in
    let now = c.loop-k.stage in
    let mid = c.missed_at.new.stage in
    let new = c.either.new.self in
    let inv = c.loop-k.invariant in
    let made : MakesOn mid new = record { makes = c.in_ok-more.ensures.makes; built = c.in_ok-more.ensures.built } in
    record {
      makes = makes_more old mid new (makes_more old now mid inv.makes c.in_ok-own.ensures.makes) made;
      inside = c.in_ok-more.ensures.inside;
      value = missed_next old now mid new inv.makes c.in_ok-own.ensures.makes made c.args.pairs.now c.loop-k.k c.pair_at-node.result c.loop-k.made
          c.in_ok-own.own c.in_ok-more.more c.requires c.loop-k-test.true (sym c.pair_at-node.ensures) inv.inside c.in_ok-own.ensures.inside inv.value
          c.in_ok-own.ensures.value c.in_ok-more.ensures.value;
    }

pub returns-in_err-own-clause-makes : goal.returns-in_err-own-clause-makes
returns-in_err-own-clause-makes c =
    makes_more c.args.stage.now c.loop-k.stage c.missed_at.new.stage c.loop-k.invariant.makes c.in_err-own.ensures.makes

pub returns-in_err-own-clause-spent : goal.returns-in_err-own-clause-spent
returns-in_err-own-clause-spent c = passed_on _ c.from_residual.result _ c.from_residual.ensures.1 c.in_err-own.ensures.spent

pub returns-in_err-more-clause-makes : goal.returns-in_err-more-clause-makes
returns-in_err-more-clause-makes c =
    makes_more c.args.stage.now c.missed_at.new.stage c.either.new.self
    (makes_more c.args.stage.now c.loop-k.stage c.missed_at.new.stage c.loop-k.invariant.makes c.in_ok-own.ensures.makes)
    (record { makes = c.in_err-more.ensures.makes; built = c.in_err-more.ensures.built })

pub returns-in_err-more-clause-spent : goal.returns-in_err-more-clause-spent
returns-in_err-more-clause-spent c = passed_on _ c.from_residual-in_err-more.result _ c.from_residual-in_err-more.ensures.1 c.in_err-more.ensures.full

pub returns-clause-value : goal.returns-clause-value
returns-clause-value c = λ column inside.
    c.loop-k.invariant.value column inside
    ∙ ap (λ (front : List (ℕ × SymbolLetter)). not (are_met_in c.args.stage.now front column))
    (take_all c.loop-k.k c.args.pairs.now (omega (arith, c.loop-k-test.false)))
