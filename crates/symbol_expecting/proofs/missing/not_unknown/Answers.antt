-- A node isn't X where one of its rails isn't there.
use Rattle.truth_parts.proofs.KeptLemmas.{passed_on}
use Rattle.symbol_expecting.specs.Missing.{MakesOn}
use Rattle.symbol_expecting.proofs.MissingLemmas.{makes_more, there_more, unknown_missed}
use Rattle.symbol_expecting.proofs.missing.not_unknown.Goals as goal

pub negated-requires : goal.negated-requires
negated-requires c = c.rails.ensures.high_has

pub negated-requires-2 : goal.negated-requires-2
negated-requires-2 c =
    there_more c.args.stage.now c.negated.new.self c.negated.ensures.makes c.rails.result.1 c.rails.ensures.low_has

pub either-requires : goal.either-requires
either-requires c = record {
  first = there_more c.negated.new.self c.negated-2.new.self c.negated-2.ensures.makes c.in_ok-no_one.no_one
      c.in_ok-no_one.ensures.inside;
  second = c.in_ok-no_zero.ensures.inside;
}

pub returns-in_err-no_one-clause-makes : goal.returns-in_err-no_one-clause-makes
returns-in_err-no_one-clause-makes c = record { makes = c.negated.ensures.makes; built = c.negated.ensures.built }

pub returns-in_err-no_one-clause-spent : goal.returns-in_err-no_one-clause-spent
returns-in_err-no_one-clause-spent c = passed_on _ c.from_residual.result _ c.from_residual.ensures.1 c.in_err-no_one.ensures.full

pub returns-in_err-no_zero-clause-makes : goal.returns-in_err-no_zero-clause-makes
returns-in_err-no_zero-clause-makes c =
    makes_more c.args.stage.now c.negated.new.self c.negated-2.new.self (record { makes = c.negated.ensures.makes; built = c.negated.ensures.built })
    (record { makes = c.negated-2.ensures.makes; built = c.negated-2.ensures.built })

pub returns-in_err-no_zero-clause-spent : goal.returns-in_err-no_zero-clause-spent
returns-in_err-no_zero-clause-spent c = passed_on _ c.from_residual-in_err-no_zero.result _ c.from_residual-in_err-no_zero.ensures.1 c.in_err-no_zero.ensures.full

pub returns-in_err-made-clause-makes : goal.returns-in_err-made-clause-makes
returns-in_err-made-clause-makes c =
    makes_more c.args.stage.now c.negated-2.new.self c.either.new.self
    (makes_more c.args.stage.now c.negated.new.self c.negated-2.new.self (record { makes = c.negated.ensures.makes; built = c.negated.ensures.built })
    (record { makes = c.negated-2.ensures.makes; built = c.negated-2.ensures.built })) (record { makes = c.either.ensures.makes; built = c.either.ensures.built })

pub returns-in_err-made-clause-spent : goal.returns-in_err-made-clause-spent
returns-in_err-made-clause-spent c = passed_on _ c.from_residual-in_err-made.result _ c.from_residual-in_err-made.ensures.1 c.in_err-made.ensures.full

pub returns-clause-makes : goal.returns-clause-makes
returns-clause-makes c =
    makes_more c.args.stage.now c.negated-2.new.self c.either.new.self
    (makes_more c.args.stage.now c.negated.new.self c.negated-2.new.self (record { makes = c.negated.ensures.makes; built = c.negated.ensures.built })
    (record { makes = c.negated-2.ensures.makes; built = c.negated-2.ensures.built })) (record { makes = c.either.ensures.makes; built = c.either.ensures.built })

pub returns-clause-value : goal.returns-clause-value
returns-clause-value c =
    let old = c.args.stage.now in
    let first = c.negated.new.self in
    let second = c.negated-2.new.self in
    let new = c.either.new.self in
    let made1 : MakesOn old first = record { makes = c.negated.ensures.makes; built = c.negated.ensures.built } in
    let made2 : MakesOn first second = record { makes = c.negated-2.ensures.makes; built = c.negated-2.ensures.built } in
    let made3 : MakesOn second new = record { makes = c.either.ensures.makes; built = c.either.ensures.built } in
    unknown_missed old c.args.node c.rails.result.0 c.rails.result.1 c.rails.ensures.one c.rails.ensures.zero first second new made1 made2 made3
    c.in_ok-no_one.no_one c.in_ok-no_zero.no_zero c.in_ok-made.made c.rails.ensures.low_has c.in_ok-no_one.ensures.inside c.in_ok-no_one.ensures.value
    c.in_ok-no_zero.ensures.value c.in_ok-made.ensures.value
