-- The stage's function holds where the node hasn't that state.
use Rattle.std.proofs.lemmas.Result.{IfOk-weaker}
use Rattle.symbol_expecting.specs.Missing.{MakesOn}
use Rattle.symbol_expecting.proofs.MissingLemmas.{truth_missed}
use Rattle.symbol_expecting.proofs.missing.not_truth.Goals as goal

pub missed-requires : goal.missed-requires
missed-requires c = record { hi = c.rails.ensures.high_has; lo = c.rails.ensures.low_has; wanted = c.requires.function }

pub returns-clause-makes : goal.returns-clause-makes
returns-clause-makes c = record { makes = c.missed.ensures.makes; built = c.missed.ensures.built }

pub returns-clause-spent : goal.returns-clause-spent
returns-clause-spent c = c.missed.ensures.full

pub returns-clause-inside : goal.returns-clause-inside
returns-clause-inside c = c.missed.ensures.inside

pub returns-clause-value : goal.returns-clause-value
returns-clause-value c =
    let made : MakesOn c.args.stage.now c.missed.new.self = record { makes = c.missed.ensures.makes; built = c.missed.ensures.built } in
    IfOk-weaker c.missed.result _ _
    (λ own missed.
    truth_missed c.args.stage.now c.args.node c.rails.result.0 c.rails.result.1 c.rails.ensures.one c.rails.ensures.zero c.missed.new.self made c.args.function own
    missed) c.missed.ensures.missed
