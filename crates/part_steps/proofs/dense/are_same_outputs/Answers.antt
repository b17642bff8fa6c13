-- Each output is the same.
use Rattle.std.proofs.Common.{◌≡◌, sym, ◌∙◌}
use Rattle.std.proofs.lemmas.Bool.{OnTrue_from}
use Rattle.straight_code.specs.contracts.code.OutputPartialEq.TheImpl as output
use Rattle.part_steps.proofs.SameCodes.{output_same, same_lists}
use Rattle.part_steps.proofs.dense.are_same_outputs.Goals as goal

pub returns : goal.returns
returns c =
    OnTrue_from c.eq.result (c.args.these.now ≡ c.args.others.now) (λ is.
    same_lists output.eq-value.it output_same c.args.these.now c.args.others.now (sym c.eq.ensures ∙ is))
