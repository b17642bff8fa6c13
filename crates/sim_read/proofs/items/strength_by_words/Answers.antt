use Rattle.std.proofs.Common.{Some, None, ◌∙◌}
use Rattle.sim_read.proofs.ItemLemmas.{strength_of-gate}
use Rattle.sim_read.proofs.items.strength_by_words.Goals as goal

pub returns-in_err-strength : goal.returns-in_err-strength
returns-in_err-strength c =
    c.from_residual.ensures
    ∙ strength_of-gate c.args.profile c.loop-word.strength None
    c.in-Some.ensures.steps c.in-Some-after_prefix.ensures c.items_of.ensures c.in_err-strength.ensures
    ∙ c.loop-word.invariant

pub loop-word-preserved-in-Some-after_prefix : goal.loop-word-preserved-in-Some-after_prefix
loop-word-preserved-in-Some-after_prefix c =
    strength_of-gate c.args.profile c.loop-word.strength (Some c.in_ok-strength.strength)
    c.in-Some.ensures.steps c.in-Some-after_prefix.ensures c.items_of.ensures c.in_ok-strength.ensures
    ∙ c.loop-word.invariant
