-- The negation waits in the place of its operand.
use Rattle.std.proofs.Common.{not, ap, ◌∙◌}
use Rattle.formula_functions.proofs.TableLemmas.{made_inside, made_values}
use Rattle.formula_functions.proofs.making.negate.Goals as goal

pub returns-clause-inside : goal.returns-clause-inside
returns-clause-inside c =
    made_inside c.args.graph.now.vertices c.not.new.self.vertices c.in_ok-made.made c.last-operand.new.waiting _ c.in_ok-push.ensures.ok c.not.ensures.extends
    c.last-operand.ensures.others_inside c.in_ok-made.ensures.inside

pub returns-clause-values : goal.returns-clause-values
returns-clause-values c vars =
    made_values c.args.graph.now.vertices c.not.new.self.vertices vars c.in_ok-made.made c.last-operand.new.waiting _ _ _ c.in_ok-push.ensures.ok c.not.ensures.extends
    c.last-operand.ensures.others_inside (c.in_ok-made.ensures.value vars ∙ ap not (c.last-operand.ensures.value vars)) (c.last-operand.ensures.others vars)
