-- The function that is found has the name's truth value; without one the name is false.
use Rattle.std.proofs.Common.{◌<◌, length, sym, ◌∙◌, subst}
use Rattle.decision_graph.specs.declared.vertex.Function.{Function}
use Rattle.decision_graph.specs.Meaning.{holds}
use Rattle.formula_functions.proofs.making.named.Goals as goal

pub returns-in-Some-clause-inside : goal.returns-in-Some-clause-inside
returns-in-Some-clause-inside c =
    let (k, inside, same) = c.in-Some.ensures.among in
    subst (λ (function : Function). function.place < length c.args.graph.now.vertices) same (c.requires k c.in-Some.function inside)

pub returns-in-Some-clause-value : goal.returns-in-Some-clause-value
returns-in-Some-clause-value c = λ vars.
    sym (c.in-Some.ensures.value (λ (function : Function). holds c.args.graph.now.vertices vars function.place))

pub returns-in-None-clause-value : goal.returns-in-None-clause-value
returns-in-None-clause-value c = λ vars.
    c.constant.ensures.value vars
    ∙ sym (c.in-None.ensures.value (λ (function : Function). holds c.args.graph.now.vertices vars function.place))
