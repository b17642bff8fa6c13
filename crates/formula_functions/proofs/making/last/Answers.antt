-- What came last, or a function that never holds.
use Rattle.std.proofs.Common.{◌<◌, length, sym, ap, ◌∙◌, subst}
use Rattle.decision_graph.specs.declared.vertex.Function.{Function}
use Rattle.decision_graph.specs.Meaning.{holds}
use Rattle.formula_functions.specs.Tables.{AreInside, values_under}
use Rattle.formula_functions.proofs.TableLemmas.{first-inside, first-value, rest-inside, rest-values}
use Rattle.formula_functions.proofs.making.last.Goals as goal

pub returns-clause-inside : goal.returns-clause-inside
returns-clause-inside c =
    let vertices = c.args.graph.now.vertices in
    subst (λ (function : Function). function.place < length vertices) (sym c.pop.ensures.first)
    (first-inside vertices c.constant-never.result c.args.waiting.now c.constant-never.ensures.inside c.requires)

pub returns-clause-value : goal.returns-clause-value
returns-clause-value c = λ vars.
    let vertices = c.args.graph.now.vertices in
    ap (λ (function : Function). holds vertices vars function.place) c.pop.ensures.first
    ∙ first-value vertices vars c.constant-never.result c.args.waiting.now (c.constant-never.ensures.value vars)

pub returns-clause-others_inside : goal.returns-clause-others_inside
returns-clause-others_inside c =
    subst (AreInside c.args.graph.now.vertices) (sym c.pop.ensures.others) (rest-inside c.args.graph.now.vertices c.args.waiting.now c.requires)

pub returns-clause-others : goal.returns-clause-others
returns-clause-others c = λ vars.
    ap (values_under c.args.graph.now.vertices vars) c.pop.ensures.others ∙ rest-values c.args.graph.now.vertices vars c.args.waiting.now
