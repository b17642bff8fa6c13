-- The function of the name waits before what waited.
use Rattle.std.proofs.Common.{◌∷◌, sym, ap, ◌∙◌, subst}
use Rattle.formula_functions.specs.Tables.{AreInside, values_under}
use Rattle.formula_functions.proofs.TableLemmas.{AreInside-more}
use Rattle.formula_functions.proofs.MakingLemmas.{graph_stays}
use Rattle.formula_functions.proofs.making.take_name.Goals as goal

pub returns-clause-inside : goal.returns-clause-inside
returns-clause-inside c =
    let vertices = c.args.graph.now.vertices in
    subst (AreInside vertices) (sym c.in_ok-push.ensures.ok)
    (AreInside-more vertices vertices c.named-function.result c.args.waiting.now (graph_stays vertices) c.requires.waiting c.named-function.ensures.inside)

pub returns-clause-values : goal.returns-clause-values
returns-clause-values c = λ vars.
    let vertices = c.args.graph.now.vertices in
    ap (values_under vertices vars) c.in_ok-push.ensures.ok
    ∙ ap (λ value. value ∷ values_under vertices vars c.args.waiting.now) (c.named-function.ensures.value vars)
