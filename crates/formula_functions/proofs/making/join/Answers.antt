-- What the sign makes of both waits in their place.
use Rattle.std.proofs.Common.{◌≡◌, ap, ap₂, ◌∙◌}
use Rattle.decision_graph.specs.Meaning.{holds}
use Rattle.formulas.specs.Formulas.{sign_value}
use Rattle.formula_functions.specs.Tables.{values_under}
use Rattle.formula_functions.specs.Truths.{but_last, last_of}
use Rattle.formula_functions.proofs.TableLemmas.{made_inside, made_values}
use Rattle.formula_functions.proofs.making.join.Goals as goal

pub returns-clause-inside : goal.returns-clause-inside
returns-clause-inside c =
    made_inside c.args.graph.now.vertices c.joined.new.graph.vertices c.in_ok-made.made c.last-first.new.waiting _ c.in_ok-push.ensures.ok c.joined.ensures.extends
    c.last-first.ensures.others_inside c.in_ok-made.ensures.inside

pub returns-clause-values : goal.returns-clause-values
returns-clause-values c = λ vars.
    let old = c.args.graph.now.vertices in
    let all = values_under old vars c.args.waiting.now in
    let first_is : holds old vars c.last-first.result.place ≡ last_of (but_last all) =
    c.last-first.ensures.value vars ∙ ap last_of (c.last-second.ensures.others vars) in
    let rest_is : values_under old vars c.last-first.new.waiting ≡ but_last (but_last all) =
    c.last-first.ensures.others vars ∙ ap but_last (c.last-second.ensures.others vars) in
    made_values old c.joined.new.graph.vertices vars c.in_ok-made.made c.last-first.new.waiting _ _ _ c.in_ok-push.ensures.ok c.joined.ensures.extends
    c.last-first.ensures.others_inside (c.in_ok-made.ensures.value vars ∙ ap₂ (sign_value c.args.sign) first_is (c.last-second.ensures.value vars)) rest_is
