-- The names take the first of them, and the list the others.
use Rattle.std.proofs.Common.{◌≡◌, ℕ, List, length, take, drop, ap, ap₂, ◌∙◌, arith}
use Rattle.std.proofs.lemmas.List.{length-take-le}
use Rattle.decision_graph.specs.declared.vertex.Function.{Function}
use Rattle.formula_functions.specs.Tables.{table_of}
use Rattle.symbol_stage.proofs.tidying.put_back.Goals as goal

pub put_rest-requires : goal.put_rest-requires
put_rest-requires c =
    omega (
      arith,
      c.requires,
      ap (λ (list : List Function). length list) c.deref.ensures.value,
      ap (λ (list : List Function). length list) c.functions-functions.ensures.all,
    )

pub stand_for-requires : goal.stand_for-requires
stand_for-requires c =
    let count : length c.functions-functions.result.now ≡ length c.args.names.now.functions =
    ap (λ (list : List Function). length list) c.functions-functions.ensures.all in
    let long : length (take (length c.functions-functions.result.now) c.args.found.items) ≡ length c.functions-functions.result.now =
    length-take-le (length c.functions-functions.result.now) c.args.found.items (omega (arith, c.requires, count)) in
    ap (λ (list : List Function). length list) c.truncate.ensures.items ∙ long ∙ count

pub returns-clause-names : goal.returns-clause-names
returns-clause-names c =
    let count : length c.functions-functions.result.now ≡ length c.args.names.now.functions =
    ap (λ (list : List Function). length list) c.functions-functions.ensures.all in
    c.stand_for.ensures
    ∙ ap (λ (list : List Function). table_of c.args.names.now.names list) (c.truncate.ensures.items ∙ ap (λ (n : ℕ). take n c.args.found.items) count)

pub returns-clause-kept : goal.returns-clause-kept
returns-clause-kept c =
    let count : length c.functions-functions.result.now ≡ length c.args.names.now.functions =
    ap (λ (list : List Function). length list) c.functions-functions.ensures.all in
    c.put_rest.ensures ∙ ap₂ (λ (n : ℕ) (list : List Function). drop n list) count c.deref.ensures.value
