-- One part more was taken; when all were, what waits is the function.
use Rattle.std.proofs.Common.{ℕ, Bool, List, sym, ap, ◌∙◌, arith}
use Rattle.std.proofs.lemmas.List.{at_drop_all}
use Rattle.formulas.specs.declared.formula.Part.{Part}
use Rattle.formula_functions.specs.Tables.{named_under, values_under}
use Rattle.formula_functions.specs.Truths.{after_part, after_parts, last_of}
use Rattle.formula_functions.proofs.TableLemmas.{AreInside-extends}
use Rattle.formula_functions.proofs.MakingLemmas.{goes_on, graphs_follow, shapes_follow}
use Rattle.formula_functions.proofs.making.function_of.Goals as goal

pub take-requires-clause-table : goal.take-requires-clause-table
take-requires-clause-table c =
    AreInside-extends c.args.graph.now.vertices c.loop-part.graph.vertices c.args.table.now.functions c.loop-part.invariant.extends c.requires

pub loop-part-preserved : goal.loop-part-preserved
loop-part-preserved c =
    let loop = c.loop-part in
    let table = c.args.table.now in
    let values = λ (vars : ℕ → Bool).
    c.in_ok-take.ensures.values vars
    ∙ ap (after_part (named_under loop.graph.vertices vars table) (values_under loop.graph.vertices vars loop.waiting)) c.part-item.is in
    record {
      shape = shapes_follow _ _ _ loop.invariant.shape c.take.ensures.shape;
      extends = graphs_follow _ _ _ loop.invariant.extends c.take.ensures.extends;
      inside = c.in_ok-take.ensures.inside;
      values = goes_on table.names table.functions c.args.graph.now.vertices loop.graph.vertices c.take.new.graph.vertices c.args.formula.now loop.part-index
          c.part-item.result loop.waiting c.take.new.waiting loop.invariant.extends c.requires (omega arith) values loop.invariant.values;
    }

pub returns-clause-value : goal.returns-clause-value
returns-clause-value c = λ vars.
    let loop = c.loop-part in
    let names = named_under c.args.graph.now.vertices vars c.args.table.now in
    let waiting = values_under loop.graph.vertices vars loop.waiting in
    c.last-made.ensures.value vars
    ∙ ap last_of
    (sym (at_drop_all (λ (left : List Part). after_parts names left waiting) c.args.formula.now loop.part-index (omega arith))
    ∙ loop.invariant.values vars)
