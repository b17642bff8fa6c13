-- The formulas of one text more.
use Rattle.std.proofs.Common.{◌<◌, ◌++◌, length, take, sym, ap, ◌∙◌, arith}
use Rattle.std.proofs.lemmas.List.{take_all}
use Rattle.node_elimination.specs.Holding.{joined}
use Rattle.node_elimination.specs.HeldTable.{lists_of, shown}
use Rattle.node_elimination.proofs.HeldTableLemmas.{joined-more, length-lists}
use Rattle.node_elimination.proofs.held.all_formulas.Goals as goal

pub loop-place-preserved : goal.loop-place-preserved
loop-place-preserved c =
    let lists = lists_of (shown c.args.held.now.entries) in
    let place = c.loop-place.place in
    let inside : place < length lists = omega (arith, c.loop-place-test.true, c.len-place-end.ensures.len, length-lists c.args.held.now.entries) in
    c.in_ok-extend_from_slice.ensures.items
    ∙ ap (λ l. l ++ c.formulas_at.result.now) c.loop-place.invariant
    ∙ ap (λ l. joined (take place lists) ++ l) c.formulas_at.ensures
    ∙ sym (joined-more lists place inside)

pub returns : goal.returns
returns c =
    let lists = lists_of (shown c.args.held.now.entries) in
    c.loop-place.invariant
    ∙ ap joined (take_all c.loop-place.place lists (omega (arith, c.loop-place-test.false, c.len-place-end.ensures.len, length-lists c.args.held.now.entries)))
