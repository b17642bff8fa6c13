-- One part more, as long as the formulas of its text.
use Rattle.std.proofs.Common.{List, ◌+◌, ◌<◌, ◌≤◌, [], ◌∷◌, ◌++◌, length, map, refl, ap, ◌∙◌, arith}
use Rattle.std.proofs.lemmas.List.{map-append, take_all}
use Rattle.std.specs.Global.{Vec}
use Rattle.bool_pool.specs.declared.gate.Id.{Id}
use Rattle.node_elimination.specs.HeldTable.{lists_of, shown}
use Rattle.node_elimination.proofs.HeldTableLemmas.{AreSplit-more, length-lists, part_inside}
use Rattle.node_elimination.proofs.held.split_formulas.Goals.{After-formulas_at}
use Rattle.node_elimination.proofs.held.split_formulas.Goals as goal

pub loop-place-init : goal.loop-place-init
loop-place-init c = record { passed = refl; parts = λ moved are. ap (map (λ (ids : Vec Id). ids.items)) c.new-split.ensures.items }

-- the part of a text ends where there are formulas
part_ends : (c : After-formulas_at) → c.loop-place.at + length c.formulas_at.result.now ≤ length c.args.found.now
part_ends c =
    let rows = c.args.held.now.entries in
    let lists = lists_of (shown rows) in
    let place = c.loop-place.place in
    let inside : place < length lists = omega (arith, c.loop-place-test.true, c.len-place-end.ensures.len, length-lists rows) in
    omega (arith, part_inside lists place inside, ap length c.formulas_at.ensures, c.loop-place.invariant.passed, c.requires)

pub overflow_add-end : goal.overflow_add-end
overflow_add-end c = omega (arith, part_ends (goal.at.overflow_add-end c).After-formulas_at)

pub offset_bounds-found-at : goal.offset_bounds-found-at
offset_bounds-found-at c = omega (arith, part_ends (goal.at.offset_bounds-found-at c).After-formulas_at)

pub slice_bounds-from_slice-count : goal.slice_bounds-from_slice-count
slice_bounds-from_slice-count c = omega arith

pub slice_bounds-from_slice-start : goal.slice_bounds-from_slice-start
slice_bounds-from_slice-start c = omega arith

pub slice_bounds-from_slice-end : goal.slice_bounds-from_slice-end
slice_bounds-from_slice-end c = omega (arith, part_ends (goal.at.slice_bounds-from_slice-end c).After-formulas_at)

pub loop-place-preserved : goal.loop-place-preserved
loop-place-preserved c =
    let rows = c.args.held.now.entries in
    let lists = lists_of (shown rows) in
    let place = c.loop-place.place in
    let inside : place < length lists = omega (arith, c.loop-place-test.true, c.len-place-end.ensures.len, length-lists rows) in
    let shown_ids : Vec Id → List Id = λ ids. ids.items in
    AreSplit-more lists c.args.found.now place c.loop-place.at (map shown_ids c.loop-place.split.items) (map shown_ids c.push.new.self.items)
    c.formulas_at.result.now inside c.formulas_at.ensures
    (ap (map shown_ids) c.in_ok-push.ensures.items
    ∙ map-append shown_ids c.loop-place.split.items (c.in_ok-from_slice.field-0 ∷ [])
    ∙ ap (λ part. map shown_ids c.loop-place.split.items ++ part ∷ []) c.in_ok-from_slice.ensures.items)
    c.loop-place.invariant

pub returns : goal.returns
returns c =
    let rows = c.args.held.now.entries in
    let lists = lists_of (shown rows) in
    λ moved are.
    c.loop-place.invariant.parts moved are
    ∙ ap (map (map moved)) (take_all c.loop-place.place lists (omega (arith, c.loop-place-test.false, c.len-place-end.ensures.len, length-lists rows)))
