-- One node more.
use Rattle.std.proofs.Common.{◌<◌, take, length, Contains, refl, ◌∙◌, arith}
use Rattle.std.proofs.lemmas.List.{take_all}
use Rattle.vicinity.specs.NodeSets.{IsIn}
use Rattle.vicinity.specs.Evaluating.{HasRails}
use Rattle.vicinity.proofs.EvaluationLemmas.{Notes-more, Notes-as, HasRails-tests}
use Rattle.vicinity.proofs.evaluation.note_all.Goals as goal

pub loop-place-preserved : goal.loop-place-preserved
loop-place-preserved c =
    let one = c.args.one.now in
    let zero = c.args.zero.now in
    let node = c.at-node.result in
    let value = c.response-value.result in
    let inside : c.loop-place.place < length c.args.awake.now.list = omega (arith, c.loop-place-test.true, c.len-count.ensures.value) in
    record {
      notes = Notes-more (HasRails one zero) c.args.joining c.args.state.now c.args.awake.now.list c.loop-place.place node value c.args.changes.now.items
          c.loop-place.changes.items c.note.new.changes.items inside c.at-node.ensures.value
          (HasRails-tests one zero node value c.response-value.ensures.one c.response-value.ensures.zero) c.loop-place.invariant.notes
          (c.note.ensures.notes c.args.state.now refl);
      capacity = c.note.ensures.capacity ∙ c.loop-place.invariant.capacity;
      len = omega (arith, c.note.ensures.len, c.loop-place.invariant.len);
    }

pub returns-clause-notes : goal.returns-clause-notes
returns-clause-notes c =
    let list = c.args.awake.now.list in
    let all = take_all c.loop-place.place list (omega (arith, c.loop-place-test.false, c.len-count.ensures.value)) in
    Notes-as (Contains (take c.loop-place.place list)) (IsIn c.args.awake.now.inside) (HasRails c.args.one.now c.args.zero.now)
    (HasRails c.args.one.now c.args.zero.now) c.args.joining c.args.state.now c.args.changes.now.items c.loop-place.changes.items
    (λ node is. rw all (c.len-count.ensures.listed node is)) (λ node there. c.len-count.ensures.only node (rw all at there))
    (λ node value there rails. rails) c.loop-place.invariant.notes
