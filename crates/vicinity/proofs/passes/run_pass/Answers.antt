-- One node more starts; all that are awake have started, and those that aren't left have nothing to bring.
use Rattle.std.proofs.lemmas.List.Elements.{Contains-get_or}
use Rattle.vicinity.specs.Spreading.{cost_at}
use Rattle.std.specs.Prelude.{slice_index}
use Rattle.std.proofs.Common.{◌<◌, inl, inr, length, ◌∙◌, arith, ap, ◌≡◌}
use Rattle.std.proofs.lemmas.List.{take_all}
use Rattle.vicinity.proofs.PassLemmas.{AreStarted-more, rests_at_none, sources_grow, owed_within, listed_cost, sum_below-more}
use Rattle.vicinity.proofs.passes.run_pass.Goals as goal

pub loop-place-preserved : goal.loop-place-preserved
loop-place-preserved g c =
    let by = c.args.by.now in
    let inside : c.loop-place.place < length by.awake.now.list = omega (arith, c.loop-place-test.true, c.len-count.ensures.value) in
    record {
      started = AreStarted-more by.pass by.graph.now by.state.now by.floor.now by.awake.now.list c.loop-place.place c.at-node.result
          c.loop-place.left.inside c.start_at.new.left.inside c.loop-place.table c.start_at.new.table inside c.at-node.ensures.value
          c.loop-place.invariant.started c.start_at.ensures.starts;
      steps = omega (
        arith,
        c.start_at.ensures.steps,
        c.loop-place.invariant.steps,
        c.at-node.ensures.value,
        ap (cost_at by.lists.now) c.at-node.ensures.value,
        sum_below-more (λ j. cost_at by.lists.now (slice_index by.awake.now.list j)) c.loop-place.place,
      );
      count = c.start_at.ensures.starts.count ∙ c.loop-place.invariant.count;
      left = c.start_at.ensures.starts.left_count ∙ c.loop-place.invariant.left;
    }

pub spread-requires-clause-goes_on : goal.spread-requires-clause-goes_on
spread-requires-clause-goes_on g c =
    let by = c.args.by.now in
    let all = take_all c.loop-place.place by.awake.now.list (omega (arith, c.loop-place-test.false, c.len-count.ensures.value)) in
    record {
      lefts = c.loop-place.invariant.left ∙ c.requires.left;
      entries = c.loop-place.invariant.count ∙ c.requires.table;
      ways = λ node is. (c.loop-place.invariant.started.each node (rw all (c.len-count.ensures.listed node is))).way;
      within = λ node is. c.len-count.ensures.only node (rw all at (c.loop-place.invariant.started.only node is));
    }

pub spread-requires-clause-rest : goal.spread-requires-clause-rest
spread-requires-clause-rest g c = λ node is absent.
    let by = c.args.by.now in
    let all = take_all c.loop-place.place by.awake.now.list (omega (arith, c.loop-place-test.false, c.len-count.ensures.value)) in
    elim (c.loop-place.invariant.started.lefts node (rw all (c.len-count.ensures.listed node is))) [
      | inl is_left ↦ absurd (absent is_left)
      | inr none ↦ rests_at_none by.pass by.graph.now by.state.now by.floor.now by.awake.now.inside c.loop-place.table node none
    ]

pub returns-clause-entries : goal.returns-clause-entries
returns-clause-entries g c = record {
  ways = c.spread.ensures.ways;
  sources = λ node is.
      let by = c.args.by.now in
      let all = take_all c.loop-place.place by.awake.now.list (omega (arith, c.loop-place-test.false, c.len-count.ensures.value)) in
      sources_grow by.pass by.graph.now by.state.now by.floor.now node _ _ (c.spread.ensures.grows node)
      (c.loop-place.invariant.started.each node (rw all (c.len-count.ensures.listed node is))).sources;
  spread = c.spread.ensures.spread;
}

pub returns-clause-steps : goal.returns-clause-steps
returns-clause-steps g c =
    let by = c.args.by.now in
    let list = by.awake.now.list in
    let last : c.loop-place.place ≡ length list = omega (arith, c.loop-place-test.false, c.len-count.ensures.value, c.loop-place.auto.place-end) in
    let starts = listed_cost (cost_at by.lists.now) list c.loop-place.place by.awake.now.inside (omega (arith, last)) c.len-count.ensures.once
    (λ j before. c.len-count.ensures.only (slice_index list j) (Contains-get_or list j 0 (omega (arith, before, last)))) in
    let owes = owed_within by.lists.now by.awake.now.inside c.loop-place.table c.loop-place.left.inside in
    omega (arith, c.spread.ensures.steps, starts, c.loop-place.invariant.steps, owes)
