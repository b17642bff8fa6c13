-- One touched node more, and then one node more from which the flood looks.
use Rattle.std.proofs.lemmas.List.Elements.{Contains-get_or}
use Rattle.vicinity.specs.Spreading.{cost_at}
use Rattle.vicinity.proofs.PassLemmas.{listed_cost, sum_below-same, sum_below-more}
use Rattle.std.proofs.Common.{◌≡◌, ℕ, ◌<◌, List, length, ap, ◌∙◌, subst, arith, ◌+◌, ◌≤◌, sym}
use Rattle.std.specs.Prelude.{Contains, slice_index}
use Rattle.std.proofs.lemmas.List.{take_all, length-append, get_or_append_left}
use Rattle.vicinity.specs.NodeSets.{IsIn}
use Rattle.vicinity.specs.Flooding.{Wakes, IsNext, IsFlooding}
use Rattle.vicinity.proofs.FloodLemmas.{Wakes-touched, Wakes-listed, IsFlooding-start, IsFlooding-more, flooded}
use Rattle.vicinity.proofs.flood.flood.Goals as goal

pub loop-node-preserved : goal.loop-node-preserved
loop-node-preserved g c = record {
  wakes = Wakes-touched c.args.graph.now c.args.touched.now c.loop-node.node-index c.loop-node-test.true c.args.awake.now c.loop-node.awake c.wake.new.awake
      c.loop-node.invariant.wakes c.wake.ensures;
  steps = c.loop-node.invariant.steps;
}

pub loop-count-init : goal.loop-count-init
loop-count-init g c =
    let seeds : Wakes c.args.graph.now (Contains c.args.touched.now) c.args.awake.now c.loop-node.awake =
    rw (take_all c.loop-node.node-index c.args.touched.now (omega arith)) at c.loop-node.invariant.wakes in
    record {
      flooding = IsFlooding-start c.args.graph.now c.args.state.now c.args.touched.now c.args.awake.now c.loop-node.awake c.requires.empty seeds;
      count = seeds.count ∙ c.requires.nodes;
      steps = omega (arith, c.loop-node.invariant.steps);
      within = omega arith;
    }

pub loop-count-preserved : goal.loop-count-preserved
loop-count-preserved g c =
    let graph = c.args.graph.now in
    let state = c.args.state.now in
    let old = c.loop-count.awake in
    let new = c.look_along.new.awake in
    let count = c.loop-count.count in
    let cost : ℕ → ℕ = cost_at c.args.lists.now in
    let inside : count < length old.list = omega (arith, c.loop-count-test.true, c.len.ensures.value) in
    let wakes : Wakes graph (IsNext graph state c.at-node.result) old new =
    Wakes-listed graph state c.args.lists.now c.at-node.result c.listed.result.now c.requires.lists c.listed.ensures.value old new c.look_along.ensures.wakes in
    let at_node : Wakes graph (IsNext graph state (slice_index old.list count)) old new =
    subst (λ n. Wakes graph (IsNext graph state n) old new) c.at-node.ensures.value wakes in
    let is : IsIn old.inside (slice_index old.list count) = subst (IsIn old.inside) c.at-node.ensures.value c.at-node.ensures.inside in
    let front : (j : ℕ) → j < length old.list → slice_index new.list j ≡ slice_index old.list j =
    λ j before. ap (λ (list : List ℕ). slice_index list j) wakes.list ∙ get_or_append_left old.list wakes.more 0 j before in
    let so_far = sum_below-same (λ j. cost (slice_index new.list j)) (λ j. cost (slice_index old.list j)) count
    (λ j before. ap cost (front j (omega (arith, before, inside)))) in
    let here : cost (slice_index new.list count) ≡ 1 + length c.listed.result.now =
    ap cost (front count inside ∙ sym c.at-node.ensures.value) ∙ ap (λ (places : List ℕ). 1 + length places) (sym c.listed.ensures.value) in
    record {
      flooding = IsFlooding-more graph state c.args.touched.now count old new inside is c.loop-count.invariant.flooding at_node;
      count = wakes.count ∙ c.loop-count.invariant.count;
      steps = omega (
        arith,
        c.loop-count.invariant.steps,
        c.tick.ensures,
        c.look_along.ensures.steps,
        so_far,
        here,
        sum_below-more (λ j. cost (slice_index new.list j)) count,
      );
      within = omega (arith, inside, ap (λ (list : List ℕ). length list) wakes.list, length-append old.list wakes.more);
    }

pub returns-clause-all : goal.returns-clause-all
returns-clause-all g c =
    let set = c.loop-count.awake in
    let last : c.loop-count.count ≡ length set.list = omega (arith, c.loop-count-test.false, c.len.ensures.value, c.loop-count.invariant.within) in
    flooded c.args.graph.now c.args.state.now c.args.touched.now set
    (subst (λ n. IsFlooding c.args.graph.now c.args.state.now c.args.touched.now n set) last c.loop-count.invariant.flooding) c.len.ensures.listed

pub returns-clause-steps : goal.returns-clause-steps
returns-clause-steps g c =
    let set = c.loop-count.awake in
    let last : c.loop-count.count ≤ length set.list = c.loop-count.invariant.within in
    let most = listed_cost (cost_at c.args.lists.now) set.list c.loop-count.count set.inside last c.len.ensures.once
    (λ j before. c.len.ensures.only (slice_index set.list j) (Contains-get_or set.list j 0 (omega (arith, before, last)))) in
    omega (arith, most, c.loop-count.invariant.steps)
