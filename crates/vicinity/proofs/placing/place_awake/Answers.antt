-- What is asleep afterwards rests, and no more is touched than what the node stirs.
use Rattle.std.proofs.Common.{ℕ, inl, inr, refl, sym, subst}
use Rattle.std.specs.Prelude.{slice_set}
use Rattle.switch_paths.specs.Graphs.{IsStorage}
use Rattle.vicinity.specs.Arms.{ListsLive}
use Rattle.vicinity.specs.Touching.{SwitchChanges, RestsAsleep}
use Rattle.vicinity.specs.NodeSets.{IsIn}
use Rattle.vicinity.proofs.FloodLemmas.{Wakes-listed}
use Rattle.vicinity.proofs.PlaceLemmas.{placed_rests}
use Rattle.vicinity.proofs.placing.place_awake.Goals as goal

pub returns-clause-group : goal.returns-clause-group
returns-clause-group c = λ group is_group rests.
    let graph = c.args.graph.now in
    let old = c.args.state.now in
    let node = c.args.node in
    let again = c.take_state.new.touched.list in
    let listed = c.lists_what_is_in_it-2.ensures.listed in
    let last = c.take_state.ensures.touches in
    let marks = c.take_state.new.touched.inside in
    let lists = c.args.lists.now.ends in
    let live : ListsLive graph old lists = λ place n other leads. (c.requires.lists.live n place).1 (other, leads) in
    let next = Wakes-listed graph old lists node c.live.result.now live c.live.ensures.value c.wake.new.awake c.wake_along.new.awake c.wake_along.ensures.wakes in
    let woken : (n : ℕ) → IsIn c.wake.new.awake.inside n → IsIn marks n = λ n is. last.stays n (c.wake_along.ensures.wakes.stays n is) in
    let changes : (n : ℕ) → IsStorage graph n → SwitchChanges graph old (slice_set old node c.args.value) n → IsIn marks n =
    λ n storage changed. last.all n storage (subst (λ new. SwitchChanges graph old new n) (sym c.take_state.ensures.state) changed) in
    let rest = placed_rests graph c.graphs_are_wired.ensures old node c.args.value group is_group c.args.touched.now.list rests again
    (λ n there. listed n (woken n (c.wake.ensures.stays n (c.lists_what_is_in_it.ensures.only n there))))
    (λ storage. listed node (woken node (c.wake.ensures.all node refl storage)))
    (λ n leads storage. listed n (last.stays n (next.all n leads storage)))
    (λ n storage changed. listed n (changes n storage changed)) in
    subst (λ new. RestsAsleep graph new group.members again) (sym c.take_state.ensures.state) rest

pub returns-clause-only : goal.returns-clause-only
returns-clause-only c = λ other there.
    elim (c.take_state.ensures.touches.only other (c.lists_what_is_in_it-2.ensures.only other there)) [
      | inr (storage, changes) ↦ inr (storage, inr (inr changes))
      | inl woken ↦
          elim (c.wake_along.ensures.wakes.only other woken) [
            | inr ((place, _, leads), storage) ↦ inr (storage, inr (inl (place, leads)))
            | inl first ↦
                elim (c.wake.ensures.only other first) [
                  | inr (same, storage) ↦ inr (storage, inl same)
                  | inl before ↦ inl (c.lists_what_is_in_it.ensures.listed other before)
                ]
          ]
    ]
