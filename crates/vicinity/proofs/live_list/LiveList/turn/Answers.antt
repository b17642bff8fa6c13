-- The list is written anew, and the place turned at the border.
use Rattle.std.proofs.Common.{◌≡◌, ℕ, List, length, ap, subst, ◌∙◌}
use Rattle.std.specs.Prelude.{slice_index}
use Rattle.std.specs.List.Sorted.{IsPermutation}
use Rattle.smallvec.specs.SmallVec.{with_items}
use Rattle.smallvec.proofs.SmallVecLemmas.{items-with_items}
use Rattle.vicinity.specs.Turning.{Turns}
use Rattle.vicinity.proofs.TurnLemmas.{once_permuted}
use Rattle.vicinity.proofs.LiveListLemmas.{TurnsIn-turned}
use Rattle.vicinity.proofs.live_list.LiveList.turn.Goals.{After-turn-self-inside}
use Rattle.vicinity.proofs.live_list.LiveList.turn.Goals as goal

-- the list that was written
written : (c : After-turn-self-inside) → (with_items c.self.inside.places c.turn-self-inside.new.list).items ≡ c.turn-self-inside.new.list
written c =
    items-with_items c.self.inside.places c.turn-self-inside.new.list
    (c.turn-self-inside.ensures.turns.count ∙ ap (λ (xs : List ℕ). length xs) c.as_mut_slice.ensures.value)

permutes : (c : After-turn-self-inside) → IsPermutation c.self.inside.places.items c.turn-self-inside.new.list
permutes c = subst (λ xs. IsPermutation xs c.turn-self-inside.new.list) c.as_mut_slice.ensures.value c.turn-self-inside.ensures.permutation

pub invariant_of-self : goal.invariant_of-self
invariant_of-self c =
    let at_end = (goal.at.invariant_of-self c).After-turn-self-inside in
    rw (written at_end) (
      c.turn-self-inside.ensures.turns.within,
      once_permuted c.self.inside.places.items c.turn-self-inside.new.list (permutes at_end) c.self.invariant.1,
    )

pub returns : goal.returns
returns c =
    let i = c.self.inside in
    let at_end = (goal.at.returns c).After-turn-self-inside in
    let place_is : slice_index i.places.items c.in-Some.spot ≡ c.args.place = rw c.as_slice.ensures at c.in-Some.ensures.there in
    let turns : Turns c.args.live c.args.place i.places.items i.border c.turn-self-inside.new.list c.turn-self-inside.result =
    rw (c.as_mut_slice.ensures.value, place_is) at c.turn-self-inside.ensures.turns in
    record {
      turns = rw (← c.self.view_is, written at_end)
          (TurnsIn-turned c.args.live c.args.place i.places.items i.border c.turn-self-inside.new.list c.turn-self-inside.result (permutes at_end) turns);
    }
