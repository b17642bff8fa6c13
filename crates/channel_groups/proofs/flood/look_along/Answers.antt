-- One place more.
use Rattle.std.proofs.Common.{◌≡◌, ◌+◌, ◌<◌, inl, inr, Some, length, take, get_or, Contains, sym, arith}
use Rattle.std.proofs.lemmas.List.{take_more, take_all}
use Rattle.std.proofs.lemmas.List.Elements.{Contains-push_cases}
use Rattle.channel_groups.specs.Listing.{is_other}
use Rattle.channel_groups.proofs.FloodLemmas.{Sees-none, Sees-then, filter-count_more, filter-part}
use Rattle.channel_groups.proofs.flood.look_along.Goals as goal

pub loop-place-init : goal.loop-place-init
loop-place-init g c = record {
  sees = Sees-none c.args.graph.now c.args.node _ c.args.flood.now.nodes.keys c.args.flood.now.places.items
      (λ place n looked to. omega (arith, looked.0.1));
  steps = omega arith;
}

pub loop-place-preserved : goal.loop-place-preserved
loop-place-preserved g c =
    let places = c.args.places.now in
    let i = c.loop-place.place-index in
    let inside : i < length places = c.loop-place-test.true in
    record {
      sees =
          Sees-then c.args.graph.now c.args.node
          (λ place. Contains (take i places) place × ¬ (c.args.changed ≡ Some place))
          (λ place. (place ≡ get_or places i 0) × ¬ (c.args.changed ≡ Some place))
          (λ place. Contains (take (i + 1) places) place × ¬ (c.args.changed ≡ Some place))
          c.args.flood.now.nodes.keys c.loop-place.flood.nodes.keys c.look_at_other.new.flood.nodes.keys
          c.args.flood.now.places.items c.loop-place.flood.places.items c.look_at_other.new.flood.places.items
          c.loop-place.invariant.sees c.in_ok-look_at_other.ensures.sees
          (λ place both. elim (Contains-push_cases (take i places) (get_or places i 0) place (rw (take_more places i 0 inside) at both.0)) [
            | inl before ↦ inl (before, both.1)
            | inr same ↦ inr (sym same, both.1)
          ]);
      steps =
          let one = c.in_ok-look_at_other.ensures.steps in
          let so_far = c.loop-place.invariant.steps in
          omega (arith, one, so_far, filter-count_more (is_other c.args.changed) places i inside);
    }

pub returns : goal.returns
returns g c =
    let places = c.args.places.now in
    let all : take c.loop-place.place-index places ≡ places = take_all c.loop-place.place-index places (omega arith) in
    rw all at c.loop-place.invariant

pub returns-in_err-look_at_other-clause-steps : goal.returns-in_err-look_at_other-clause-steps
returns-in_err-look_at_other-clause-steps g c =
    let test = is_other c.args.changed in
    let places = c.args.places.now in
    let i = c.loop-place.place-index in
    let one = c.look_at_other.ensures.steps in
    let so_far = c.loop-place.invariant.steps in
    omega (arith, one, so_far, filter-count_more test places i c.loop-place-test.true, filter-part test places (i + 1))
