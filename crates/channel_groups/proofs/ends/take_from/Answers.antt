-- All but the place stay, by a filter or by the last one that moves.
use Rattle.std.proofs.Common.{◌≡◌, ◌==◌, ◌<◌, List, ℕ, length, not, sym, subst, rules}
use Rattle.std.specs.Prelude.{slice_index_or}
use Rattle.std.specs.List.{swap_remove}
use Rattle.list_facts.specs.Taking.{TakesOut}
use Rattle.channel_groups.proofs.ListingLemmas.{filter-from_retain}
use Rattle.list_facts.proofs.TakingLemmas.{TakesOut-filtered, TakesOut-swapped}
use Rattle.channel_groups.proofs.ends.take_from.Goals.{After-swap_remove}
use Rattle.channel_groups.proofs.ends.take_from.Goals as goal

pub returns-in_default-clause-taken : goal.returns-in_default-clause-taken
returns-in_default-clause-taken c =
    let kept = filter-from_retain _ (λ one. not (one == c.args.place)) _ (λ x b f' y called. search rules) _ _ c.retain.ensures.filtered in
    subst (λ (ys : List ℕ). TakesOut c.args.place c.args.places.now.items ys) (sym kept) (TakesOut-filtered c.args.place c.args.places.now.items c.requires)

-- the place that stood at the spot is taken out by the last one
taken : (c : After-swap_remove) → TakesOut c.args.place c.args.places.now.items c.swap_remove.new.self.items
taken c =
    let xs = c.args.places.now.items in
    let whole : c.as_slice.result.now ≡ xs = c.as_slice.ensures in
    let within : c.in-Some.spot < length xs = subst (λ (ys : List ℕ). c.in-Some.spot < length ys) whole c.in-Some.ensures.within in
    let value : slice_index_or xs c.in-Some.spot 0 ≡ c.args.place = subst (λ (ys : List ℕ). slice_index_or ys c.in-Some.spot 0 ≡ c.args.place) whole c.in-Some.ensures.value in
    subst (λ (ys : List ℕ). TakesOut c.args.place xs ys) (sym c.swap_remove.ensures.items)
    (TakesOut-swapped xs c.in-Some.spot c.swap_remove.result within c.requires c.args.place value)

pub returns-then-spot-len-clause-taken : goal.returns-then-spot-len-clause-taken
returns-then-spot-len-clause-taken c = taken (goal.at.returns-then-spot-len-clause-taken c).After-swap_remove

pub returns-else-spot-len-clause-taken : goal.returns-else-spot-len-clause-taken
returns-else-spot-len-clause-taken c = taken (goal.at.returns-else-spot-len-clause-taken c).After-swap_remove
