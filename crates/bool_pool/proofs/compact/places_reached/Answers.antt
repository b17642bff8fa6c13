-- The set of the roots' places has what their list has.
use Rattle.std.proofs.Common.{get_or}
use Rattle.std.proofs.lemmas.List.Elements.{Contains-get_or}
use Rattle.std.proofs.lemmas.Result.{IfOk-weaker}
use Rattle.bool_pool.proofs.CollectLemmas.{roots_inside, listed_as_reached}
use Rattle.bool_pool.proofs.compact.places_reached.Goals as goal

pub reached_places-requires : goal.reached_places-requires
reached_places-requires c = λ k d inside.
    let places = c.in_ok-places.places.keys in
    roots_inside c.args.pool.now c.args.roots.now c.requires (get_or places k d)
    ((c.in_ok-places.ensures (get_or places k d)).0 (Contains-get_or places k d inside))

pub returns-clause-each : goal.returns-clause-each
returns-clause-each c =
    IfOk-weaker _ _ _ (λ found. listed_as_reached c.args.pool.now _ _ found.items c.in_ok-places.ensures) c.reached_places.ensures.each
