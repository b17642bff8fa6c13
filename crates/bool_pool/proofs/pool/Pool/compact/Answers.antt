-- Each place can be copied in turn, and after the last one the copies are those of all that the roots reach.
use Rattle.std.proofs.Common.{◌<◌, get_or, take, nat_eq, ap, arith}
use Rattle.std.specs.Map.{lookup}
use Rattle.std.proofs.lemmas.List.{take_more}
use Rattle.std.proofs.lemmas.List.Elements.{Contains-get_or}
use Rattle.indexmap.specs.IndexMap.{get}
use Rattle.bool_pool.specs.Compact.{places_of, IsCompacted}
use Rattle.bool_pool.proofs.CollectLemmas.{AnyReaches-inside, AnyReaches-operand, roots_inside, listed_below, below_listed, root_reached}
use Rattle.bool_pool.proofs.CopyLemmas.{AreCopied-none, AreCopied-all, IsCompacted-copied, length-found, found_inside}
use Rattle.bool_pool.proofs.pool.Pool.compact.Goals as goal

pub loop-place-init : goal.loop-place-init
loop-place-init c =
    AreCopied-none c.args.self.now c.with_keys.result _ c.with_keys.ensures (λ k. ap (lookup (nat_eq k)) c.with_hasher.ensures.empty)

pub add-requires-clause-inside : goal.add-requires-clause-inside
add-requires-clause-inside c =
    let seen = c.deref-place-items.result.now in
    let each = rw (← c.deref-place-items.ensures.value) at c.in_ok-places.ensures.each in
    let index = c.loop-place.place-index in
    AnyReaches-inside c.args.self.now (places_of c.args.roots.now) (get_or seen index 0)
    (roots_inside c.args.self.now c.args.roots.now c.requires)
    ((each (get_or seen index 0)).0 (Contains-get_or seen index 0 (omega arith)))

pub add-requires-clause-operands : goal.add-requires-clause-operands
add-requires-clause-operands c = λ k operand.
    let seen = c.deref-place-items.result.now in
    let rises = rw (← c.deref-place-items.ensures.value) at c.in_ok-places.ensures.ascending in
    let each = rw (← c.deref-place-items.ensures.value) at c.in_ok-places.ensures.each in
    let index = c.loop-place.place-index in
    let place = get_or seen index 0 in
    let earlier : k < place = c.gates_are_apart.ensures.order place k operand in
    c.loop-place.invariant.each k
    (below_listed seen rises index (omega arith) k
    ((each k).1
    (AnyReaches-operand c.args.self.now (places_of c.args.roots.now) place k
    ((each place).0 (Contains-get_or seen index 0 (omega arith))) earlier operand))
    earlier)

pub add-requires-clause-ids : goal.add-requires-clause-ids
add-requires-clause-ids c = λ k id is. (c.loop-place.invariant.copies k id is).inside

pub loop-place-preserved : goal.loop-place-preserved
loop-place-preserved c =
    let seen = c.deref-place-items.result.now in
    let rises = rw (← c.deref-place-items.ensures.value) at c.in_ok-places.ensures.ascending in
    let index = c.loop-place.place-index in
    rw (take_more seen index 0 (omega arith))
    (c.in_ok-add.ensures (take index seen) (listed_below seen rises index (omega arith)) c.loop-place.invariant)

pub ids_of-requires : goal.ids_of-requires
ids_of-requires c = λ k d inside.
    let places = c.in_ok-places.places.items in
    let copied = AreCopied-all c.args.self.now places c.deref-place-items.result.now c.loop-place.place-index c.loop-place.copies.pool
    (get nat_eq c.loop-place.copies.ids) c.deref-place-items.ensures.value (omega arith) c.loop-place.invariant in
    let place = (get_or c.args.roots.now k d).place in
    copied.each place ((c.in_ok-places.ensures.each place).1 (root_reached c.args.self.now c.args.roots.now k d inside))

-- the found formulas are the roots in a pool of their own
compacted : (c : goal.After-drop-places-2) → IsCompacted c.args.self.now c.args.roots.now c.loop-place.copies.pool c.in_ok-found.found.items
compacted c =
    let places = c.in_ok-places.places.items in
    let copied = AreCopied-all c.args.self.now places c.deref-place-items.result.now c.loop-place.place-index c.loop-place.copies.pool
    (get nat_eq c.loop-place.copies.ids) c.deref-place-items.ensures.value (omega arith) c.loop-place.invariant in
    IsCompacted-copied c.args.self.now c.loop-place.copies.pool c.args.roots.now c.in_ok-found.found.items places
    (get nat_eq c.loop-place.copies.ids) c.gates_are_apart.ensures.order c.gates_are_apart.ensures.apart c.gates_are_apart-2.ensures.order
    (λ i reached. AnyReaches-inside c.args.self.now (places_of c.args.roots.now) i
    (roots_inside c.args.self.now c.args.roots.now c.requires) reached)
    c.in_ok-places.ensures.each copied c.in_ok-found.ensures

pub returns-clause-count : goal.returns-clause-count
returns-clause-count c = length-found _ _ _ _ (compacted c)

pub returns-clause-inside : goal.returns-clause-inside
returns-clause-inside c = found_inside _ _ _ _ (compacted c)

pub returns-clause-compacted : goal.returns-clause-compacted
returns-clause-compacted c = compacted c
