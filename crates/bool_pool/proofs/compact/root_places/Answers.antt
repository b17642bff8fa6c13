-- One formula's place more, and at last all of them.
use Rattle.std.proofs.Common.{◌↔◌, List, Contains, get_or, subst, arith}
use Rattle.std.proofs.lemmas.List.{take_all}
use Rattle.bool_pool.specs.declared.gate.Id.{Id}
use Rattle.bool_pool.specs.Compact.{places_of}
use Rattle.bool_pool.proofs.CollectLemmas.{Contains-inserted, places_of-more}
use Rattle.bool_pool.proofs.compact.root_places.Goals as goal

pub loop-root-preserved : goal.loop-root-preserved
loop-root-preserved c = λ place.
    let roots = c.args.roots.now in
    let k = c.loop-root.root-index in
    places_of-more roots k place c.loop-root.places.keys c.insert.new.self.keys (omega arith)
    (Contains-inserted c.loop-root.places c.insert.new.self (get_or roots k (record { place = 0 })).place place c.in_ok-insert.ensures.updates)
    (c.loop-root.invariant place)

pub returns : goal.returns
returns c = λ place.
    subst (λ (ids : List Id). Contains c.loop-root.places.keys place ↔ Contains (places_of ids) place)
    (take_all c.loop-root.root-index c.args.roots.now (omega arith)) (c.loop-root.invariant place)
