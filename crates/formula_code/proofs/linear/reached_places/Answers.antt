-- The places of one pair more, and at last of all pairs.
use Rattle.std.proofs.Common.{get_or, arith}
use Rattle.std.proofs.lemmas.List.Elements.{Contains-get_or}
use Rattle.std.proofs.lemmas.Option.{slice_get-get_or}
use Rattle.std.proofs.lemmas.Result.{IfOk-weaker}
use Rattle.bool_pool.specs.declared.gate.Rails.{Rails}
use Rattle.bool_pool.proofs.CollectLemmas.{Contains-inserted_two}
use Rattle.formula_code.proofs.PlaceLemmas.{IsRoot-more, IsRoot-inside, listed_as_reached}
use Rattle.formula_code.proofs.linear.reached_places.Goals as goal

pub loop-rails-init : goal.loop-rails-init
loop-rails-init c = λ place. (λ held. absurd (omega (arith, held.1, c.new-roots.ensures.len)), λ root. absurd (omega (arith, root.before)))

pub loop-rails-preserved : goal.loop-rails-preserved
loop-rails-preserved c = λ place.
    let outs = c.args.outs.now in
    let k = c.loop-rails.rails-index in
    let rails : Rails = get_or outs k (record { hi = record { place = 0 }; lo = record { place = 0 } }) in
    IsRoot-more outs k place rails c.loop-rails.roots.keys c.insert-in-loop-rails.new.self.keys (slice_get-get_or outs k _ (omega arith))
    (Contains-inserted_two c.loop-rails.roots c.insert.new.self c.insert-in-loop-rails.new.self rails.hi.place rails.lo.place place
    c.in_ok-insert.ensures.updates c.in_ok-insert-2.ensures.updates)
    (c.loop-rails.invariant place)

pub reached_places-requires : goal.reached_places-requires
reached_places-requires c = λ k d inside.
    let roots = c.loop-rails.roots.keys in
    IsRoot-inside c.args.pool.now c.args.outs.now c.loop-rails.rails-index (get_or roots k d) c.requires
    ((c.loop-rails.invariant (get_or roots k d)).0 (Contains-get_or roots k d inside))

pub returns-clause-each : goal.returns-clause-each
returns-clause-each c =
    IfOk-weaker _ _ _
    (λ found. listed_as_reached c.args.pool.now c.args.outs.now c.loop-rails.roots.keys found.items c.loop-rails.rails-index
    (omega arith) c.loop-rails.invariant)
    c.reached_places.ensures.each
