-- One hop on, and the end of the walk.
use Rattle.std.proofs.Common.{Some, None, arith}
use Rattle.switch_paths.specs.Walks.{stand_of}
use Rattle.switch_paths.proofs.WalkLemmas.{AreFactsFrom-next, AreFactsFrom-stopped, AreFactsFrom-end, AreFacts-from_root}
use Rattle.switch_paths.proofs.graph.Graph.walk_facts.Goals as goal

pub returns-in_err-facts : goal.returns-in_err-facts
returns-in_err-facts c =
    let g = c.args.self.now in
    let state = c.args.state.now in
    let nowhere = AreFactsFrom-stopped g state (stand_of c.loop-place.facts) c.deref-place-items.result.now
    c.loop-place.place-index
    (omega arith) c.in_err-facts.ensures.facts in
    rw c.from_residual.ensures
    (AreFacts-from_root g state c.args.walk.now.root c.args.walk.now.hops.items None (omega arith)
    (c.loop-place.invariant None nowhere))

pub loop-place-preserved : goal.loop-place-preserved
loop-place-preserved c = λ answer known.
    c.loop-place.invariant answer
    (AreFactsFrom-next c.args.self.now c.args.state.now
    (stand_of c.loop-place.facts) c.deref-place-items.result.now c.loop-place.place-index
    c.in_ok-facts.facts answer (omega arith) c.in_ok-facts.ensures.facts known)

pub returns : goal.returns
returns c =
    let g = c.args.self.now in
    let state = c.args.state.now in
    let facts = c.loop-place.facts in
    AreFacts-from_root g state c.args.walk.now.root c.args.walk.now.hops.items (Some facts) (omega arith)
    (c.loop-place.invariant (Some facts)
    (AreFactsFrom-end g state c.deref-place-items.result.now c.loop-place.place-index facts (omega arith)))
