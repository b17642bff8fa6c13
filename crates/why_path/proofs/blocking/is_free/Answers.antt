-- One hop more, the first stand at which something stronger leads, and the end of the walk.
use Rattle.std.proofs.Common.{◌+◌, refl, arith}
use Rattle.std.proofs.lemmas.List.{take_all}
use Rattle.switch_paths.specs.Path.{at_root, IsBlocked}
use Rattle.switch_paths.specs.Walks.{stand_of}
use Rattle.switch_paths.proofs.PathLemmas.{Goes, unblocked-from_Goes}
use Rattle.why_path.proofs.BlockingLemmas.{led, led_on, blocks, goes_more, leads_more}
use Rattle.why_path.proofs.blocking.is_free.Goals as goal

pub returns-then-best-facts : goal.returns-then-best-facts
returns-then-best-facts c =
    let g = c.args.graph.now in
    let root = c.args.walk.now.root in
    let in_range = c.requires.live.1.in_range in
    let blocked : IsBlocked g c.args.state.now root c.args.walk.now.hops.items =
    blocks g c.args.state.now c.args.best.now c.requires.strongest root in_range c.args.walk.now.hops.items 0 (at_root g root)
    refl in_range (omega arith) in
    (λ e. absurd (cc), λ free. absurd (free blocked))

pub unreachable-requires : goal.unreachable-requires
unreachable-requires c =
    let leads = c.loop-place.invariant.leads in
    let next = led c.args.graph.now c.args.state.now (stand_of c.loop-place.facts) leads.0 c.deref-place-items.result.now
    c.loop-place.place-index c.loop-place-test.true leads.1 in
    c.in_default.ensures.facts next.0 next.1

pub returns-then-best-next : goal.returns-then-best-next
returns-then-best-next c =
    let g = c.args.graph.now in
    let state = c.args.state.now in
    let root = c.args.walk.now.root in
    let hops = c.deref-place-items.result.now in
    let next = stand_of c.in-Some.next in
    let leads = leads_more g state c.args.best.now c.requires.strongest (at_root g root) (stand_of c.loop-place.facts) next hops
    c.loop-place.place-index c.loop-place-test.true c.loop-place.invariant.goes c.in-Some.ensures.facts in
    let blocked : IsBlocked g state root hops =
    blocks g state c.args.best.now c.requires.strongest root c.requires.live.1.in_range hops (c.loop-place.place-index + 1) next
    leads c.in-Some.ensures.inside (omega arith) in
    let whole : IsBlocked g state root c.args.walk.now.hops.items = rw c.deref-place-items.ensures.value at blocked in
    (λ e. absurd (cc), λ free. absurd (free whole))

pub loop-place-preserved : goal.loop-place-preserved
loop-place-preserved c =
    let g = c.args.graph.now in
    let state = c.args.state.now in
    let hops = c.deref-place-items.result.now in
    let here = stand_of c.loop-place.facts in
    let next = stand_of c.in-Some.next in
    let rest = c.loop-place.invariant.leads in
    record {
      goes = goes_more g state c.args.best.now c.requires.strongest (at_root g c.args.walk.now.root) here next hops
          c.loop-place.place-index c.loop-place-test.true c.loop-place.invariant.goes c.in-Some.ensures.facts (omega arith);
      leads = (rest.0, led_on g state here next rest.0 hops c.loop-place.place-index c.loop-place-test.true rest.1 c.in-Some.ensures.facts);
    }

pub returns : goal.returns
returns c =
    let g = c.args.graph.now in
    let state = c.args.state.now in
    let root = c.args.walk.now.root in
    let hops = c.deref-place-items.result.now in
    let here = stand_of c.loop-place.facts in
    let all = take_all c.loop-place.place-index hops (omega arith) in
    let goes : Goes g state (at_root g root) hops here = rw all at c.loop-place.invariant.goes in
    let whole : Goes g state (at_root g root) c.args.walk.now.hops.items here = rw c.deref-place-items.ensures.value at goes in
    (λ _. unblocked-from_Goes g state root c.args.walk.now.hops.items here whole, λ _. refl)
