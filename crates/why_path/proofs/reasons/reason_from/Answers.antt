-- The trail to the node's entry, or that there is none.
use Rattle.std.proofs.Common.{Some, None}
use Rattle.switch_paths.specs.Spread.{rail_of}
use Rattle.why_path.specs.Search.{IsSearch, IsTrail, IsEntryOf}
use Rattle.why_path.proofs.ReasonLemmas.{best_reason, no_reason}
use Rattle.why_path.proofs.reasons.reason_from.Goals as goal

pub returns-in-Some : goal.returns-in-Some
returns-in-Some c =
    let best = c.in_ok-best.best.items in
    let end = c.in_ok-found.field-0 in
    let sound : IsSearch (rail_of c.args.one) c.args.graph.now c.args.state.now best 0 end.found.items end.seen.items =
    rw c.deref.ensures.value at c.in_ok-found.ensures in
    let walk = c.in_ok-walk-in-Some.walk in
    let entry : IsEntryOf end.found.items c.args.node (Some c.in-Some.at) = rw c.deref-2.ensures.value at c.in-Some.ensures in
    let trail : IsTrail end.found.items c.in-Some.at walk.hops.items walk.root = rw c.deref-in-Some.ensures.value at c.in_ok-walk-in-Some.ensures in
    best_reason (rail_of c.args.one) c.args.graph.now c.graphs_are_wired.ensures c.args.state.now best c.in_ok-best.ensures.strongest
    end.found.items end.seen.items sound c.args.node c.in-Some.at walk.hops.items walk.root entry trail

pub returns : goal.returns
returns c =
    let best = c.in_ok-best.best.items in
    let end = c.in_ok-found.field-0 in
    let sound : IsSearch (rail_of c.args.one) c.args.graph.now c.args.state.now best 0 end.found.items end.seen.items =
    rw c.deref.ensures.value at c.in_ok-found.ensures in
    let none : IsEntryOf end.found.items c.args.node None = rw c.deref-2.ensures.value at c.in-None.ensures in
    no_reason (rail_of c.args.one) c.args.graph.now c.graphs_are_wired.ensures c.args.state.now best c.in_ok-best.ensures.strongest
    end.found.items end.seen.items sound c.args.node none
