-- All places are listed, in the lists that were lent.
use Rattle.std.proofs.Common.{◌≡◌, arith}
use Rattle.std.specs.Vec.{with_items}
use Rattle.std.proofs.lemmas.List.{with_items_is}
use Rattle.vicinity.proofs.ListingLemmas.{AreListsOf-listed}
use Rattle.vicinity.proofs.live_lists.LiveLists.of.Goals as goal

pub returns : goal.returns
returns c =
    let all = c.in_ok-list_all.ensures.all in
    let ends = c.list_all.new.ends in
    let gates = c.list_all.new.gates in
    let ends_are : (with_items c.in_ok-ends.ends ends).items ≡ ends =
    with_items_is c.in_ok-ends.ends ends (omega (arith, all.counted, c.in_ok-ends.ensures.count, c.nodes.ensures, c.deref_mut.ensures.len)) in
    let gates_are : (with_items c.in_ok-gates.gates gates).items ≡ gates =
    with_items_is c.in_ok-gates.gates gates (omega (arith, all.gates_counted, c.in_ok-gates.ensures.count, c.nodes-2.ensures, c.deref_mut-2.ensures.len)) in
    rw (ends_are, gates_are) (AreListsOf-listed c.args.graph.now c.args.state.now (record { ends = ends; gates = gates }) all)
