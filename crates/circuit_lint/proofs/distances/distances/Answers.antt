-- The search goes on to the next node, until it has reached all.
use Rattle.std.proofs.Common.{◌≡◌, ℕ, List, ◌<◌, length, Contains, subst, sym, ap, ◌∙◌, arith}
use Rattle.std.specs.Prelude.{slice_index}
use Rattle.switch_paths.specs.Graphs.{nodes, IsStorage}
use Rattle.circuit_lint.specs.Conducting.{IsClosedAcross}
use Rattle.circuit_lint.specs.Closed.{list_at}
use Rattle.circuit_lint.proofs.ClosedLemmas.{closed_inside, closed_whole}
use Rattle.circuit_lint.proofs.SearchLemmas.{item_inside, IsSearched-next, HasSpread-next, longer_still, AreDistances-all}
use Rattle.circuit_lint.proofs.distances.distances.Goals as goal

pub visit-requires-clause-places : goal.visit-requires-clause-places
visit-requires-clause-places c =
    let g = c.args.graph.now in
    let s = c.loop-count.search in
    let inside : c.loop-count.count < length s.order.items = omega (arith, c.loop-count-test.true, c.len.ensures) in
    let at : c.item.result ≡ slice_index s.order.items c.loop-count.count =
    c.item.ensures ∙ ap (λ (xs : List ℕ). slice_index xs c.loop-count.count) c.deref.ensures.value in
    let low : c.item.result < nodes g =
    omega (arith, at, item_inside g c.loop-count.count s.distance.items s.order.items c.loop-count.count c.loop-count.invariant.searched inside) in
    λ place there. closed_inside g c.args.closed.now c.requires.closed c.item.result low place (subst (λ (xs : List ℕ). Contains xs place) c.closed_at-places.ensures there)

pub loop-count-preserved : goal.loop-count-preserved
loop-count-preserved c =
    let g = c.args.graph.now in
    let k = c.loop-count.count in
    let s = c.loop-count.search in
    let new = c.visit.new.search in
    let so_far = c.loop-count.invariant in
    let one = c.in_ok-visit.ensures in
    let inside : k < length s.order.items = omega (arith, c.loop-count-test.true, c.len.ensures) in
    let at : c.item.result ≡ slice_index s.order.items k =
    c.item.ensures ∙ ap (λ (xs : List ℕ). slice_index xs k) c.deref.ensures.value in
    let low : slice_index s.order.items k < nodes g = item_inside g k s.distance.items s.order.items k so_far.searched inside in
    let found = λ (place : ℕ) (node : ℕ) (storage : IsStorage g node) (joined : IsClosedAcross g place (slice_index s.order.items k) node).
    one.found place node
    (subst (λ (xs : List ℕ). Contains xs place) (sym (c.closed_at-places.ensures ∙ ap (list_at c.args.closed.now) at))
    (closed_whole g c.args.closed.now c.requires.closed (slice_index s.order.items k) low place node joined)) storage joined in
    record {
      searched = IsSearched-next g k s.distance.items new.distance.items s.order.items new.order.items inside so_far.searched so_far.spread one.searched one.keeps found;
      spread = HasSpread-next g k s.distance.items new.distance.items s.order.items new.order.items inside so_far.searched so_far.spread one.searched one.keeps found;
      within = omega (arith, longer_still s.distance.items new.distance.items s.order.items new.order.items k one.keeps inside);
    }

pub returns : goal.returns
returns c =
    let s = c.loop-count.search in
    let all : c.loop-count.count ≡ length s.order.items = omega (arith, c.loop-count.invariant.within, c.loop-count-test.false, c.len.ensures) in
    AreDistances-all c.args.graph.now c.loop-count.count s.distance.items s.order.items all c.loop-count.invariant.searched c.loop-count.invariant.spread
