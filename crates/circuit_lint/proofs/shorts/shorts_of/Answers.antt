-- The lists that begin at all starts are all that join the rails.
use Rattle.std.proofs.Common.{◌≡◌, ℕ, List, ◌+◌, ◌<◌, Contains, get_or, take, ap, ◌∙◌, sym, subst, arith}
use Rattle.std.proofs.lemmas.List.{take_all, map_push}
use Rattle.std.proofs.lemmas.List.Elements.{Contains-get_or}
use Rattle.switch_paths.specs.declared.TheConstants.{VDD}
use Rattle.switch_paths.specs.Graphs.{nodes}
use Rattle.circuit_lint.specs.Closed.{AreClosed}
use Rattle.circuit_lint.specs.Ways.{lists_of, AreWays}
use Rattle.circuit_lint.proofs.ClosedLemmas.{closed_inside, closed_whole}
use Rattle.circuit_lint.proofs.ShortLemmas.{start_leads, AreShorts-all}
use Rattle.circuit_lint.proofs.WayLemmas.{AreWays-none, AreWays-more}
use Rattle.circuit_lint.proofs.shorts.shorts_of.Goals as goal

pub starts_of-requires-clause-inside : goal.starts_of-requires-clause-inside
starts_of-requires-clause-inside c =
    let g = c.args.graph.now in
    let vdd : VDD < nodes g = omega (arith, c.requires.rails) in
    let are : AreClosed g c.deref-2.result.now = subst (AreClosed g) (sym c.deref-2.ensures.value) c.in_ok-closed.ensures in
    λ place there. closed_inside g c.deref-2.result.now are VDD vdd place (subst (λ (xs : List ℕ). Contains xs place) c.closed_at.ensures there)

pub starts_of-requires-clause-whole : goal.starts_of-requires-clause-whole
starts_of-requires-clause-whole c =
    let g = c.args.graph.now in
    let vdd : VDD < nodes g = omega (arith, c.requires.rails) in
    let are : AreClosed g c.deref-2.result.now = subst (AreClosed g) (sym c.deref-2.ensures.value) c.in_ok-closed.ensures in
    λ place node across. subst (λ (xs : List ℕ). Contains xs place) (sym c.closed_at.ensures) (closed_whole g c.deref-2.result.now are VDD vdd place node across)

pub way_from-requires-clause-start : goal.way_from-requires-clause-start
way_from-requires-clause-start c =
    let begins = rw c.deref-3.ensures.value at c.in_ok-starts.ensures.starts in
    let i = c.loop-place.place-index in
    let starts = c.deref-place-items.result.now in
    rw c.deref-in-loop-place-2.ensures.value
    (start_leads c.args.graph.now c.in_ok-distance.distance.items c.args.groups.now.groups c.in_ok-starts.starts.items c.in_ok-distance.ensures begins
    (get_or starts i 0) (subst (λ (xs : List ℕ). Contains xs (get_or starts i 0)) c.deref-place-items.ensures.value
    (Contains-get_or starts i 0 c.loop-place-test.true)))

pub loop-place-init : goal.loop-place-init
loop-place-init c = rw c.new-ways.ensures.items (AreWays-none c.args.graph.now)

pub loop-place-preserved : goal.loop-place-preserved
loop-place-preserved c =
    let i = c.loop-place.place-index in
    let starts = c.deref-place-items.result.now in
    let old = c.loop-place.ways.items in
    let way = c.in_ok-way_from.field-0 in
    let grown = ap lists_of c.in_ok-push.ensures.items ∙ map_push (λ way. way.items) old way in
    subst (AreWays c.args.graph.now (take (i + 1) starts)) (sym grown)
    (AreWays-more c.args.graph.now starts i (lists_of old) way.items c.loop-place-test.true c.loop-place.invariant c.in_ok-way_from.ensures)

pub returns : goal.returns
returns c =
    let begins = rw c.deref-3.ensures.value at c.in_ok-starts.ensures.starts in
    let i = c.loop-place.place-index in
    let all : take i c.deref-place-items.result.now ≡ c.in_ok-starts.starts.items =
    take_all i c.deref-place-items.result.now (omega arith) ∙ c.deref-place-items.ensures.value in
    let made = rw all at c.loop-place.invariant in
    AreShorts-all c.args.graph.now c.in_ok-distance.distance.items c.in_ok-distance.ensures c.requires.vdd c.args.groups.now.groups c.requires.groups
    c.in_ok-starts.starts.items begins c.in_ok-starts.ensures.ascending (lists_of c.loop-place.ways.items) made
