-- The name at a place brings its sum to its node, if it is in use.
use Rattle.std.proofs.Common.{◌≡◌, ℕ, ◌<◌, List, Some, IfSome, slice_get, sym, ap, subst, ◌∙◌}
use Rattle.netlist.specs.Names.{node_of}
use Rattle.netlist.proofs.NamingLemmas.{stands-entries_of}
use Rattle.sim_read.proofs.SumLemmas.{sums-found, sums-room}
use Rattle.sim_read.proofs.sums.Sums.by_node.Goals as goal

pub add_at-requires-clause-within : goal.add_at-requires-clause-within
add_at-requires-clause-within c =
    subst (λ n. IfSome c.find.result (λ at. at < n)) (sym c.loop-place.invariant.0) c.find.ensures.within

pub add_at-requires-clause-room : goal.add_at-requires-clause-room
add_at-requires-clause-room c =
    let stands : slice_get c.args.self.now c.loop-place.place ≡ Some (c.in-Some.name.now.items, c.in-Some.sum.now) =
    subst (λ (sums : List (List ℕ × ℕ)). slice_get sums c.loop-place.place ≡ Some (c.in-Some.name.now.items, c.in-Some.sum.now)) c.self.view_is
    (stands-entries_of c.self.inside.table.entries c.loop-place.place c.in-Some.name.now c.in-Some.sum.now c.in-Some.ensures.entry) in
    sums-room c.args.circuit.now.names c.args.self.now c.loop-place.place c.loop-place.found c.in-Some.name.now.items c.in-Some.sum.now stands
    c.loop-place.invariant.1 c.find.result _ _ c.loop-place.invariant.0 c.find.ensures.within c.requires

pub loop-place-preserved : goal.loop-place-preserved
loop-place-preserved c =
    let names = c.args.circuit.now.names in
    let stands : slice_get c.args.self.now c.loop-place.place ≡ Some (c.in-Some.name.now.items, c.in-Some.sum.now) =
    subst (λ (sums : List (List ℕ × ℕ)). slice_get sums c.loop-place.place ≡ Some (c.in-Some.name.now.items, c.in-Some.sum.now)) c.self.view_is
    (stands-entries_of c.self.inside.table.entries c.loop-place.place c.in-Some.name.now c.in-Some.sum.now c.in-Some.ensures.entry) in
    let node : node_of names c.in-Some.name.now.items ≡ c.find.result = sym (c.find.ensures.value ∙ ap (node_of names) c.deref.ensures.value) in
    sums-found names c.args.self.now c.loop-place.place c.loop-place.found c.add_at.new.found c.in-Some.name.now.items c.in-Some.sum.now stands
    c.loop-place.invariant.1 c.find.result _ node c.loop-place.invariant.0 c.find.ensures.within c.add_at.ensures.some c.add_at.ensures.none
