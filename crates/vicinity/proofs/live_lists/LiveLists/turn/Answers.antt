-- The lists that were lent come back, turned.
use Rattle.std.proofs.Common.{◌≡◌, sym, subst, arith}
use Rattle.std.specs.Prelude.{Contains}
use Rattle.std.specs.Vec.{with_items}
use Rattle.std.proofs.lemmas.List.{with_items_is}
use Rattle.switch_paths.specs.Switching.{state_at}
use Rattle.vicinity.specs.Lists.{LiveListsData, places_of}
use Rattle.vicinity.specs.LiveLists.{AreListsOf, TurnsGate}
use Rattle.vicinity.proofs.LiveListsLemmas.{AreListsOf-turned}
use Rattle.vicinity.proofs.live_lists.LiveLists.turn.Goals as goal

pub returns : goal.returns
returns c =
    let graph = c.args.graph.now in
    let state = c.args.state.now in
    let gate = c.args.gate in
    let new = c.turn_gate.new.ends in
    let old : LiveListsData = record { ends = c.self.inside.ends.items; gates = c.self.inside.gates.items } in
    let lists : AreListsOf graph state old = subst (AreListsOf graph state) (sym c.self.view_is) c.requires.lists in
    let turns : TurnsGate graph gate (state_at state gate) c.args.now (Contains (places_of old.gates gate)) old.ends new =
    rw (c.deref_mut.ensures.value, c.listed.ensures.value, c.deref.ensures.value) at c.turn_gate.ensures in
    let written : (with_items c.self.inside.ends new).items ≡ new =
    with_items_is c.self.inside.ends new (omega (arith, c.turn_gate.ensures.count, c.deref_mut.ensures.len)) in
    rw written (AreListsOf-turned graph gate c.args.now state old new c.requires.inside lists turns)
