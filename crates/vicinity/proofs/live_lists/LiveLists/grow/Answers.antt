-- The nodes that came have no places.
use Rattle.vicinity.proofs.GrowingLemmas.{TellGates-grown}
use Rattle.vicinity.proofs.live_lists.LiveLists.grow.Goals as goal

pub invariant_of-self : goal.invariant_of-self
invariant_of-self c = c.self.invariant

pub invariant_of-self-2 : goal.invariant_of-self-2
invariant_of-self-2 c =
    TellGates-grown c.self.inside.is_gate.items c.self.inside.gates.items c.add_empty-2.new.lists.items c.add_empty-2.ensures.some c.self.invariant
