-- The value is the vertex's on those of the ones to which it leads, since they stand before it.
use Rattle.std.proofs.Common.{◌<◌, length, sym, subst, inl, inr, refl}
use Rattle.decision_graph.specs.Vertices.{IsNext}
use Rattle.decision_graph.proofs.ValueLemmas.{holds-vertex}
use Rattle.decision_graph.proofs.graph.DecisionGraph.vertex.Goals as goal

pub returns-clause-value : goal.returns-clause-value
returns-clause-value c = λ vars.
    rw (c.as_slice.ensures.keys, ← c.self.view_is)
    (holds-vertex c.self.inside.vertices.keys vars c.args.function.place c.self.invariant.reduced.order
    (subst (λ graph. c.args.function.place < length graph.vertices) (sym c.self.view_is) c.requires))

pub returns-clause-decided : goal.returns-clause-decided
returns-clause-decided c =
    rw (c.as_slice.ensures.keys, ← c.self.view_is) (c.self.invariant.reduced.decided c.args.function.place)

pub returns-clause-high : goal.returns-clause-high
returns-clause-high c = λ v high low is.
    c.self.invariant.reduced.order c.args.function.place high.place
    (rw (← c.as_slice.ensures.keys) (subst (λ x. IsNext x high.place) (sym is) (inl refl)))

pub returns-clause-low : goal.returns-clause-low
returns-clause-low c = λ v high low is.
    c.self.invariant.reduced.order c.args.function.place low.place
    (rw (← c.as_slice.ensures.keys) (subst (λ x. IsNext x low.place) (sym is) (inr refl)))
