-- The edge stands at its index.
use Rattle.std.proofs.Common.{◌*◌, ◌+◌, ap}
use Rattle.std.proofs.lemmas.List.{get_or_read}
use Rattle.node_elimination.specs.Equations.{edge_at}
use Rattle.node_elimination.proofs.EquationsLemmas.{index_in, edge-inside}
use Rattle.node_elimination.proofs.system.System.edge.Goals as goal

pub returns-clause-place : goal.returns-clause-place
unfolding edge_at
returns-clause-place c =
    rw (← c.self.view_is)
    (ap (λ id. id.place)
    (get_or_read c.self.inside.edges.items (c.args.i * c.self.inside.size + c.args.j) c.index.result.now
    (index_in _ c.self.invariant.0 c.args.i c.args.j (rw (← c.self.view_is) at c.requires.row)
    (rw (← c.self.view_is) at c.requires.column)) c.index.ensures (record { place = 0 })))

pub returns-clause-inside : goal.returns-clause-inside
returns-clause-inside c = λ gates whole.
    rw (returns-clause-place c) (edge-inside gates c.args.self.now whole c.args.i c.args.j c.requires.row c.requires.column)
