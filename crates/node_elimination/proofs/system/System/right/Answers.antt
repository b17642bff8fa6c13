-- The right side stands at its index.
use Rattle.std.proofs.Common.{◌<◌, ap, arith}
use Rattle.std.proofs.lemmas.List.{get_or_read}
use Rattle.node_elimination.specs.Equations.{right_at}
use Rattle.node_elimination.proofs.EquationsLemmas.{right-inside}
use Rattle.node_elimination.proofs.system.System.right.Goals as goal

pub returns-clause-place : goal.returns-clause-place
unfolding right_at
returns-clause-place c =
    let row : c.args.i < c.self.inside.size = rw (← c.self.view_is) at c.requires in
    rw (← c.self.view_is)
    (ap (λ id. id.place)
    (get_or_read c.self.inside.rights.items c.args.i c.index.result.now (omega (arith, c.self.invariant.0.rights))
    c.index.ensures (record { place = 0 })))

pub returns-clause-inside : goal.returns-clause-inside
returns-clause-inside c = λ gates whole.
    rw (returns-clause-place c) (right-inside gates c.args.self.now whole c.args.i c.requires)
