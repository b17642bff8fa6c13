-- The edge is put at its index.
use Rattle.std.proofs.Common.{refl}
use Rattle.node_elimination.specs.Equations.{put_edge}
use Rattle.node_elimination.proofs.system.System.put_edge.Goals as goal

pub returns : goal.returns
unfolding put_edge
returns c = rw (← c.self.view_is) refl
