-- The right side is put at its index.
use Rattle.std.proofs.Common.{refl}
use Rattle.node_elimination.specs.Equations.{put_right}
use Rattle.node_elimination.proofs.system.System.put_right.Goals as goal

pub returns : goal.returns
unfolding put_right
returns c = rw (← c.self.view_is) refl
