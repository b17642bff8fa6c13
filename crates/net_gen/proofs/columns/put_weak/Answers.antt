use Rattle.std.proofs.Common.{append_assoc}
use Rattle.std.proofs.lemmas.Result.{IfOk-equal}
use Rattle.net_gen.specs.Columns.{weak}
use Rattle.net_gen.proofs.columns.put_weak.Goals as goal

pub returns : goal.returns
unfolding weak
returns c = IfOk-equal _ _ _ _ c.put.ensures (simp append_assoc)
