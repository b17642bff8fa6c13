use Rattle.std.proofs.Common.{append_assoc}
use Rattle.std.proofs.lemmas.Result.{IfOk-equal}
use Rattle.net_gen.proofs.families.put_netlist.Goals as goal

pub returns : goal.returns
returns c = IfOk-equal _ _ _ _ c.put_rows.ensures (rw c.in_ok-put.ensures (simp append_assoc))
