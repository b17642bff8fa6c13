use Rattle.std.proofs.Common.{append_assoc}
use Rattle.std.proofs.lemmas.Result.{IfOk-equal}
use Rattle.net_gen.specs.Columns.{bit_lines}
use Rattle.net_gen.proofs.columns.put_bit_lines.Goals as goal

pub returns : goal.returns
unfolding bit_lines
returns c = IfOk-equal _ _ _ _ c.put-4.ensures (rw (c.in_ok-put-3.ensures, c.in_ok-put-2.ensures, c.in_ok-put.ensures)
    (simp append_assoc))
