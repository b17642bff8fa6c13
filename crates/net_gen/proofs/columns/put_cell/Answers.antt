use Rattle.std.proofs.Common.{append_assoc}
use Rattle.std.proofs.lemmas.Result.{IfOk-equal}
use Rattle.net_gen.specs.Columns.{cell}
use Rattle.net_gen.proofs.columns.put_cell.Goals as goal

pub returns : goal.returns
unfolding cell
returns c = IfOk-equal _ _ _ _ c.put_access-2.ensures
    (rw (
      c.in_ok-put_access.ensures,
      c.in_ok-put_weak-4.ensures,
      c.in_ok-put_weak-3.ensures,
      c.in_ok-put_weak-2.ensures,
      c.in_ok-put_weak.ensures,
    ) (simp append_assoc))
