use Rattle.std.proofs.Common.{append_assoc}
use Rattle.std.proofs.lemmas.Result.{IfOk-equal}
use Rattle.net_gen.specs.Columns.{column_settings}
use Rattle.net_gen.proofs.columns.put_settings.Goals as goal

pub returns : goal.returns
unfolding column_settings
returns c = IfOk-equal _ _ _ _ c.put-3.ensures (rw (
  c.in_ok-put_chosen-4.ensures,
  c.in_ok-put_chosen-3.ensures,
  c.in_ok-put_chosen-2.ensures,
  c.in_ok-put_chosen.ensures,
  c.in_ok-put-2.ensures,
  c.in_ok-put.ensures,
) (simp append_assoc))
