-- The set is as long as its list.
use Rattle.std.proofs.Common.{◌/◌, ap, length}
use Rattle.std.specs.Prelude.{nat_le}
use Rattle.run_beside.specs.declared.near.TheConstants.{PARTS_A_CHANGE}
use Rattle.run_beside.proofs.near.is_worth.Goals as goal

pub returns : goal.returns
returns c = ap (λ n. nat_le (n / PARTS_A_CHANGE) (length c.args.changes.now)) c.len.ensures.value
