use Rattle.std.proofs.Common.{append_assoc, rules}
use Rattle.std.proofs.lemmas.Result.{IfOk-equal}
use Rattle.net_gen.specs.Columns.{access}
use Rattle.net_gen.proofs.columns.put_access.Goals as goal

pub returns : goal.returns
unfolding access
returns c = search (rules, IfOk-equal, append_assoc)
