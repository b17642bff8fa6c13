use Rattle.std.proofs.Common.{append_assoc, rules}
use Rattle.std.proofs.lemmas.Result.{IfOk-equal}
use Rattle.net_gen.specs.Columns.{columns_start}
use Rattle.net_gen.proofs.columns.put_start.Goals as goal

pub returns : goal.returns
unfolding columns_start
returns c = search (rules, IfOk-equal, append_assoc)
