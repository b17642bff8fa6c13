use Rattle.std.proofs.Common.{append_assoc, rules}
use Rattle.std.proofs.lemmas.Result.{IfOk-equal}
use Rattle.net_gen.specs.Passes.{passes_start}
use Rattle.net_gen.proofs.passes.put_start.Goals as goal

pub returns : goal.returns
unfolding passes_start
returns c = search (rules, IfOk-equal, append_assoc)
