use Rattle.std.proofs.Common.{append_assoc, rules}
use Rattle.std.proofs.lemmas.Result.{IfOk-equal}
use Rattle.net_gen.specs.Passes.{pass}
use Rattle.net_gen.proofs.passes.put_pass.Goals as goal

pub returns : goal.returns
unfolding pass
returns c = search (rules, IfOk-equal, append_assoc)
