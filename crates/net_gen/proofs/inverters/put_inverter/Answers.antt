use Rattle.std.proofs.Common.{append_assoc, rules}
use Rattle.std.proofs.lemmas.Result.{IfOk-equal}
use Rattle.net_gen.specs.Inverters.{inverter}
use Rattle.net_gen.proofs.inverters.put_inverter.Goals as goal

pub returns : goal.returns
unfolding inverter
returns c = search (rules, IfOk-equal, append_assoc)
