use Rattle.std.proofs.Common.{append_assoc, rules}
use Rattle.std.proofs.lemmas.Result.{IfOk-equal}
use Rattle.net_gen.specs.Inverters.{inverters_turn}
use Rattle.net_gen.proofs.inverters.put_turn.Goals as goal

pub returns-clause-text : goal.returns-clause-text
unfolding inverters_turn
returns-clause-text c = search (rules, IfOk-equal, append_assoc)
