use Rattle.std.proofs.Common.{rules}
use Rattle.net_gen.specs.Inverters.{inverters_start}
use Rattle.net_gen.proofs.inverters.put_start.Goals as goal

pub returns : goal.returns
unfolding inverters_start
returns c = search rules
