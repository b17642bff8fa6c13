-- No two gates are equal, since the set holds none twice.
use Rattle.std.proofs.Common.{subst}
use Rattle.bool_pool.specs.Gate.{IsApart}
use Rattle.bool_pool.proofs.GateLemmas.{IsApart-from_distinct}
use Rattle.bool_pool.proofs.pool.Pool.size.Goals as goal

pub returns-clause-apart : goal.returns-clause-apart
returns-clause-apart c = subst IsApart c.self.view_is (IsApart-from_distinct c.self.inside.gates.keys c.len.ensures.unique)
