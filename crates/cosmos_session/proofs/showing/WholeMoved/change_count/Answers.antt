-- There is a number for each node.
use Rattle.std.proofs.Common.{length, rules}
use Rattle.settling.proofs.NumbersLemmas.{numbers-count}
use Rattle.cosmos_session.proofs.showing.WholeMoved.change_count.Goals as goal

pub returns : goal.returns
returns c = search (rules, numbers-count 0 (length c.args.self.now.state.now))
