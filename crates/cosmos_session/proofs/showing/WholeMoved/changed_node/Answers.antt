-- The number that stands at a place is the place.
use Rattle.std.proofs.Common.{◌<◌, length, arith}
use Rattle.settling.proofs.NumbersLemmas.{numbers-count, number_at}
use Rattle.cosmos_session.proofs.showing.WholeMoved.changed_node.Goals as goal

pub returns : goal.returns
returns c =
    let count = length c.args.self.now.state.now in
    let inside : c.args.at < count = omega (arith, c.requires, numbers-count 0 count) in
    let is = number_at 0 count c.args.at inside in
    omega (arith, is)
