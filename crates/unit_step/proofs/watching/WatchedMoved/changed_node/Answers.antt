-- With no list the number that stands at a place is the place.
use Rattle.std.proofs.Common.{◌<◌, length, arith}
use Rattle.settling.specs.PlainStepping.{numbers_from}
use Rattle.settling.proofs.NumbersLemmas.{numbers-count, number_at}
use Rattle.unit_step.proofs.watching.WatchedMoved.changed_node.Goals as goal

pub returns-in-None : goal.returns-in-None
returns-in-None c =
    let count = length c.args.self.now.machine.now.state in
    let there : c.args.at < length (numbers_from 0 count) = (rw c.in-None.is at c.requires) in
    let inside : c.args.at < count = omega (arith, there, numbers-count 0 count) in
    let is = number_at 0 count c.args.at inside in
    rw c.in-None.is (omega (arith, is))
