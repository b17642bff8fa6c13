-- The number that stands at a place is the place.
use Rattle.std.proofs.Common.{◌<◌, length, arith}
use Rattle.settling.proofs.NumbersLemmas.{numbers-count, number_at}
use Rattle.settling.proofs.plain_stepping.PlainStepperMoved.changed_node.Goals as goal

pub returns : goal.returns
returns c =
    let inside : c.args.at < length c.args.self.now.state = omega (arith, c.requires, numbers-count 0 (length c.args.self.now.state)) in
    let is = number_at 0 (length c.args.self.now.state) c.args.at inside in
    omega (arith, is)
