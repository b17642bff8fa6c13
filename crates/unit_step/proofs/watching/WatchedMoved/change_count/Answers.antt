-- With no list there is a number for each node.
use Rattle.std.proofs.Common.{length, sym, ap, ◌∙◌}
use Rattle.settling.proofs.NumbersLemmas.{numbers-count}
use Rattle.unit_step.proofs.watching.WatchedMoved.change_count.Goals as goal

pub returns-in-None : goal.returns-in-None
returns-in-None c =
    let count = length c.args.self.now.machine.now.state in
    rw c.in-None.is (ap length c.state.ensures ∙ sym (numbers-count 0 count))
