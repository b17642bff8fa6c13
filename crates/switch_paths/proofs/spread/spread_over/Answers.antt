-- What rises is what comes over the switch.
use Rattle.std.proofs.Common.{arith}
use Rattle.switch_paths.proofs.SpreadLemmas.{AllCome-set, AllCome-same}
use Rattle.switch_paths.proofs.spread.spread_over.Goals as goal

pub returns-clause-come : goal.returns-clause-come
returns-clause-come c = λ places widths place switch stands joins wide.
    AllCome-set places widths c.args.floor.now c.args.table.now c.args.m c.args.n place c.args.width
    c.min-strength.result switch
    (omega arith) stands joins wide c.min-strength.ensures (omega arith) (omega arith)

pub returns-then-strength-floor-clause-come : goal.returns-then-strength-floor-clause-come
returns-then-strength-floor-clause-come c = λ places widths place switch stands joins wide.
    AllCome-same places widths c.args.floor.now c.args.table.now
