-- None comes apart if the node doesn't differ, and else all that it concerns.
use Rattle.std.proofs.Common.{◌≡◌, true}
use Rattle.beside_phases.proofs.PlacingBoth.{comes_none, comes_all}
use Rattle.beside_phases.proofs.placing.separate.Goals as goal

pub returns-then-not-differs : goal.returns-then-not-differs
returns-then-not-differs c =
    comes_none (c.args.differs ≡ true) c.args.machine.now c.args.node c.args.apart.now.inside (λ is. absurd (cc (c.if-not-differs.true, is)))

pub returns : goal.returns
returns c =
    comes_all (c.args.differs ≡ true) c.args.machine.now c.args.node c.args.apart.now.inside c.put_apart.new.apart.inside c.put_apart.ensures
