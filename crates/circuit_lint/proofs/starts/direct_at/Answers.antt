-- No switch leads on from Vdd there.
use Rattle.switch_paths.specs.declared.TheConstants.{GND}
use Rattle.circuit_lint.proofs.starts.direct_at.Goals as goal

pub returns-in_err-node-clause-all : goal.returns-in_err-node-clause-all
returns-in_err-node-clause-all c joined =
    let some = c.across.ensures.all GND joined in
    let none = c.in_err-node.was in
    absurd (cc)
