-- No switch leads there, so no start is there.
use Rattle.circuit_lint.proofs.starts.start_at.Goals as goal

pub returns-in_err-node-clause-all : goal.returns-in_err-node-clause-all
returns-in_err-node-clause-all c far start =
    let some = c.across.ensures.all start.node start.enters in
    let none = c.in_err-node.was in
    absurd (cc)
