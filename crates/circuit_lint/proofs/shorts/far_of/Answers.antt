-- The node has a distance, so it is one of those in the table.
use Rattle.std.proofs.Common.{None, arith}
use Rattle.std.proofs.lemmas.List.{get_or_past}
use Rattle.circuit_lint.proofs.shorts.far_of.Goals as goal

pub unreachable-requires : goal.unreachable-requires
unreachable-requires c =
    let past = get_or_past c.args.distance.now c.args.node None (omega arith) in
    let found = c.requires.1 in
    absurd (cc)
