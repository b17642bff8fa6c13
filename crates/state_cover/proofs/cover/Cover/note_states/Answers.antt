-- At the end all nodes are noted.
use Rattle.std.proofs.Common.{◌≡◌, length, arith, subst}
use Rattle.state_cover.proofs.CoverLemmas.{FirstNoted, noted-all}
use Rattle.state_cover.proofs.cover.Cover.note_states.Goals as goal

pub returns-clause-had : goal.returns-clause-had
returns-clause-had c =
    let end : c.loop-node.node ≡ length c.args.states.now = omega arith in
    noted-all c.args.states.now c.args.self.now c.loop-node.self-inside.had.items c.requires
    (subst (FirstNoted c.args.states.now c.args.self.now c.loop-node.self-inside.had.items) end c.loop-node.invariant)
