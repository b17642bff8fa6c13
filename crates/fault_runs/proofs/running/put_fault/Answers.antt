-- The commands of a fault are quiet, and at the start none of them is refused.
use Rattle.std.proofs.Common.{All, sym, subst}
use Rattle.session_meaning.specs.Sessions.{SessionData}
use Rattle.fault_sim.specs.Changes.{commands_of}
use Rattle.fault_meaning.specs.Runnings as spec
use Rattle.fault_meaning.proofs.BeginLemmas.{quiet_commands, allowed_commands}
use Rattle.fault_runs.proofs.running.put_fault.Goals as goal

pub do_commands-requires-clause-quiet : goal.do_commands-requires-clause-quiet
do_commands-requires-clause-quiet g c =
    subst (All spec.IsQuiet) (sym c.in_ok-commands.ensures.value) (quiet_commands c.args.start.now c.args.fault)

pub do_commands-requires-clause-allowed : goal.do_commands-requires-clause-allowed
do_commands-requires-clause-allowed g c =
    let start = c.args.start.now in
    subst (spec.AreAllowed c.args.session.now.core) (sym c.in_ok-commands.ensures.value)
    (subst (λ (old : SessionData). spec.AreAllowed old (commands_of start c.args.fault)) (sym c.requires.stands)
    (allowed_commands start c.args.session.now.core.kept c.args.fault c.graph-graph.ensures.netlist c.requires.fault))
