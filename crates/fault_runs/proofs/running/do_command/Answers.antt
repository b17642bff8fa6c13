-- A quiet command that is accepted has its effect alone; one that isn't refused can lack memory alone.
use Rattle.std.proofs.Common.{subst}
use Rattle.told_lines.specs.Lines.{Told}
use Rattle.fault_meaning.proofs.BeginLemmas.{CallComesTo, quiet_call, quiet_fault}
use Rattle.fault_runs.proofs.running.do_command.Goals as goal

-- silence hears nothing, and never fails
abbrev dropped : Unit {0} → Told → Unit {0}
dropped before told = tt

abbrev never : Unit {0} → Told → Unit {0} → Type 0
never before told after = ⊥

pub want_of_memory-requires : goal.want_of_memory-requires
want_of_memory-requires g c =
    let told = subst (CallComesTo dropped never c.args.session.now.core c.args.command.now c.apply.new.self.core tt tt
    (g.A.Analyst.analysed c.args.analyst.now) (g.A.Analyst.analysed c.apply.new.analyst) 0 0)
    c.in-Err.is (c.apply.ensures.obeys, c.apply.ensures.faults) in
    quiet_fault dropped never c.args.session.now.core c.apply.new.self.core c.args.command.now _ _ _ _ _ _ c.in-Err.fault c.requires.quiet c.requires.allowed told.1 told.0

pub returns-in-Ok-clause-done : goal.returns-in-Ok-clause-done
returns-in-Ok-clause-done g c =
    (quiet_call dropped never c.args.session.now.core c.apply.new.self.core c.args.command.now _ _ _ _ _ _ c.requires.quiet c.in-Ok.ensures.obeys).0

pub returns-in-Ok-clause-analysed : goal.returns-in-Ok-clause-analysed
returns-in-Ok-clause-analysed g c =
    (quiet_call dropped never c.args.session.now.core c.apply.new.self.core c.args.command.now _ _ _ _ _ _ c.requires.quiet c.in-Ok.ensures.obeys).1
