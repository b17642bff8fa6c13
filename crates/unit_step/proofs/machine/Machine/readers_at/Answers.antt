-- The list of readers tells them.
use Rattle.std.proofs.Common.{length, sym, ap, subst, arith}
use Rattle.std.specs.Prelude.{Contains}
use Rattle.machine_laws.specs.Machines.{MachineData}
use Rattle.unit_step.proofs.machine.Machine.readers_at.Goals as goal

pub of-requires : goal.of-requires
of-requires c = omega (arith, c.requires, ap (λ (m : MachineData). length m.state) c.self.view_is, c.self.invariant.0.runs.readers_counted)

pub returns : goal.returns
returns c =
    rw (← c.self.view_is) (λ k. (
      λ there. c.self.invariant.0.runs.reads c.args.node k (subst (λ xs. Contains xs k) c.of.ensures there),
      λ reads. subst (λ xs. Contains xs k) (sym c.of.ensures) (c.self.invariant.0.runs.readers c.args.node k reads),
    ))
