-- Each node has its readers.
use Rattle.std.proofs.Common.{◌≡◌, ℕ, List, length, sym, ap, subst, arith}
use Rattle.std.specs.Prelude.{Contains}
use Rattle.machine_parts.specs.declared.part.MachinePart.{MachinePart}
use Rattle.machine_parts.specs.Parts.{ReadsAt}
use Rattle.machine_laws.specs.Machines.{MachineData}
use Rattle.unit_step.proofs.machine.Machine.readers.Goals as goal

pub of-requires : goal.of-requires
of-requires c =
    omega (arith, c.requires, ap (λ (m : MachineData). length m.state) c.self.view_is, c.self.invariant.0.runs.readers_counted)

pub returns : goal.returns
returns c = λ k.
    let runs = c.self.invariant.0.runs in
    let node = c.args.node in
    let parts : c.self.inside.body.parts.items ≡ c.args.self.now.parts = ap (λ (m : MachineData). m.parts) c.self.view_is in (
      λ there. subst (λ (list : List MachinePart). ReadsAt list k node) parts
          (runs.reads node k (subst (λ (list : List ℕ). Contains list k) c.of.ensures there)),
      λ reads. subst (λ (list : List ℕ). Contains list k) (sym c.of.ensures)
          (runs.readers node k (subst (λ (list : List MachinePart). ReadsAt list k node) (sym parts) reads)),
    )
