-- The parts are seated in the machine's room, which stays.
use Rattle.std.proofs.Common.{◌≡◌, ◌<◌, ◌≤◌, List, All, length, refl, sym, ap, subst}
use Rattle.machine_parts.specs.declared.part.MachinePart.{MachinePart}
use Rattle.machine_parts.specs.Parts.{Stands}
use Rattle.machine_parts.specs.Evaluating.{IsSeated}
use Rattle.machine_parts.proofs.MachineLemmas.{IsMachine-again}
use Rattle.machine_laws.specs.Machines.{MachineData}
use Rattle.part_steps.specs.Workspaces.{rooms}
use Rattle.unit_step.proofs.machine.Machine.run_columns.Goals as goal

pub run_at-requires : goal.run_at-requires
run_at-requires c =
    let i = c.self.inside in
    let nodes : length c.args.hi.now ≡ length i.body.state.items = subst (λ (m : MachineData). length c.args.hi.now ≡ length m.state) (sym c.self.view_is) c.requires.nodes in
    let parts : i.body.parts.items ≡ c.args.self.now.parts = ap (λ (m : MachineData). m.parts) c.self.view_is in
    rw c.deref.ensures.value (record {
      inside = subst (λ (list : List MachinePart). c.args.k < length list) (sym parts) c.requires.inside;
      seated = subst (λ n. All (IsSeated n (rooms i.body.workspace)) i.body.parts.items) (sym nodes) c.self.invariant.0.runs.seated;
      words = c.requires.words;
      highs = subst (All (λ (part : MachinePart). part.members ≤ length c.args.out_hi.now)) (sym parts) c.requires.highs;
      lows = c.requires.lows;
    })

pub invariant_of-self : goal.invariant_of-self
invariant_of-self c =
    let i = c.self.inside in (
      IsMachine-again i.body.parts.items i.body.agenda.marks i.body.agenda.marks i.body.agenda.waiting i.body.agenda.waiting
          (length i.body.state.items) _ i.body.readers i.body.owners.items i.body.uses.numbers i.body.held i.body.most (rooms i.body.workspace) (rooms c.run_at.new.workspace)
          refl refl refl c.run_at.ensures.rooms c.self.invariant.0,
      c.self.invariant.1,
      c.self.invariant.2,
      c.self.invariant.3,
      c.self.invariant.4,
    )

pub returns-clause-same : goal.returns-clause-same
returns-clause-same c = rw (← c.self.view_is) refl

pub returns-clause-gives : goal.returns-clause-gives
returns-clause-gives c = λ part stands.
    let parts : c.self.inside.body.parts.items ≡ c.args.self.now.parts = ap (λ (m : MachineData). m.parts) c.self.view_is in
    c.run_at.ensures.gives part
    (rw c.deref.ensures.value (subst (λ (list : List MachinePart). Stands list c.args.k part) (sym parts) stands))
