-- What a machine is held to says what waits.
use Rattle.std.proofs.Common.{All, length, ap, subst, ◌∙◌}
use Rattle.machine_laws.specs.Machines.{MachineData}
use Rattle.unit_step.specs.Holding.{HasNodes, HoldsNextIn}
use Rattle.std.specs.Prelude.{IfOk}
use Rattle.unit_step.proofs.machine.Machine.holding.Goals as goal

pub holding-requires : goal.holding-requires
holding-requires c =
    let counted = ap (λ (m : MachineData). length m.state) c.self.view_is ∙ c.requires in
    let runs = c.self.invariant.0.runs in
    record {
      counted = counted;
      there = subst (λ n. All (HasNodes n) c.self.inside.body.parts.items) counted (λ k d inside.
          let seat = runs.seated k d inside in
          record { below = seat.below; members = seat.members });
      waits = λ k. (runs.waits k, runs.stale k);
    }

pub returns : goal.returns
returns c =
    subst (λ (m : MachineData). IfOk c.holding.result (HoldsNextIn c.args.large c.args.graph.now m c.args.coded.now)) c.self.view_is c.holding.ensures
