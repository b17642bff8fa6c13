-- The parts that wait are those that are stale.
use Rattle.std.proofs.Common.{length, sym, ap, ◌∙◌}
use Rattle.std.specs.Prelude.{Contains}
use Rattle.machine_parts.specs.Marking.{IsMarked}
use Rattle.machine_parts.specs.Parts.{IsStale}
use Rattle.machine_laws.specs.Machines.{MachineData}
use Rattle.unit_step.proofs.AmongLemmas.{MarksAll-as}
use Rattle.unit_step.proofs.machine.Machine.put_stale.Goals as goal

pub put_waiting-requires : goal.put_waiting-requires
put_waiting-requires c = record {
  inside = c.waiters.ensures.inside;
  counted = c.requires ∙ (sym (ap (λ (m : MachineData). length m.parts) c.self.view_is) ∙ sym c.self.invariant.0.runs.counted);
}

pub returns : goal.returns
returns c =
    let i = c.self.inside in
    let runs = c.self.invariant.0.runs in
    rw (← c.self.view_is)
    (MarksAll-as (λ k. Contains c.waiters.result.now k × IsMarked i.body.agenda.waiting k) (IsStale i.body.parts.items) c.args.set.now.inside
    c.put_waiting.new.set.inside (λ k (there, waits). runs.waits k waits) (λ k stale. (c.waiters.ensures.all k (runs.stale k stale), runs.stale k stale))
    c.put_waiting.ensures)
