-- The parts that wait are those that are stale.
use Rattle.std.proofs.Common.{ℕ, refl, subst}
use Rattle.std.specs.Bool.{OnTrue}
use Rattle.std.proofs.lemmas.Bool.{OnTrue_at, OnTrue_from}
use Rattle.machine_parts.specs.Parts.{IsStale}
use Rattle.machine_laws.specs.Machines.{MachineData}
use Rattle.unit_step.proofs.machine.Machine.none_waits.Goals as goal

pub returns-clause-none : goal.returns-clause-none
returns-clause-none c =
    let result = c.none_waits.result in
    subst (λ (m : MachineData). OnTrue result ((k : ℕ) → ¬ IsStale m.parts k)) c.self.view_is
    (OnTrue_from result ((k : ℕ) → ¬ IsStale c.self.inside.body.parts.items k)
    (λ is k stale. OnTrue_at is c.none_waits.ensures k (c.self.invariant.0.runs.stale k stale)))

pub returns-clause-texts : goal.returns-clause-texts
returns-clause-texts c = rw (← c.self.view_is) refl
