-- The part that has the node loses its group, or no part has it.
use Rattle.std.proofs.Common.{length, ap, subst}
use Rattle.machine_laws.specs.Machines.{MachineData}
use Rattle.machine_parts.specs.Parts.{HasMember, AreApart}
use Rattle.machine_laws.proofs.ClearingLemmas.{on_ok, Clears-none, Clears-vacated}
use Rattle.machine_parts.proofs.OwnerLemmas.{owner_has, no_owner}
use Rattle.unit_step.proofs.machine.Machine.vacate_owner.Goals.{In-Some}
use Rattle.unit_step.proofs.machine.Machine.vacate_owner.Goals as goal

-- the part that was found has the node
has : (c : In-Some) → HasMember c.args.self.now.parts c.in-Some.k c.args.node
has c =
    owner_has c.self.inside.body.parts.items c.args.self.now.parts (length c.self.inside.body.state.items) c.self.inside.body.owners.items c.deref.result.now
    c.self.invariant.0.own (ap (λ (m : MachineData). m.parts) c.self.view_is) c.deref.ensures.value c.args.node c.in-Some.k c.in-Some.ensures

pub vacate-requires : goal.vacate-requires
vacate-requires c = record { inside = (has (goal.at.vacate-requires c).In-Some).stands.inside }

pub returns-in-Some-clause-ok : goal.returns-in-Some-clause-ok
returns-in-Some-clause-ok c =
    let apart : AreApart c.args.self.now.parts = subst AreApart (ap (λ (m : MachineData). m.parts) c.self.view_is) c.self.invariant.0.runs.apart in
    on_ok _ _ c.vacate.result
    (Clears-vacated c.args.node c.in-Some.k c.args.self.now c.vacate.new.self apart (has (goal.at.returns-in-Some-clause-ok c).In-Some)) c.vacate.ensures.ok

pub returns-in-None-clause-ok : goal.returns-in-None-clause-ok
returns-in-None-clause-ok c =
    Clears-none c.args.node c.args.self.now
    (no_owner c.self.inside.body.parts.items c.args.self.now.parts (length c.self.inside.body.state.items) c.self.inside.body.owners.items c.deref.result.now
    c.self.invariant.0.own (ap (λ (m : MachineData). m.parts) c.self.view_is) c.deref.ensures.value c.args.node c.in-None.ensures)
