-- What waits is stale, and the other way round.
use Rattle.std.proofs.Common.{◌<◌, length, inl, inr, refl, sym, subst, ◌∙◌, arith}
use Rattle.machine_parts.proofs.MachineLemmas.{IsMachine-again}
use Rattle.machine_laws.specs.Machines.{MachineData}
use Rattle.part_steps.specs.Workspaces.{rooms}
use Rattle.unit_step.proofs.machine.Machine.mark_just.Goals as goal

pub mark_all-requires : goal.mark_all-requires
mark_all-requires c = λ k there.
    let inside : k < length c.self.inside.body.parts.items = subst (λ (m : MachineData). k < length m.parts) (sym c.self.view_is) (c.requires k there) in
    omega (arith, inside, c.self.invariant.0.runs.counted, c.clear.ensures.count)

pub invariant_of-self : goal.invariant_of-self
invariant_of-self c =
    let i = c.self.inside in (
      IsMachine-again i.body.parts.items i.body.agenda.marks c.mark_all.new.agenda.marks i.body.agenda.waiting c.mark_all.new.agenda.waiting
          (length i.body.state.items) (length i.body.state.items) i.body.readers i.body.owners.items i.body.uses.numbers i.body.held i.body.most
          (rooms i.body.workspace) (rooms i.body.workspace) (c.mark_all.ensures.marks.count ∙ c.clear.ensures.count)
          (c.mark_all.ensures.waiting ∙ c.clear.ensures.waiting) refl refl c.self.invariant.0,
      c.self.invariant.1,
      c.self.invariant.2,
      c.self.invariant.3,
      c.self.invariant.4,
    )

pub returns : goal.returns
returns c =
    let marks = c.mark_all.ensures.marks in
    let cleared = c.clear.ensures.marks in
    let runs = c.self.invariant.0.runs in
    rw (← c.self.view_is) (record {
      rest = refl;
      count = marks.count ∙ c.clear.ensures.count;
      stale = λ k stale. marks.stays k ((cleared k).1 (runs.stale k stale));
      set = marks.set;
      only = λ k is. elim (marks.only k is) [ inl was ↦ inr (runs.waits k ((cleared k).0 was)) | inr there ↦ inl there ];
    })
