-- Each part has a mark.
use Rattle.std.proofs.Common.{◌≡◌, length, refl, subst, arith}
use Rattle.machine_parts.proofs.MachineLemmas.{IsMachine-again}
use Rattle.part_steps.specs.Workspaces.{rooms}
use Rattle.unit_step.specs.Restarting.{MarksBelow}
use Rattle.unit_step.proofs.machine.Machine.mark_all_parts.Goals as goal

pub mark_below-requires : goal.mark_below-requires
mark_below-requires c = omega (arith, c.len.ensures, c.self.inside.body.parts.ok.0, c.self.invariant.0.runs.counted)

pub invariant_of-self : goal.invariant_of-self
invariant_of-self c =
    let i = c.self.inside in (
      IsMachine-again i.body.parts.items i.body.agenda.marks c.mark_below.new.agenda.marks i.body.agenda.waiting c.mark_below.new.agenda.waiting
          (length i.body.state.items) (length i.body.state.items) i.body.readers i.body.owners.items i.body.uses.numbers i.body.held i.body.most
          (rooms i.body.workspace) (rooms i.body.workspace) c.mark_below.ensures.marks.count c.mark_below.ensures.waiting refl
          refl c.self.invariant.0,
      c.self.invariant.1,
      c.self.invariant.2,
      c.self.invariant.3,
      c.self.invariant.4,
    )

pub returns : goal.returns
returns c =
    let i = c.self.inside in
    let counted : c.len.result ≡ length i.body.parts.items = omega (arith, c.len.ensures, i.body.parts.ok.0) in
    rw (← c.self.view_is) (record {
      marks = subst (λ n. MarksBelow n i.body.agenda.marks c.mark_below.new.agenda.marks) counted c.mark_below.ensures.marks;
      rest = refl;
    })
