-- The machine follows the edit, or is handed back.
use Rattle.std.proofs.Common.{◌≡◌, Some, refl, sym, ap, subst, ◌∙◌, arith}
use Rattle.std.specs.Prelude.{IfSome}
use Rattle.channel_groups.specs.Changes.{undo}
use Rattle.machine_laws.specs.Fitting.{Covers}
use Rattle.edits_between.specs.Leading.{LedIn, last_in}
use Rattle.edits_between.proofs.LeadingLemmas.{led_edit}
use Rattle.edits_between.proofs.leading.follow.Goals as goal

pub returns-in_default-clause-led : goal.returns-in_default-clause-led
returns-in_default-clause-led g c =
    subst (λ slot. LedIn (undo c.args.graph.now c.args.change.now) c.args.graph.now slot c.take.new.self) (sym c.in_default.is ∙ c.take.ensures.value)
    c.take.ensures.after

pub returns-in_default-clause-last : goal.returns-in_default-clause-last
returns-in_default-clause-last g c = ap last_in (c.take.ensures.after ∙ (sym c.in_default.is ∙ c.take.ensures.value))

pub edit-requires : goal.edit-requires
edit-requires g c =
    let is : c.args.slot.now ≡ Some c.in-Some.machine = sym c.take.ensures.value ∙ c.in-Some.is in
    let covers = subst (λ slot. IfSome slot (Covers (undo c.args.graph.now c.args.change.now))) is c.requires.covers in
    record { covers = covers; wired = c.requires.wired; room = omega (arith, covers.counted, c.requires.nodes) }

pub returns-in-Ok-clause-led : goal.returns-in-Ok-clause-led
returns-in-Ok-clause-led g c =
    let is : c.args.slot.now ≡ Some c.in-Some.machine = sym c.take.ensures.value ∙ c.in-Some.is in
    let covers = subst (λ slot. IfSome slot (Covers (undo c.args.graph.now c.args.change.now))) is c.requires.covers in
    subst (λ slot. LedIn (undo c.args.graph.now c.args.change.now) c.args.graph.now slot (Some c.in-Ok.next)) (sym is) (
      c.in-Ok.next,
      refl,
      led_edit c.args.graph.now c.args.change.now c.in-Some.machine c.in-Ok.next c.requires.wired c.graphs_are_wired.ensures covers
          c.in-Ok.ensures.edits c.requires.nodes,
    )

pub returns-in-Ok-clause-last : goal.returns-in-Ok-clause-last
returns-in-Ok-clause-last g c = c.in-Ok.ensures.edits.last ∙ sym (ap last_in (sym c.take.ensures.value ∙ c.in-Some.is))

pub returns-in-Err-clause-last : goal.returns-in-Err-clause-last
returns-in-Err-clause-last g c = c.in-Err.ensures.last ∙ sym (ap last_in (sym c.take.ensures.value ∙ c.in-Some.is))
