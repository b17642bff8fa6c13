-- Each node has the part that it is a member of, if there is one.
use Rattle.std.proofs.Common.{◌≡◌, ℕ, List, Option, None, sym, ap, subst, ◌∙◌}
use Rattle.std.specs.Prelude.{slice_index_or}
use Rattle.machine_parts.specs.declared.part.MachinePart.{MachinePart}
use Rattle.machine_parts.specs.Parts.{HasMember}
use Rattle.machine_laws.specs.Machines.{MachineData}
use Rattle.unit_step.proofs.machine.Machine.owner.Goals as goal

pub returns : goal.returns
returns c = λ k.
    let owners = c.self.inside.body.owners.items in
    let own = c.self.invariant.0.own in
    let at : c.owner_of.result ≡ slice_index_or owners c.args.node None =
    c.owner_of.ensures ∙ ap (λ (list : List (Option ℕ)). slice_index_or list c.args.node None) c.deref.ensures.value in
    let parts : c.self.inside.body.parts.items ≡ c.args.self.now.parts = ap (λ (m : MachineData). m.parts) c.self.view_is in (
      λ is. subst (λ (list : List MachinePart). HasMember list k c.args.node) parts (own.member c.args.node k (sym at ∙ is)),
      λ has. at ∙ own.owner c.args.node k (subst (λ (list : List MachinePart). HasMember list k c.args.node) (sym parts) has),
    )
