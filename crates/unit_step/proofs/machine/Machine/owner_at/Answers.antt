-- The list of owners tells it.
use Rattle.std.proofs.Common.{◌<◌, length, sym, ap, ◌∙◌, arith}
use Rattle.std.specs.Prelude.{None}
use Rattle.std.proofs.lemmas.List.{get_or_default}
use Rattle.machine_laws.specs.Machines.{MachineData}
use Rattle.unit_step.proofs.machine.Machine.owner_at.Goals as goal

pub returns : goal.returns
returns c =
    let i = c.self.inside in
    let inside : c.args.node < length i.body.owners.items =
    omega (arith, c.requires, ap (λ (m : MachineData). length m.state) c.self.view_is, c.self.invariant.0.own.counted) in
    let is = c.index.ensures ∙ get_or_default i.body.owners.items c.args.node c.index.result.now None inside in
    rw (← c.self.view_is) (λ k. (
      λ owner. c.self.invariant.0.own.member c.args.node k (sym is ∙ owner),
      λ has. is ∙ c.self.invariant.0.own.owner c.args.node k has,
    ))
