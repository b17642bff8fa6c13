-- A step of the machine beside a good run's, by its parts.
use Rattle.std.proofs.Common.{◌≡◌, ◌≢◌, ℕ, List, length, refl, sym, ap, subst, ◌∙◌, arith}
use Rattle.std.specs.Bool.{OnTrue, OnFalse}
use Rattle.std.specs.Prelude.{Option, vec_capacity}
use Rattle.std.specs.Vec.{with_items}
use Rattle.std.proofs.lemmas.Bool.{OnFalse_from, OnFalse_at}
use Rattle.std.proofs.lemmas.List.{with_items_is}
use Rattle.ternary.specs.declared.tern.Tern.{Tern}
use Rattle.machine_parts.specs.declared.part.MachinePart.{MachinePart}
use Rattle.machine_parts.specs.Marking.{IsMarked, marked_sum, instructions_of}
use Rattle.machine_parts.proofs.MachineLemmas.{IsMachine-again}
use Rattle.wide_groups.specs.Moving.{RetouchesIn}
use Rattle.wide_groups.specs.Awake.{HoldsWide, IsWorked}
use Rattle.part_steps.specs.Dense.{AreDense}
use Rattle.part_steps.specs.Workspaces.{rooms}
use Rattle.machine_laws.specs.Machines.{MachineData}
use Rattle.run_beside.specs.Following.{IsWritten, FollowsAt}
use Rattle.run_beside.specs.Near.{AreNearIn}
use Rattle.run_beside.specs.Noticing.{KeepsApart}
use Rattle.run_beside.specs.Stepping.{MovesBeside, RemarksBeside}
use Rattle.run_beside.proofs.WritingLemmas.{IsWritten-as}
use Rattle.unit_step.specs.Beside.{FollowsByPart, KeepsPartsApart}
use Rattle.unit_step.specs.LastTexts.{AreLastTexts}
use Rattle.unit_step.proofs.BesideLemmas.{tables_apart, parts_apart}
use Rattle.unit_step.proofs.machine.Machine.step_beside.Given.{Over}
use Rattle.unit_step.proofs.machine.Machine.step_beside.Goals.{After-advance_beside}
use Rattle.unit_step.proofs.machine.Machine.step_beside.Goals as goal

pub advance_beside-requires : goal.advance_beside-requires
advance_beside-requires g c =
    let i = c.self.inside in
    let runs = c.self.invariant.0.runs in
    let marked : (k : ℕ) → IsMarked i.body.agenda.marks k → IsMarked c.args.apart.now.inside k =
    subst (λ (m : MachineData). (k : ℕ) → IsMarked m.marks k → IsMarked c.args.apart.now.inside k) (sym c.self.view_is) c.requires.marked in
    let kept : KeepsPartsApart i.body.parts.items c.args.apart.now.inside c.args.good.now i.body.state.items =
    subst (λ (m : MachineData). KeepsPartsApart m.parts c.args.apart.now.inside c.args.good.now m.state) (sym c.self.view_is) c.requires.kept in
    let count : length i.body.parts.items ≡ c.len.result = omega (arith, c.len.ensures, i.body.parts.ok.0) in
    let known : AreNearIn i.body.parts.items c.deref.result.now i.body.near =
    subst (λ owners. AreNearIn i.body.parts.items owners i.body.near) (sym c.deref.ensures.value) c.self.invariant.4 in
    let near : AreNearIn i.body.parts.items i.body.owners.items c.know_near.new.near =
    subst (λ owners. AreNearIn i.body.parts.items owners c.know_near.new.near) c.deref.ensures.value (c.know_near.ensures i.body.parts.items count known) in
    rw (c.deref-2.ensures.value, c.deref-3.ensures.value, c.deref_mut.ensures.value) (record {
      dense = c.self.invariant.1;
      wide = c.self.invariant.3;
      runnable = runs;
      owners = c.self.invariant.0.own;
      counted = subst (λ (m : MachineData). length c.args.good.now ≡ length m.state) (sym c.self.view_is) c.requires.counted;
      inside = c.requires.inside;
      agreed = c.requires.agreed;
      apart = subst (λ (m : MachineData). length c.args.apart.now.inside ≡ length m.parts) (sym c.self.view_is) c.requires.apart;
      marked = marked;
      kept = tables_apart i.body.parts.items i.body.agenda.marks i.body.agenda.waiting (length i.body.state.items) i.body.readers (rooms i.body.workspace) runs
          i.body.owners.items c.self.invariant.0.own c.args.apart.now.inside c.args.good.now i.body.state.items kept;
      near = near;
    })

pub invariant_of-self : goal.invariant_of-self
invariant_of-self g c =
    let i = c.self.inside in
    let n = c.advance_beside.new.bad in
    let step = c.advance_beside.ensures in
    let final = with_items_is i.body.state n (omega (arith, c.advance_beside.auto.bad, c.deref_mut.ensures.len)) in
    let nodes = ap length final ∙ (c.advance_beside.auto.bad ∙ ap length c.deref_mut.ensures.value) in (
      IsMachine-again i.body.parts.items i.body.agenda.marks c.advance_beside.new.agenda.marks i.body.agenda.waiting c.advance_beside.new.agenda.waiting
          (length i.body.state.items) _ i.body.readers i.body.owners.items i.body.uses.numbers i.body.held i.body.most (rooms i.body.workspace)
          (rooms c.advance_beside.new.workspace) step.marks.count step.waiting nodes step.rooms c.self.invariant.0,
      subst (λ parts. AreDense parts c.advance_beside.new.dense) c.deref-2.ensures.value step.dense,
      subst (λ n. AreLastTexts i.body.parts.items i.body.uses.numbers n (length i.body.uses.known) i.body.last_texts) (sym nodes) c.self.invariant.2,
      subst (λ state. HoldsWide i.body.parts.items state (vec_capacity c.advance_beside.new.noted) c.advance_beside.new.wide) (sym final)
          (subst (λ list. HoldsWide list n (vec_capacity c.advance_beside.new.noted) c.advance_beside.new.wide) c.deref-2.ensures.value step.holds),
      subst (λ owners. AreNearIn i.body.parts.items owners c.advance_beside.new.near) c.deref-3.ensures.value
          (subst (λ parts. AreNearIn parts c.deref-3.result.now c.advance_beside.new.near) c.deref-2.ensures.value step.near),
    )

-- what holds of the parts, the states that were handed in and those that came back holds of the machine's
parts_are : (g : Over) (c : After-advance_beside g) (P : List MachinePart → List (Option ℕ) → List Tern → List Tern → Type 0) →
    P c.deref-2.result.now c.deref-3.result.now c.deref_mut.result.now c.advance_beside.new.bad →
    P c.self.inside.body.parts.items c.self.inside.body.owners.items c.self.inside.body.state.items
    (with_items c.self.inside.body.state c.advance_beside.new.bad).items
parts_are g c P holds =
    let i = c.self.inside in
    let final = with_items_is i.body.state c.advance_beside.new.bad (omega (arith, c.advance_beside.auto.bad, c.deref_mut.ensures.len)) in
    subst (P i.body.parts.items i.body.owners.items i.body.state.items) (sym final)
    (subst (λ state. P i.body.parts.items i.body.owners.items state c.advance_beside.new.bad) c.deref_mut.ensures.value
    (subst (λ owners. P i.body.parts.items owners c.deref_mut.result.now c.advance_beside.new.bad) c.deref-3.ensures.value
    (subst (λ parts. P parts c.deref-3.result.now c.deref_mut.result.now c.advance_beside.new.bad) c.deref-2.ensures.value holds)))

pub returns-clause-advances : goal.returns-clause-advances
returns-clause-advances g c =
    let i = c.self.inside in
    let at_end = (goal.at.returns-clause-advances g c).After-advance_beside in
    let step = c.advance_beside.ensures in
    let apart = c.args.apart.now.inside in
    let new_apart = c.advance_beside.new.apart.inside in
    rw (← c.self.view_is) (record {
      owners = i.body.owners.items;
      owned = c.self.invariant.0.own;
      moves_so = parts_are g at_end (λ parts owners old new. MovesBeside c.args.joining parts i.body.agenda.marks i.body.wide owners apart c.args.changes.now old new)
          step.moves;
      wide = parts_are g at_end (λ parts owners old new. RetouchesIn c.args.joining i.body.wide c.advance_beside.new.wide old new) step.retouches;
      marks = parts_are g at_end (λ parts owners old new. RemarksBeside c.args.joining parts i.body.agenda.marks old new apart new_apart c.advance_beside.new.agenda.marks)
          step.marks;
      build = record { groups = refl; last = refl; spare = refl };
      held = record { parts = refl; uses = refl; texts = refl };
      moves = refl;
      placed = refl;
    })

pub returns-clause-kept : goal.returns-clause-kept
returns-clause-kept g c =
    let i = c.self.inside in
    let at_end = (goal.at.returns-clause-kept g c).After-advance_beside in
    let kept = parts_are g at_end (λ parts owners old new. KeepsApart owners i.body.readers c.advance_beside.new.apart.inside c.advance_beside.new.good new)
    c.advance_beside.ensures.kept in
    parts_apart i.body.parts.items i.body.agenda.marks i.body.agenda.waiting (length i.body.state.items) i.body.readers (rooms i.body.workspace)
    c.self.invariant.0.runs i.body.owners.items c.self.invariant.0.own c.advance_beside.new.apart.inside c.advance_beside.new.good _ kept

pub returns-clause-ticks : goal.returns-clause-ticks
returns-clause-ticks g c =
    let i = c.self.inside in
    rw (← c.self.view_is)
    (parts_are g (goal.at.returns-clause-ticks g c).After-advance_beside
    (λ parts owners old new. IsWorked (marked_sum instructions_of parts i.body.agenda.marks) i.body.wide old c.args.steps.now c.advance_beside.new.steps)
    c.advance_beside.ensures.steps)

pub returns-clause-changed : goal.returns-clause-changed
returns-clause-changed g c =
    rw (← c.self.view_is) (parts_are g (goal.at.returns-clause-changed g c).After-advance_beside
    (λ parts owners old new. OnTrue c.advance_beside.result (new ≢ old)) c.advance_beside.ensures.changed)

pub returns-clause-same : goal.returns-clause-same
returns-clause-same g c =
    let i = c.self.inside in
    let own = c.self.invariant.0.own in
    let apart = c.args.apart.now.inside in
    let final = (with_items i.body.state c.advance_beside.new.bad).items in
    let written = parts_are g (goal.at.returns-clause-same g c).After-advance_beside
    (λ parts owners old new. OnFalse c.advance_beside.result (IsWritten (FollowsAt owners apart) c.args.changes.now old new)) c.advance_beside.ensures.same in
    rw (← c.self.view_is) (OnFalse_from c.advance_beside.result
    (IsWritten (FollowsByPart i.body.parts.items apart) c.args.changes.now i.body.state.items final) (λ unset.
    IsWritten-as (FollowsAt i.body.owners.items apart) (FollowsByPart i.body.parts.items apart) c.args.changes.now i.body.state.items final
    (λ node (k, owner, out). (k, own.member node k owner, out))
    (λ node (k, has, out). (k, own.owner node k has, out))
    (OnFalse_at unset written)))
