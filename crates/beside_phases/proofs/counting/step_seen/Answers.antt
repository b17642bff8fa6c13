-- A node follows that changes, or a part does: then the state behind the step is shown. Else what is taken over changes nothing.
use Rattle.std.proofs.Common.{◌≡◌, inl, inr, ap, false, sym, subst, ◌∙◌}
use Rattle.std.proofs.lemmas.Bool.{OnTrue_at, OnFalse_at}
use Rattle.machine_laws.specs.Machines.{MachineData}
use Rattle.settling.proofs.NumbersLemmas.{listed_after}
use Rattle.unit_step.specs.Beside.{AdvancesBeside, KeepsPartsApart}
use Rattle.beside_phases.proofs.FollowingLemmas.{follows_moves, unfollowed_stays}
use Rattle.beside_phases.proofs.counting.step_seen.Given.{Over}
use Rattle.beside_phases.proofs.counting.step_seen.Goals.{After-is_change}
use Rattle.beside_phases.proofs.counting.step_seen.Goals as goal

-- nothing follows, and nothing changed: the state stays
stays : (g : Over) (c : After-is_change g) → c.is_change.result ≡ false → c.step_beside-moved.new.self.state ≡ c.args.machine.now.state
stays g c unset =
    let (none, still) = OnFalse_at unset c.is_change.ensures.no in
    unfollowed_stays c.args.changes.now c.args.apart.now.inside c.args.good.now c.args.machine.now c.step_beside-moved.new.self.state c.requires.kept
    (OnFalse_at none c.some_follows-follows.ensures.no) (OnFalse_at still c.step_beside-moved.ensures.same)

pub show-requires : goal.show-requires
show-requires g c =
    let step = c.step_beside-moved in
    (c.args.machine.now.state, c.requires.knows, listed_after c.args.machine.now.state step.new.self.state step.ensures.advances.moves_so.count)

pub returns-then-not-is_change-clause-same : goal.returns-then-not-is_change-clause-same
returns-then-not-is_change-clause-same g c = stays g (goal.at.returns-then-not-is_change-clause-same g c).After-is_change c.if-not-is_change.true

pub returns-then-not-is_change-clause-knows : goal.returns-then-not-is_change-clause-knows
returns-then-not-is_change-clause-knows g c =
    subst (g.O.Observer.knows c.args.onlooker.now)
    (sym (stays g (goal.at.returns-then-not-is_change-clause-knows g c).After-is_change c.if-not-is_change.true)) c.requires.knows

pub returns-clause-advances : goal.returns-clause-advances
returns-clause-advances g c =
    subst (AdvancesBeside c.args.joining c.args.changes.now c.args.apart.now.inside c.step_beside-moved.new.apart.inside c.args.machine.now) (sym c.show.ensures.same)
    c.step_beside-moved.ensures.advances

pub returns-clause-kept : goal.returns-clause-kept
returns-clause-kept g c =
    let step = c.step_beside-moved in
    subst (λ (m : MachineData). KeepsPartsApart m.parts step.new.apart.inside step.new.good m.state) (sym c.show.ensures.same) step.ensures.kept

pub returns-clause-changed : goal.returns-clause-changed
returns-clause-changed g c = λ same.
    let step = c.step_beside-moved in
    let stayed : step.new.self.state ≡ c.args.machine.now.state = sym (ap (λ (m : MachineData). m.state) c.show.ensures.same) ∙ same in
    elim (OnTrue_at c.if-not-is_change.false c.is_change.ensures.yes) [
      | inl follows ↦
          follows_moves c.args.joining c.args.changes.now c.args.apart.now.inside step.new.apart.inside c.args.good.now c.args.machine.now step.new.self
          c.requires.kept step.ensures.advances (OnTrue_at follows c.some_follows-follows.ensures.yes) stayed
      | inr moved ↦ OnTrue_at moved step.ensures.changed stayed
    ]

pub returns-clause-seen : goal.returns-clause-seen
returns-clause-seen g c =
    c.show.ensures.seen ∙ ap (λ (m : MachineData). g.O.Observer.see (g.O.Observer.seen c.args.onlooker.now) m.state) (sym c.show.ensures.same)

pub returns-clause-knows : goal.returns-clause-knows
returns-clause-knows g c =
    subst (λ (m : MachineData). g.O.Observer.knows c.show.new.onlooker m.state) (sym c.show.ensures.same) c.show.ensures.knows
