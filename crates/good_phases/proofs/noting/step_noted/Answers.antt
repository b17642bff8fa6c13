-- A step that changed something is noted and shown.
use Rattle.std.proofs.Common.{◌≡◌, false, length, ap, sym, subst, ◌∙◌}
use Rattle.std.proofs.lemmas.Bool.{OnTrue_at, OnFalse_at}
use Rattle.settling.specs.Moved.{ListsChanges}
use Rattle.machine_laws.specs.Machines.{MachineData}
use Rattle.machine_laws.specs.Fitting.{FitsGraph}
use Rattle.good_run.specs.Recording.{RunData, look_at}
use Rattle.good_run.proofs.RecordLemmas.{look_known}
use Rattle.run_beside.specs.Agreeing.{IsMove}
use Rattle.unit_step.specs.Listing.{nodes_told}
use Rattle.good_phases.proofs.noting.step_noted.Given.{Over}
use Rattle.good_phases.proofs.noting.step_noted.Goals.{After-show-2}
use Rattle.good_phases.proofs.noting.step_noted.Goals as goal

pub returns-then-not-step_of-clause-same : goal.returns-then-not-step_of-clause-same
returns-then-not-step_of-clause-same g c = OnFalse_at c.if-not-step_of.true c.step_of.ensures.same

pub returns-then-not-step_of-clause-known : goal.returns-then-not-step_of-clause-known
returns-then-not-step_of-clause-known g c = c.requires.known ∙ sym (OnFalse_at c.if-not-step_of.true c.step_of.ensures.same)

pub returns-then-not-step_of-clause-knows : goal.returns-then-not-step_of-clause-knows
returns-then-not-step_of-clause-knows g c =
    subst (g.O.Observer.knows c.args.onlooker.now) (sym (OnFalse_at c.if-not-step_of.true c.step_of.ensures.same)) c.requires.knows

pub show-requires : goal.show-requires
show-requires g c = (c.args.machine.now.state, c.requires.known, c.step_of.ensures.listed)

pub show-requires-2 : goal.show-requires-2
show-requires-2 g c =
    let old = c.args.machine.now.state in
    let list = subst (λ told. ListsChanges (nodes_told told (length c.step_of.new.machine.state)) old c.step_of.new.machine.state) (sym c.show.ensures.list)
    c.step_of.ensures.listed in
    (old, c.requires.knows, subst (λ (m : MachineData). ListsChanges (nodes_told c.show.new.changed (length m.state)) old m.state) (sym c.show.ensures.same) list)

-- the machine is the one behind the step
same_machine : (g : Over) (c : After-show-2 g) → c.show-2.new.machine ≡ c.step_of.new.machine
same_machine g c = c.show-2.ensures.same ∙ c.show.ensures.same

pub returns-clause-fits : goal.returns-clause-fits
returns-clause-fits g c =
    subst (FitsGraph c.args.graph.now) (sym (same_machine g (goal.at.returns-clause-fits g c).After-show-2)) c.step_of.ensures.fits

pub returns-clause-last : goal.returns-clause-last
returns-clause-last g c =
    ap (λ (m : MachineData). m.last) (same_machine g (goal.at.returns-clause-last g c).After-show-2) ∙ c.step_of.ensures.last

pub returns-clause-moves : goal.returns-clause-moves
returns-clause-moves g c =
    subst (λ (m : MachineData). IsMove c.args.joining c.args.graph.now c.args.machine.now.state m.state)
    (sym (same_machine g (goal.at.returns-clause-moves g c).After-show-2)) c.step_of.ensures.moves

pub returns-clause-changed : goal.returns-clause-changed
returns-clause-changed g c = λ same.
    OnTrue_at c.if-not-step_of.false c.step_of.ensures.changed
    (sym (ap (λ (m : MachineData). m.state) (same_machine g (goal.at.returns-clause-changed g c).After-show-2)) ∙ same)

pub returns-clause-noted : goal.returns-clause-noted
returns-clause-noted g c =
    c.show.ensures.seen
    ∙ ap (λ (m : MachineData). look_at false c.args.run.now m.state) (sym (same_machine g (goal.at.returns-clause-noted g c).After-show-2))

pub returns-clause-seen : goal.returns-clause-seen
returns-clause-seen g c =
    c.show-2.ensures.seen
    ∙ ap (λ (m : MachineData). g.O.Observer.see (g.O.Observer.seen c.args.onlooker.now) m.state) (sym c.show-2.ensures.same)

pub returns-clause-known : goal.returns-clause-known
returns-clause-known g c =
    ap (λ (run : RunData). run.known) c.show.ensures.seen
    ∙ (look_known false c.args.run.now c.step_of.new.machine.state
    ∙ ap (λ (m : MachineData). m.state) (sym (same_machine g (goal.at.returns-clause-known g c).After-show-2)))

pub returns-clause-knows : goal.returns-clause-knows
returns-clause-knows g c =
    subst (λ (m : MachineData). g.O.Observer.knows c.show-2.new.onlooker m.state) (sym c.show-2.ensures.same) c.show-2.ensures.knows
