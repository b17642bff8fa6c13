-- If no part waits, only the bound is lowered.
use Rattle.std.proofs.Common.{None, refl, ap, ◌∙◌}
use Rattle.std.proofs.lemmas.Bool.{OnTrue_at}
use Rattle.analysis_cache.specs.Keeping.{texts_of}
use Rattle.machine_laws.specs.Machines.{MachineData}
use Rattle.machine_laws.proofs.FillingLemmas.{IsGrown-same}
use Rattle.unit_step.proofs.HoldingLemmas.{none_after}
use Rattle.unit_step.proofs.WakingLemmas.{none_passed, few_coded, Fills-none, MakesReady-none, StaysKnown-none}
use Rattle.unit_step.proofs.machine.Machine.wake.Goals as goal

pub returns-then-none_waits-clause-makes_ready : goal.returns-then-none_waits-clause-makes_ready
returns-then-none_waits-clause-makes_ready g c =
    let none = OnTrue_at c.if-none_waits.true c.none_waits.ensures.none in
    let graph = c.args.graph.now in
    MakesReady-none graph c.args.self.now c.requires.covers c.args.large (none_passed graph c.args.self.now c.requires.covers c.args.large none)
    c.none_waits.ensures.texts (few_coded graph c.args.self.now c.requires.covers c.args.large none) c.requires.railed c.requires.sound
    c.hold_up_to.new.self c.hold_up_to.ensures

pub returns-then-none_waits-clause-stays : goal.returns-then-none_waits-clause-stays
returns-then-none_waits-clause-stays g c =
    let none = OnTrue_at c.if-none_waits.true c.none_waits.ensures.none in
    StaysKnown-none c.args.graph.now c.args.self.now c.requires.covers c.args.large
    (none_passed c.args.graph.now c.args.self.now c.requires.covers c.args.large none) c.none_waits.ensures.texts c.hold_up_to.new.self c.hold_up_to.ensures

pub returns-then-none_waits-clause-fills : goal.returns-then-none_waits-clause-fills
returns-then-none_waits-clause-fills g c =
    let none = OnTrue_at c.if-none_waits.true c.none_waits.ensures.none in
    let graph = c.args.graph.now in
    let m = c.args.self.now in
    Fills-none graph m c.requires.covers c.args.large (none_passed graph m c.requires.covers c.args.large none)
    (few_coded graph m c.requires.covers c.args.large none) (texts_of c.args.kept.now) c.requires.known (g.A.Analyst.analysed c.args.analyst.now)

pub returns-then-none_waits-clause-grown : goal.returns-then-none_waits-clause-grown
returns-then-none_waits-clause-grown g c = IsGrown-same c.args.kept.now

-- and none comes to be stepped by vicinities
pub returns-then-none_waits-clause-without : goal.returns-then-none_waits-clause-without
returns-then-none_waits-clause-without g c = λ all zero_is none untold.
    ap (λ (m : MachineData). m.wide) c.hold_up_to.ensures ∙ none_after c.args.large c.args.self.now.wide None none refl
