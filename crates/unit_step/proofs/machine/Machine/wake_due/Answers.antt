-- The parts that wait and whose groups have a text get it, and most of them their codes; the others are held, as before or anew.
use Rattle.std.proofs.Common.{[], None, get_or, refl, sym, ap, subst, ◌∙◌}
use Rattle.std.proofs.lemmas.Option.{slice_get-get_or}
use Rattle.switch_paths.specs.Rails.{IsSound}
use Rattle.group_text.specs.FirstTexts.{new_texts}
use Rattle.analysis_cache.specs.Keeping.{texts_of}
use Rattle.circuit_texts.specs.Building.{BuildsFresh}
use Rattle.circuit_texts.specs.Sizes.{NoneRefused}
use Rattle.machine_laws.specs.Machines.{MachineData}
use Rattle.machine_laws.specs.Editing.{MakesReady}
use Rattle.analysis_cache.proofs.HoldingLemmas.{HoldsNearlyKept-same}
use Rattle.machine_laws.proofs.FillingLemmas.{on_err, IsGrown-same, IsGrown-filled, IsGrown-cut_off, Fills-filled, cut_off_front, cut_off_end}
use Rattle.machine_laws.proofs.FinishingBuilds.{waiting_texts}
use Rattle.unit_step.specs.Holding.{HoldsNextIn}
use Rattle.unit_step.proofs.FinishingOrder.{MakesReady-next}
use Rattle.unit_step.proofs.HoldingLemmas.{HoldsWide-next, next_woken, none_after, none_held, StaysKnown-next}
use Rattle.unit_step.proofs.WakingLemmas.{all_passed, woken_untold, Fills-none, MakesReady-none, StaysKnown-none}
use Rattle.unit_step.proofs.machine.Machine.wake_due.Given.{Over}
use Rattle.unit_step.proofs.machine.Machine.wake_due.Goals.{In_ok-waking, In_ok-holding, After-hold-2}
use Rattle.unit_step.proofs.machine.Machine.wake_due.Goals as goal

-- a build of the graph has the new ones of the waiting parts' texts analysed
fresh_in : (g : Over) (c : In_ok-waking g) →
    BuildsFresh c.args.large c.args.graph.now (texts_of c.args.kept.now) (new_texts (texts_of c.args.kept.now) c.in_ok-waking.waking.texts.items)
fresh_in g c =
    let waking = c.in_ok-waking.ensures.waking in
    waiting_texts c.args.graph.now c.args.self.now c.requires.covers waking.groups waking.some c.in_ok-waking.waking.slots.items waking.are
    waking.waiting waking.fit c.args.large
    (λ i d inside. c.in_ok-sizes.ensures.few waking.groups waking.are i (get_or waking.groups i d) (slice_get-get_or waking.groups i d inside))
    (texts_of c.args.kept.now) c.requires.known c.in_ok-waking.waking.texts.items waking.texts

-- the parts that go on waiting are held, as before or anew
next_in : (g : Over) (c : In_ok-holding g) →
    HoldsNextIn c.args.large c.args.graph.now c.args.self.now c.in_ok-risen.risen.coded.items c.in_ok-holding.holding
next_in g c = rw c.deref-2.ensures.value at c.in_ok-holding.ensures

makes_ready_in : (g : Over) (c : After-hold-2 g) →
    HoldsNextIn c.args.large c.args.graph.now c.args.self.now c.in_ok-risen.risen.coded.items c.in_ok-holding.holding →
    MakesReady c.args.graph.now c.args.self.now c.hold-2.new.self
makes_ready_in g c next =
    MakesReady-next c.args.large c.args.graph.now c.args.self.now c.make_ready.new.self c.hold-2.new.self c.in_ok-risen.risen.coded.items c.in_ok-holding.holding
    c.requires.covers c.in_ok-make_ready.ensures.wakes c.in_ok-sizes.ensures.few c.requires.railed c.requires.sound next c.hold-2.ensures

pub returns-in_err-sizes-clause-grown : goal.returns-in_err-sizes-clause-grown
returns-in_err-sizes-clause-grown g c = IsGrown-same c.args.kept.now

pub returns-in_err-sizes-clause-nearly : goal.returns-in_err-sizes-clause-nearly
returns-in_err-sizes-clause-nearly g c =
    on_err c.from_residual.result (HoldsNearlyKept-same c.args.kept.now (g.A.Analyst.held c.args.analyst.now))

-- if no group is due, only the bound is lowered
pub hold-requires : goal.hold-requires
hold-requires g c = tt

pub returns-then-has_no_group-clause-makes_ready : goal.returns-then-has_no_group-clause-makes_ready
returns-then-has_no_group-clause-makes_ready g c =
    let (told, without) = c.has_no_group.ensures.0 c.if-has_no_group.true in
    let passed = all_passed c.args.graph.now c.args.self.now c.args.large c.in_ok-sizes.sizes c.in_ok-sizes.ensures.due told without in
    MakesReady-none c.args.graph.now c.args.self.now c.requires.covers c.args.large passed c.in_ok-sizes.ensures.due.texts c.in_ok-sizes.ensures.few
    c.requires.railed c.requires.sound c.hold.new.self c.hold.ensures

pub returns-then-has_no_group-clause-stays : goal.returns-then-has_no_group-clause-stays
returns-then-has_no_group-clause-stays g c =
    let (told, without) = c.has_no_group.ensures.0 c.if-has_no_group.true in
    let due = c.in_ok-sizes.ensures.due in
    StaysKnown-none c.args.graph.now c.args.self.now c.requires.covers c.args.large
    (all_passed c.args.graph.now c.args.self.now c.args.large c.in_ok-sizes.sizes due told without) due.texts c.hold.new.self c.hold.ensures

pub returns-then-has_no_group-clause-fills : goal.returns-then-has_no_group-clause-fills
returns-then-has_no_group-clause-fills g c =
    let (told, without) = c.has_no_group.ensures.0 c.if-has_no_group.true in
    let passed = all_passed c.args.graph.now c.args.self.now c.args.large c.in_ok-sizes.sizes c.in_ok-sizes.ensures.due told without in
    Fills-none c.args.graph.now c.args.self.now c.requires.covers c.args.large passed c.in_ok-sizes.ensures.few (texts_of c.args.kept.now)
    c.requires.known (g.A.Analyst.analysed c.args.analyst.now)

pub returns-then-has_no_group-clause-grown : goal.returns-then-has_no_group-clause-grown
returns-then-has_no_group-clause-grown g c = IsGrown-same c.args.kept.now

pub waking-requires-clause-due : goal.waking-requires-clause-due
waking-requires-clause-due g c = (c.args.large, c.in_ok-sizes.ensures.due)

pub returns-in_err-waking-clause-grown : goal.returns-in_err-waking-clause-grown
returns-in_err-waking-clause-grown g c = IsGrown-same c.args.kept.now

pub returns-in_err-waking-clause-nearly : goal.returns-in_err-waking-clause-nearly
returns-in_err-waking-clause-nearly g c =
    on_err c.from_residual-in_err-waking.result (HoldsNearlyKept-same c.args.kept.now (g.A.Analyst.held c.args.analyst.now))

pub returns-in_err-fresh-clause-cut_off : goal.returns-in_err-fresh-clause-cut_off
returns-in_err-fresh-clause-cut_off g c = λ is.
    cut_off_front c.args.large c.args.graph.now c.args.kept.now c.fill.new.self _ _ _ _ c.deref.result.now _ c.deref.ensures.value
    (fresh_in g (goal.at.returns-in_err-fresh-clause-cut_off g c).In_ok-waking) c.in_err-fresh.ensures.err

pub returns-in_err-fresh-clause-grown : goal.returns-in_err-fresh-clause-grown
returns-in_err-fresh-clause-grown g c =
    IsGrown-cut_off c.args.large c.args.graph.now c.args.kept.now c.fill.new.self _ _ _ _ c.deref.result.now c.in_err-fresh.ensures.err

pub returns-in_err-fresh-clause-nearly : goal.returns-in_err-fresh-clause-nearly
returns-in_err-fresh-clause-nearly g c = on_err c.from_residual-in_err-fresh.result c.in_err-fresh.ensures.nearly

pub returns-in_err-make_ready-clause-cut_off : goal.returns-in_err-make_ready-clause-cut_off
returns-in_err-make_ready-clause-cut_off g c = λ is.
    cut_off_end c.args.large c.args.graph.now c.args.kept.now c.fill.new.self _ _ _ _ c.deref.result.now _ c.deref.ensures.value
    (fresh_in g (goal.at.returns-in_err-make_ready-clause-cut_off g c).In_ok-waking) c.in_ok-fresh.fresh c.in_ok-fresh.ensures.ok

pub returns-in_err-make_ready-clause-grown : goal.returns-in_err-make_ready-clause-grown
returns-in_err-make_ready-clause-grown g c =
    IsGrown-filled c.args.large c.args.graph.now c.args.kept.now c.fill.new.self _ _ _ _ c.deref.result.now c.in_ok-fresh.fresh c.in_ok-fresh.ensures.ok

pub returns-in_err-make_ready-clause-nearly : goal.returns-in_err-make_ready-clause-nearly
returns-in_err-make_ready-clause-nearly g c =
    on_err c.from_residual-in_err-make_ready.result (λ holds.
    HoldsNearlyKept-same c.fill.new.self (g.A.Analyst.held c.fill.new.analyst) (c.in_ok-fresh.ensures.holds holds))

pub returns-in_err-risen-clause-cut_off : goal.returns-in_err-risen-clause-cut_off
returns-in_err-risen-clause-cut_off g c = λ is.
    cut_off_end c.args.large c.args.graph.now c.args.kept.now c.fill.new.self _ _ _ _ c.deref.result.now _ c.deref.ensures.value
    (fresh_in g (goal.at.returns-in_err-risen-clause-cut_off g c).In_ok-waking) c.in_ok-fresh.fresh c.in_ok-fresh.ensures.ok

pub returns-in_err-risen-clause-grown : goal.returns-in_err-risen-clause-grown
returns-in_err-risen-clause-grown g c =
    IsGrown-filled c.args.large c.args.graph.now c.args.kept.now c.fill.new.self _ _ _ _ c.deref.result.now c.in_ok-fresh.fresh c.in_ok-fresh.ensures.ok

pub returns-in_err-risen-clause-nearly : goal.returns-in_err-risen-clause-nearly
returns-in_err-risen-clause-nearly g c =
    on_err c.from_residual-in_err-risen.result (λ holds.
    HoldsNearlyKept-same c.fill.new.self (g.A.Analyst.held c.fill.new.analyst) (c.in_ok-fresh.ensures.holds holds))

pub returns-in_err-holding-clause-cut_off : goal.returns-in_err-holding-clause-cut_off
returns-in_err-holding-clause-cut_off g c = λ is.
    cut_off_end c.args.large c.args.graph.now c.args.kept.now c.fill.new.self _ _ _ _ c.deref.result.now _ c.deref.ensures.value
    (fresh_in g (goal.at.returns-in_err-holding-clause-cut_off g c).In_ok-waking) c.in_ok-fresh.fresh c.in_ok-fresh.ensures.ok

pub returns-in_err-holding-clause-grown : goal.returns-in_err-holding-clause-grown
returns-in_err-holding-clause-grown g c =
    IsGrown-filled c.args.large c.args.graph.now c.args.kept.now c.fill.new.self _ _ _ _ c.deref.result.now c.in_ok-fresh.fresh c.in_ok-fresh.ensures.ok

pub returns-in_err-holding-clause-nearly : goal.returns-in_err-holding-clause-nearly
returns-in_err-holding-clause-nearly g c =
    on_err c.from_residual-in_err-holding.result (λ holds.
    HoldsNearlyKept-same c.fill.new.self (g.A.Analyst.held c.fill.new.analyst) (c.in_ok-fresh.ensures.holds holds))

pub holding-requires : goal.holding-requires
holding-requires g c = c.requires.covers.counted

pub hold-requires-2 : goal.hold-requires-2
hold-requires-2 g c =
    let m = c.args.self.now in
    let wakes = c.in_ok-make_ready.ensures.wakes in
    let next = next_in g (goal.at.hold-requires-2 g c).In_ok-holding in
    HoldsWide-next c.args.large c.args.graph.now c.make_ready.new.self wakes.ready c.in_ok-sizes.ensures.few c.requires.railed
    (subst IsSound (sym wakes.state) c.requires.sound) c.in_ok-holding.holding
    (next_woken c.args.graph.now m c.make_ready.new.self c.in_ok-risen.risen.coded.items c.requires.covers wakes c.args.large
    c.in_ok-holding.holding next)

pub returns-clause-makes_ready : goal.returns-clause-makes_ready
returns-clause-makes_ready g c =
    let at = goal.at.returns-clause-makes_ready g c in
    makes_ready_in g at.After-hold-2 (next_in g at.In_ok-holding)

pub returns-clause-stays : goal.returns-clause-stays
returns-clause-stays g c =
    let large = c.args.large in
    let next = next_in g (goal.at.returns-clause-stays g c).In_ok-holding in
    StaysKnown-next c.args.graph.now c.args.self.now c.make_ready.new.self c.in_ok-risen.risen.coded.items c.requires.covers c.in_ok-make_ready.ensures.wakes large
    c.in_ok-holding.holding c.hold-2.new.self next c.hold-2.ensures

pub returns-clause-fills : goal.returns-clause-fills
returns-clause-fills g c =
    Fills-filled c.args.large c.args.graph.now c.args.kept.now c.fill.new.self _ _ _ _ c.deref.result.now _ c.deref.ensures.value
    (fresh_in g (goal.at.returns-clause-fills g c).In_ok-waking) c.in_ok-fresh.fresh c.in_ok-fresh.ensures.ok

pub returns-clause-grown : goal.returns-clause-grown
returns-clause-grown g c =
    IsGrown-filled c.args.large c.args.graph.now c.args.kept.now c.fill.new.self _ _ _ _ c.deref.result.now c.in_ok-fresh.fresh c.in_ok-fresh.ensures.ok

-- if no group is due, none comes to be stepped by vicinities
pub returns-then-has_no_group-clause-without : goal.returns-then-has_no_group-clause-without
returns-then-has_no_group-clause-without g c = λ all zero_is none untold.
    ap (λ (m : MachineData). m.wide) c.hold.ensures ∙ none_after c.args.large c.args.self.now.wide None none refl

-- nor if all groups get their codes, and none is too large for a text
pub returns-clause-without : goal.returns-clause-without
returns-clause-without g c = λ all zero_is none untold.
    let graph = c.args.graph.now in
    let m = c.args.self.now in
    let mid = c.make_ready.new.self in
    let risen = c.in_ok-risen.risen in
    let wakes = c.in_ok-make_ready.ensures.wakes in
    let holding = c.in_ok-holding.holding in
    let next = next_woken graph m mid risen.coded.items c.requires.covers wakes c.args.large holding (next_in g (goal.at.returns-clause-without g c).In_ok-holding) in
    let few = woken_untold graph m mid risen c.requires.covers c.in_ok-risen.ensures.risen wakes (c.in_ok-risen.ensures.all all none) untold in
    ap (λ (after : MachineData). after.wide) c.hold-2.ensures
    ∙ none_after c.args.large mid.wide holding (wakes.wide ∙ none)
    (none_held graph mid holding wakes.ready.covers few (subst (λ large. NoneRefused large graph) zero_is c.in_ok-sizes.ensures.few)
    (subst (λ large. HoldsNextIn large graph mid [] holding) zero_is next))
