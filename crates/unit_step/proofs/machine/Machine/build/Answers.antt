-- The new ones of the distinct texts are analysed, which are the new ones of the groups' texts.
use Rattle.std.proofs.Common.{◌≡◌, inl, [], length, List, All, Option, None, Vec, Global, sym, ap, subst, ◌∙◌}
use Rattle.std.proofs.lemmas.Option.{slice_get_within, get_or_from_slice_get}
use Rattle.std.proofs.lemmas.Result.{err_from_is_err_and}
use Rattle.ternary.specs.declared.tern.Tern.{Tern}
use Rattle.switch_paths.specs.Graphs.{GraphData, nodes}
use Rattle.switch_paths.specs.Rails.{IsSound}
use Rattle.group_meaning.proofs.UniqueGroups.{unique}
use Rattle.circuit_texts.specs.Sizes.{NoneRefused, refused_in}
use Rattle.group_text.specs.FirstTexts.{new_texts}
use Rattle.group_text.specs.Texts.{GroupTextData}
use Rattle.group_analysis.specs.Using.{kept_after}
use Rattle.analysis_cache.specs.Keeping.{texts_of}
use Rattle.analysis_cache.specs.Adding.{FillsAll}
use Rattle.circuit_texts.specs.Building.{Builds, BuildsFresh}
use Rattle.vicinity.specs.Wides.{WideData}
use Rattle.machine_laws.specs.Machines.{MachineData}
use Rattle.machine_laws.specs.Fitting.{FitsGraph, AreUntold}
use Rattle.machine_laws.specs.Beginnings.{HasLast}
use Rattle.machine_laws.specs.Holding.{IsReady}
use Rattle.unit_step.specs.Planning.{IsPlan}
use Rattle.unit_step.specs.Holding.{HasNodes, HoldsNext, HoldsNextIn, wide_after}
use Rattle.unit_step.proofs.HoldingLemmas.{FitsGraph-next, HoldsWide-next, none_held, none_after}
use Rattle.analysis_cache.proofs.HoldingLemmas.{HoldsNearlyKept-same}
use Rattle.machine_laws.proofs.FillingLemmas.{on_err, IsGrown-same, IsGrown-filled, IsGrown-cut_off, Builds-first, cut_off_front, cut_off_end}
use Rattle.unit_step.proofs.BuildLemmas.{HasTexts-planned, planned_texts}
use Rattle.unit_step.proofs.machine.Machine.build.Given.{Over}
use Rattle.unit_step.proofs.machine.Machine.build.Goals.{In_ok-plan, After-start-machine}
use Rattle.unit_step.proofs.machine.Machine.build.Goals as goal

-- a build of the graph has the new ones of the planned texts analysed
fresh_in : (g : Over) (c : In_ok-plan g) →
    BuildsFresh c.args.large c.args.graph.now (texts_of c.args.kept.now) (new_texts (texts_of c.args.kept.now) c.in_ok-plan.plan.uses.known)
fresh_in g c = planned_texts c.args.large c.args.graph.now c.args.state.now c.in_ok-plan.plan c.in_ok-plan.ensures.plan (texts_of c.args.kept.now)

pub returns-in_err-plan-clause-grown : goal.returns-in_err-plan-clause-grown
returns-in_err-plan-clause-grown g c = on_err c.from_residual.result (IsGrown-same c.args.kept.now)

pub returns-in_err-fresh-clause-cut_off : goal.returns-in_err-fresh-clause-cut_off
returns-in_err-fresh-clause-cut_off g c = λ is.
    cut_off_front c.args.large c.args.graph.now c.args.kept.now c.fill.new.self _ _ _ _ c.known.result.now _ c.known.ensures
    (fresh_in g (goal.at.returns-in_err-fresh-clause-cut_off g c).In_ok-plan) c.in_err-fresh.ensures.err

pub returns-in_err-fresh-clause-grown : goal.returns-in_err-fresh-clause-grown
returns-in_err-fresh-clause-grown g c =
    on_err c.from_residual-in_err-fresh.result
    (IsGrown-cut_off c.args.large c.args.graph.now c.args.kept.now c.fill.new.self _ _ _ _ c.known.result.now c.in_err-fresh.ensures.err)

pub returns-in_err-body-clause-cut_off : goal.returns-in_err-body-clause-cut_off
returns-in_err-body-clause-cut_off g c = λ is.
    cut_off_end c.args.large c.args.graph.now c.args.kept.now c.fill.new.self _ _ _ _ c.known.result.now _ c.known.ensures
    (fresh_in g (goal.at.returns-in_err-body-clause-cut_off g c).In_ok-plan) c.in_ok-fresh.fresh c.in_ok-fresh.ensures.ok

pub returns-in_err-body-clause-grown : goal.returns-in_err-body-clause-grown
returns-in_err-body-clause-grown g c =
    on_err c.from_residual-in_err-body.result
    (IsGrown-filled c.args.large c.args.graph.now c.args.kept.now c.fill.new.self _ _ _ _ c.known.result.now c.in_ok-fresh.fresh c.in_ok-fresh.ensures.ok)

pub returns-clause-builds : goal.returns-clause-builds
returns-clause-builds g c =
    let kept = c.args.kept.now in
    let filled = c.fill.new.self in
    let before = g.A.Analyst.analysed c.args.analyst.now in
    let after = g.A.Analyst.analysed c.fill.new.analyst in
    let held_before = g.A.Analyst.held c.args.analyst.now in
    let held_after = g.A.Analyst.held c.fill.new.analyst in
    let plan = c.in_ok-plan.plan in
    let planned = c.in_ok-plan.ensures.plan in
    let known_are : c.known-2.result.now ≡ plan.uses.known = c.known-2.ensures ∙ c.in_ok-body.ensures.known in
    let fills = subst (λ (list : List GroupTextData). FillsAll kept filled before after held_before held_after list c.in_ok-fresh.fresh) c.known.ensures
    c.in_ok-fresh.ensures.ok in
    let first = c.put_first.ensures.texts ∙ ap (λ known. kept_after filled.bound known (texts_of filled)) known_are in
    let builds = Builds-first c.args.large c.args.graph.now kept filled before after held_before held_after _ plan.uses.known (texts_of c.put_first.new.self)
    c.in_ok-fresh.fresh (HasTexts-planned c.args.large c.args.graph.now c.args.state.now plan planned) planned.known fills first in
    subst (λ told. Builds c.args.large c.args.graph.now kept.bound (texts_of kept) (texts_of c.put_first.new.self) before told c.in_ok-fresh.fresh)
    (sym c.put_first.ensures.analysed) builds

-- the machine that starts is ready
begins : (g : Over) (c : After-start-machine g) → IsReady c.args.graph.now c.start-machine.result
begins g c = subst (IsReady c.args.graph.now) (sym c.start-machine.ensures) (c.in_ok-body.ensures.begins c.start-machine.result.spare)

without : (g : Over) (c : After-start-machine g) → c.start-machine.result.wide ≡ None
without g c = ap (λ (m : MachineData). m.wide) c.start-machine.ensures

-- it has the state that was handed in
state_same : (g : Over) (c : After-start-machine g) → c.start-machine.result.state ≡ c.args.state.now
state_same g c =
    ap (λ (m : MachineData). m.state) c.start-machine.ensures
    ∙ (ap (λ (state : Vec Tern Global). state.items) c.in_ok-body.ensures.state ∙ c.in_ok-plan.ensures.plan.state_is)

few : (g : Over) (c : After-start-machine g) → NoneRefused c.args.large c.args.graph.now
few g c = λ groups are k group at.
    let plan = c.in_ok-plan.ensures.plan in
    let same : c.in_ok-plan.plan.groups.groups ≡ groups = unique c.args.graph.now c.in_ok-plan.plan.groups.groups groups plan.are.are are in
    let fits = subst (All (λ one. refused_in c.args.large one ≡ None)) same plan.fit in
    subst (λ one. refused_in c.args.large one ≡ None) (get_or_from_slice_get groups k group group at) (fits k group (slice_get_within groups k group at))

pub of_plan-requires-clause-plan : goal.of_plan-requires-clause-plan
of_plan-requires-clause-plan g c =
    (c.args.large, subst (λ state. IsPlan c.args.large c.args.graph.now state c.in_ok-plan.plan) (sym c.in_ok-plan.ensures.plan.state_is) c.in_ok-plan.ensures.plan)

-- what is to be held
next_in : (g : Over) (c : After-start-machine g) → HoldsNextIn c.args.large c.args.graph.now c.start-machine.result [] c.in_ok-holding.holding
next_in g c =
    let body = c.in_ok-body.body in
    let known = subst (λ wide. HoldsNext c.args.large c.args.graph.now body.parts.items wide body.state.items [] c.in_ok-holding.holding)
    c.in_ok-body.ensures.starts.without c.in_ok-holding.ensures in
    subst (λ (m : MachineData). HoldsNextIn c.args.large c.args.graph.now m [] c.in_ok-holding.holding) (sym c.start-machine.ensures) known

pub holding-requires : goal.holding-requires
holding-requires g c =
    let body = c.in_ok-body.body in
    let runs = c.in_ok-body.ensures.starts.runs.runs in
    let counted : length body.state.items ≡ nodes c.args.graph.now =
    ap (λ (state : Vec Tern Global). length state.items) c.in_ok-body.ensures.state ∙ (ap length c.in_ok-plan.ensures.plan.state_is ∙ c.requires.counted) in
    record {
      counted = counted;
      there = subst (λ n. All (HasNodes n) body.parts.items) counted (λ k d inside.
          let seat = runs.seated k d inside in
          record { below = seat.below; members = seat.members });
      waits = λ k. (runs.waits k, runs.stale k);
    }

pub hold-requires : goal.hold-requires
hold-requires g c =
    let at = goal.at.hold-requires g c in
    let begin = at.After-start-machine in
    HoldsWide-next c.args.large c.args.graph.now c.start-machine.result (begins g begin) (few g begin) c.requires.railed
    (subst IsSound (sym (state_same g begin)) c.requires.sound) c.in_ok-holding.holding (next_in g begin)

-- a machine that is another one but for the groups that are held fits, if that one fits with these groups
fits_with : (g : GraphData) (m new : MachineData) (wide : Option WideData) → new ≡ record m { wide = wide } → FitsGraph g (record m { wide = wide }) →
    FitsGraph g new
fits_with g m new wide same fits = subst (FitsGraph g) (sym same) fits

pub returns-clause-fits : goal.returns-clause-fits
returns-clause-fits g c =
    let at = goal.at.returns-clause-fits g c in
    let begin = at.After-start-machine in
    fits_with c.args.graph.now c.start-machine.result _ _ c.hold.ensures
    (FitsGraph-next c.args.large c.args.graph.now c.start-machine.result (begins g begin) (few g begin) c.requires.railed
    (subst IsSound (sym (state_same g begin)) c.requires.sound) c.in_ok-holding.holding (next_in g begin))

pub returns-clause-without : goal.returns-clause-without
returns-clause-without g c = λ all zero_is.
    let at = goal.at.returns-clause-without g c in
    let begin = at.After-start-machine in
    let untold : AreUntold c.args.graph.now c.start-machine.result.parts =
    subst (λ (m : MachineData). AreUntold c.args.graph.now m.parts) (sym c.start-machine.ensures) (c.in_ok-body.ensures.all all) in
    ap (λ (m : MachineData). m.wide) c.hold.ensures
    ∙ none_after c.args.large c.start-machine.result.wide c.in_ok-holding.holding (without g begin)
    (none_held c.args.graph.now c.start-machine.result c.in_ok-holding.holding (begins g begin).covers untold
    (subst (λ large. NoneRefused large c.args.graph.now) zero_is (few g begin))
    (subst (λ large. HoldsNextIn large c.args.graph.now c.start-machine.result [] c.in_ok-holding.holding) zero_is (next_in g begin)))

pub returns-clause-last : goal.returns-clause-last
returns-clause-last g c =
    subst (λ (m : MachineData). HasLast c.args.graph.now m.last) (sym (c.hold.ensures ∙ ap (λ (m : MachineData). record m { wide = wide_after c.args.large m.wide c.in_ok-holding.holding }) c.start-machine.ensures))
    c.in_ok-body.ensures.last

pub returns-in_err-holding-clause-cut_off : goal.returns-in_err-holding-clause-cut_off
returns-in_err-holding-clause-cut_off g c = λ is.
    cut_off_end c.args.large c.args.graph.now c.args.kept.now c.fill.new.self _ _ _ _ c.known.result.now _ c.known.ensures
    (fresh_in g (goal.at.returns-in_err-holding-clause-cut_off g c).In_ok-plan) c.in_ok-fresh.fresh c.in_ok-fresh.ensures.ok

pub returns-in_err-holding-clause-refused : goal.returns-in_err-holding-clause-refused
returns-in_err-holding-clause-refused g c =
    let told = err_from_is_err_and c.from_residual-in_err-holding.result c.from_residual-in_err-holding.ensures.1 in
    rw told.1 (inl told.2)

pub returns-in_err-holding-clause-grown : goal.returns-in_err-holding-clause-grown
returns-in_err-holding-clause-grown g c =
    on_err c.from_residual-in_err-holding.result
    (IsGrown-filled c.args.large c.args.graph.now c.args.kept.now c.fill.new.self _ _ _ _ c.known.result.now c.in_ok-fresh.fresh c.in_ok-fresh.ensures.ok)

pub returns-in_err-holding-clause-nearly : goal.returns-in_err-holding-clause-nearly
returns-in_err-holding-clause-nearly g c =
    on_err c.from_residual-in_err-holding.result (λ holds.
    HoldsNearlyKept-same c.fill.new.self (g.A.Analyst.held c.fill.new.analyst) (c.in_ok-fresh.ensures.holds holds))

pub returns-in_err-plan-clause-nearly : goal.returns-in_err-plan-clause-nearly
returns-in_err-plan-clause-nearly g c =
    on_err c.from_residual.result (HoldsNearlyKept-same c.args.kept.now (g.A.Analyst.held c.args.analyst.now))

pub returns-in_err-fresh-clause-nearly : goal.returns-in_err-fresh-clause-nearly
returns-in_err-fresh-clause-nearly g c = on_err c.from_residual-in_err-fresh.result c.in_err-fresh.ensures.nearly

pub returns-in_err-body-clause-nearly : goal.returns-in_err-body-clause-nearly
returns-in_err-body-clause-nearly g c =
    on_err c.from_residual-in_err-body.result (λ holds.
    HoldsNearlyKept-same c.fill.new.self (g.A.Analyst.held c.fill.new.analyst) (c.in_ok-fresh.ensures.holds holds))

pub returns-clause-holds : goal.returns-clause-holds
returns-clause-holds g c = λ holds. c.put_first.ensures.holds (c.in_ok-fresh.ensures.holds holds)
