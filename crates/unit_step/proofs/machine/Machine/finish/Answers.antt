-- What is woken fits the graph, and with the texts of the last build in front it leaves what a build leaves.
use Rattle.std.proofs.Common.{◌≡◌, true, All, sym, ap, subst, ◌∙◌}
use Rattle.std.proofs.lemmas.Result.{err_from_is_err_and}
use Rattle.group_text.specs.FirstTexts.{is_among}
use Rattle.group_analysis.specs.Using.{used_texts}
use Rattle.analysis_cache.specs.Keeping.{texts_of}
use Rattle.circuit_texts.specs.Building.{Builds}
use Rattle.machine_laws.specs.Machines.{MachineData}
use Rattle.machine_laws.specs.Editing.{StaysKnown}
use Rattle.machine_laws.proofs.FillingLemmas.{on_err}
use Rattle.unit_step.specs.LastTexts.{IsLeft}
use Rattle.unit_step.proofs.HoldingLemmas.{StaysKnown-last}
use Rattle.unit_step.proofs.FinishingOrder.{IsCutOff-used, last_filled, used_filled, Builds-left, HasLast-settled, Finishes-settled}
use Rattle.unit_step.proofs.machine.Machine.finish.Goals as goal

pub returns-in_err-fresh-clause-cut_off : goal.returns-in_err-fresh-clause-cut_off
returns-in_err-fresh-clause-cut_off g c = λ is.
    let p = err_from_is_err_and c.from_residual.result c.from_residual.ensures.1 in
    IsCutOff-used c.args.large c.args.graph.now c.args.self.now.last (texts_of c.args.kept.now) c.requires.last (texts_of c.wake.new.kept)
    (g.A.Analyst.analysed c.args.analyst.now) (g.A.Analyst.analysed c.wake.new.analyst) (c.in_err-fresh.ensures.cut_off (cc (p.1, p.2, is)))

pub settle_last-requires-clause-textless : goal.settle_last-requires-clause-textless
settle_last-requires-clause-textless g c = λ k part stands none. c.in_ok-fresh.ensures.makes_ready.fits.covers.textless k part stands none

pub settle_last-requires-clause-last : goal.settle_last-requires-clause-last
settle_last-requires-clause-last g c =
    subst (All (λ text. is_among (texts_of c.wake.new.kept) text ≡ true)) (sym c.in_ok-fresh.ensures.makes_ready.last)
    (last_filled c.args.large c.args.graph.now c.args.self.now.last (texts_of c.args.kept.now) c.requires.last (texts_of c.wake.new.kept)
    (g.A.Analyst.analysed c.args.analyst.now) (g.A.Analyst.analysed c.wake.new.analyst) c.in_ok-fresh.fresh c.in_ok-fresh.ensures.fills)

pub settle_last-requires-clause-used : goal.settle_last-requires-clause-used
settle_last-requires-clause-used g c =
    used_filled c.args.large c.args.graph.now c.args.self.now.last (texts_of c.args.kept.now) c.requires.last (texts_of c.wake.new.kept)
    (g.A.Analyst.analysed c.args.analyst.now) (g.A.Analyst.analysed c.wake.new.analyst) c.in_ok-fresh.fresh c.in_ok-fresh.ensures.fills
    c.wake.new.self c.in_ok-fresh.ensures.makes_ready.fits

pub returns-clause-finishes : goal.returns-clause-finishes
returns-clause-finishes g c =
    Finishes-settled c.args.graph.now c.args.self.now c.wake.new.self c.settle_last.new.self c.in_ok-fresh.ensures.makes_ready
    c.settle_last.ensures.same
    c.settle_last.ensures.order

pub returns-clause-builds : goal.returns-clause-builds
returns-clause-builds g c =
    let before = g.A.Analyst.analysed c.args.analyst.now in
    let last = c.settle_last.new.self.last in
    let now = texts_of c.settle_last.new.kept in
    let makes_ready = c.in_ok-fresh.ensures.makes_ready in
    let has = HasLast-settled c.args.graph.now c.args.self.now c.wake.new.self c.settle_last.new.self makes_ready c.settle_last.ensures.same c.settle_last.ensures.order in
    let left : IsLeft c.args.kept.now.bound c.args.self.now.last (texts_of c.wake.new.kept) last now =
    subst (λ bound. IsLeft bound c.args.self.now.last (texts_of c.wake.new.kept) last now) c.in_ok-fresh.ensures.bound
    (subst (λ was. IsLeft c.wake.new.kept.bound was (texts_of c.wake.new.kept) last now) makes_ready.last c.settle_last.ensures.left) in
    let builds = Builds-left c.args.large c.args.graph.now c.args.self.now.last (texts_of c.args.kept.now) c.requires.last (texts_of c.wake.new.kept) before
    (g.A.Analyst.analysed c.wake.new.analyst) c.in_ok-fresh.fresh c.in_ok-fresh.ensures.fills c.args.kept.now.bound last now has left in
    subst (λ told. Builds c.args.large c.args.graph.now c.args.kept.now.bound (used_texts c.args.self.now.last (texts_of c.args.kept.now)) (used_texts last now) before told c.in_ok-fresh.fresh)
    (sym c.settle_last.ensures.analysed) builds

pub returns-in_err-fresh-clause-nearly : goal.returns-in_err-fresh-clause-nearly
returns-in_err-fresh-clause-nearly g c = on_err c.from_residual.result c.in_err-fresh.ensures.nearly

pub returns-clause-holds : goal.returns-clause-holds
returns-clause-holds g c = λ holds. c.settle_last.ensures.holds (c.in_ok-fresh.ensures.holds holds)

pub returns-clause-stays : goal.returns-clause-stays
returns-clause-stays g c =
    subst (StaysKnown c.args.large c.args.self.now) (sym c.settle_last.ensures.same)
    (StaysKnown-last c.args.large c.args.self.now c.wake.new.self c.settle_last.new.self.last c.in_ok-fresh.ensures.stays)

pub returns-clause-without : goal.returns-clause-without
returns-clause-without g c = λ all zero_is none untold.
    ap (λ (m : MachineData). m.wide) c.settle_last.ensures.same ∙ c.in_ok-fresh.ensures.without all zero_is none untold
