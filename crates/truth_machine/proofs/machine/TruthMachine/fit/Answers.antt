-- All that the gear has is of its parts, which are those of a machine that fits the graph, all of them marked.
use Rattle.std.proofs.Common.{◌≡◌, length, ap, ◌∙◌}
use Rattle.switch_paths.specs.Graphs.{nodes}
use Rattle.truth_parts.proofs.FittingLemmas.{FitsInAll-fresh}
use Rattle.truth_machine.specs.Machines.{TruthData}
use Rattle.truth_machine.proofs.GearLemmas.{IsTruthMachine-geared}
use Rattle.truth_machine.proofs.machine.TruthMachine.fit.Goals as goal

pub invariant_of-self : goal.invariant_of-self
invariant_of-self g c =
    let i = c.self.inside in
    let m = c.self.invariant.0 in
    let gear = rw (← c.self.view_is) at c.requires.gear in
    let counted : length i.hi.items ≡ nodes c.args.graph.now = ap (λ (d : TruthData _ _). length d.hi) c.self.view_is ∙ c.requires.counted in (
      IsTruthMachine-geared c.args.graph.now (g.T.Truths.columns i.truths) (g.T.Truths.has i.truths) (g.T.Truths.holds i.truths) c.args.gear i.hi.items i.lo.items gear
          counted m.columns m.highs m.lows,
      gear.workspace_is,
    )

pub returns-clause-fits : goal.returns-clause-fits
returns-clause-fits g c =
    let i = c.self.inside in
    let gear = rw (← c.self.view_is) at c.requires.gear in
    let sound = rw (← c.self.view_is) at c.requires.sound in
    rw gear.agenda_is
    (FitsInAll-fresh c.args.graph.now gear.machine (g.T.Truths.columns i.truths) (g.T.Truths.holds i.truths) c.args.gear.parts.items i.hi.items i.lo.items
    gear.fits gear.without gear.parts_are c.self.invariant.0.columns.counted sound)
