-- The step is that of what is held; and if nothing is built there is none.
use Rattle.std.proofs.Common.{◌≡◌, sym, subst}
use Rattle.switch_paths.specs.Graphs.{GraphData}
use Rattle.switch_paths.specs.Step.{IsStep}
use Rattle.settling.specs.Passing.{SteppingThrough}
use Rattle.column_stage.specs.Seeing.{SeesStates}
use Rattle.fault_stage.specs.declared.held.Held.{Held}
use Rattle.fault_stage.specs.Runs.{IsWell}
use Rattle.fault_stage.specs.Stages.{FitsIn, data_of, ready_of, state_of}
use Rattle.fault_stage.proofs.StayingLemmas.{ready_moved}
use Rattle.fault_stage.proofs.moving.step_held.Goals as goal

pub step_whole-requires-clause-fits : goal.step_whole-requires-clause-fits
step_whole-requires-clause-fits g c = subst (λ (held : Held). FitsIn (data_of held) c.args.graph.now) c.in-Whole.is c.requires.fits

pub step_whole-requires-clause-knows : goal.step_whole-requires-clause-knows
step_whole-requires-clause-knows g c =
    subst (λ (held : Held). g.O.Observer.knows c.args.onlooker.now (state_of (data_of held))) c.in-Whole.is c.requires.knows

pub returns-in-Whole-clause-step : goal.returns-in-Whole-clause-step
returns-in-Whole-clause-step g c = rw c.in-Whole.is c.step_whole.ensures.step

pub returns-in-Whole-clause-stays : goal.returns-in-Whole-clause-stays
returns-in-Whole-clause-stays g c = rw c.in-Whole.is c.step_whole.ensures.stays

pub returns-in-Whole-clause-seen : goal.returns-in-Whole-clause-seen
returns-in-Whole-clause-seen g c = rw c.in-Whole.is c.step_whole.ensures.seen

pub returns-in-Whole-clause-knows : goal.returns-in-Whole-clause-knows
returns-in-Whole-clause-knows g c = c.step_whole.ensures.knows

pub step-requires-clause-built : goal.step-requires-clause-built
step-requires-clause-built g c = subst IsWell c.in-Built.is c.requires.well

pub step-requires-clause-knows : goal.step-requires-clause-knows
step-requires-clause-knows g c =
    subst (λ (held : Held). g.O.Observer.knows c.args.onlooker.now (state_of (data_of held))) c.in-Built.is c.requires.knows

pub returns-in-Built-clause-well : goal.returns-in-Built-clause-well
returns-in-Built-clause-well g c = c.step.ensures.built

pub returns-in-Built-clause-step : goal.returns-in-Built-clause-step
returns-in-Built-clause-step g c =
    let fits : c.args.graph.now ≡ c.in-Built.built.graph = subst (λ (held : Held). FitsIn (data_of held) c.args.graph.now) c.in-Built.is c.requires.fits in
    rw c.in-Built.is
    (subst (λ (h : GraphData). IsStep h c.in-Built.built.state.items c.step.new.self.state.items) (sym fits) c.step.ensures.step)

pub returns-in-Built-clause-stays : goal.returns-in-Built-clause-stays
returns-in-Built-clause-stays g c =
    rw c.in-Built.is (ready_moved c.args.graph.now (ready_of c.in-Built.built) (ready_of c.step.new.self) c.step.new.self.state.items c.step.ensures.same)

pub returns-in-Built-clause-seen : goal.returns-in-Built-clause-seen
returns-in-Built-clause-seen g c =
    let fits : c.args.graph.now ≡ c.in-Built.built.graph = subst (λ (held : Held). FitsIn (data_of held) c.args.graph.now) c.in-Built.is c.requires.fits in
    let old = c.in-Built.built.state.items in
    rw c.in-Built.is
    (subst (λ (h : GraphData). SeesStates g.O.Observer.see (SteppingThrough h 1 old) old c.step.new.self.state.items (g.O.Observer.seen c.args.onlooker.now)
    (g.O.Observer.seen c.step.new.onlooker)) (sym fits) c.step.ensures.seen)

pub returns-in-Built-clause-knows : goal.returns-in-Built-clause-knows
returns-in-Built-clause-knows g c = c.step.ensures.knows

pub returns-in-Waiting : goal.returns-in-Waiting
returns-in-Waiting g c = absurd (subst (λ (held : Held). FitsIn (data_of held) c.args.graph.now) c.in-Waiting.is c.requires.fits)
