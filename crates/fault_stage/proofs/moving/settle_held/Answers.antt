-- The phase is that of what is held; and if nothing is built there is none.
use Rattle.std.proofs.Common.{◌≡◌, sym, subst}
use Rattle.switch_paths.specs.Graphs.{GraphData}
use Rattle.fault_stage.specs.declared.held.Held.{Held}
use Rattle.fault_stage.specs.Runs.{IsWell}
use Rattle.fault_stage.specs.Stages.{FitsIn, SettlesSeen, data_of, ready_of, state_of}
use Rattle.fault_stage.proofs.StayingLemmas.{ready_moved}
use Rattle.fault_stage.proofs.moving.settle_held.Goals as goal

pub settle_whole-requires-clause-fits : goal.settle_whole-requires-clause-fits
settle_whole-requires-clause-fits g c = subst (λ (held : Held). FitsIn (data_of held) c.args.graph.now) c.in-Whole.is c.requires.fits

pub settle_whole-requires-clause-knows : goal.settle_whole-requires-clause-knows
settle_whole-requires-clause-knows g c =
    subst (λ (held : Held). g.O.Observer.knows c.args.onlooker.now (state_of (data_of held))) c.in-Whole.is c.requires.knows

pub returns-in-Whole-clause-takes : goal.returns-in-Whole-clause-takes
returns-in-Whole-clause-takes g c = rw c.in-Whole.is c.settle_whole.ensures.takes

pub returns-in-Whole-clause-stays : goal.returns-in-Whole-clause-stays
returns-in-Whole-clause-stays g c = rw c.in-Whole.is c.settle_whole.ensures.stays

pub returns-in-Whole-clause-knows : goal.returns-in-Whole-clause-knows
returns-in-Whole-clause-knows g c = c.settle_whole.ensures.knows

pub settle-requires-clause-built : goal.settle-requires-clause-built
settle-requires-clause-built g c = subst IsWell c.in-Built.is c.requires.well

pub settle-requires-clause-knows : goal.settle-requires-clause-knows
settle-requires-clause-knows g c =
    subst (λ (held : Held). g.O.Observer.knows c.args.onlooker.now (state_of (data_of held))) c.in-Built.is c.requires.knows

pub returns-in-Built-clause-well : goal.returns-in-Built-clause-well
returns-in-Built-clause-well g c = c.settle.ensures.built

pub returns-in-Built-clause-takes : goal.returns-in-Built-clause-takes
returns-in-Built-clause-takes g c =
    let fits : c.args.graph.now ≡ c.in-Built.built.graph = subst (λ (held : Held). FitsIn (data_of held) c.args.graph.now) c.in-Built.is c.requires.fits in
    rw c.in-Built.is
    (subst (λ (h : GraphData). SettlesSeen g.O.Observer.see h c.args.limit c.settle.result.steps c.settle.result.joined c.in-Built.built.state.items
    c.settle.new.self.state.items (g.O.Observer.seen c.args.onlooker.now) (g.O.Observer.seen c.settle.new.onlooker)) (sym fits) c.settle.ensures.takes)

pub returns-in-Built-clause-stays : goal.returns-in-Built-clause-stays
returns-in-Built-clause-stays g c =
    rw c.in-Built.is (ready_moved c.args.graph.now (ready_of c.in-Built.built) (ready_of c.settle.new.self) c.settle.new.self.state.items c.settle.ensures.same)

pub returns-in-Built-clause-knows : goal.returns-in-Built-clause-knows
returns-in-Built-clause-knows g c = c.settle.ensures.knows

pub returns-in-Waiting : goal.returns-in-Waiting
returns-in-Waiting g c = absurd (subst (λ (held : Held). FitsIn (data_of held) c.args.graph.now) c.in-Waiting.is c.requires.fits)
