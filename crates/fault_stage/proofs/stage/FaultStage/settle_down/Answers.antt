-- What is held settles.
use Rattle.std.proofs.Common.{sym, subst}
use Rattle.fault_stage.specs.Stages.{FaultData, FitsIn, SettlesSeen, StaysOn, data_of, state_of}
use Rattle.fault_stage.proofs.stage.FaultStage.settle_down.Goals as goal

pub settle_held-requires : goal.settle_held-requires
settle_held-requires g c = record {
  well = c.self.invariant;
  fits = subst (λ (stage : FaultData). FitsIn stage c.args.graph.now) (sym c.self.view_is) c.requires.fits;
  low = c.requires.low;
  high = c.requires.high;
  knows = subst (λ (stage : FaultData). g.O.Observer.knows c.args.onlooker.now (state_of stage)) (sym c.self.view_is) c.requires.knows;
}

pub invariant_of-self : goal.invariant_of-self
invariant_of-self g c = c.settle_held.ensures.well

pub returns-clause-takes : goal.returns-clause-takes
returns-clause-takes g c =
    subst (λ (stage : FaultData). SettlesSeen g.O.Observer.see c.args.graph.now c.args.limit c.settle_held.result.steps c.settle_held.result.joined (state_of stage)
    (state_of (data_of c.settle_held.new.held)) (g.O.Observer.seen c.args.onlooker.now) (g.O.Observer.seen c.settle_held.new.onlooker)) c.self.view_is
    c.settle_held.ensures.takes

pub returns-clause-stays : goal.returns-clause-stays
returns-clause-stays g c =
    subst (λ (stage : FaultData). StaysOn c.args.graph.now stage (data_of c.settle_held.new.held)) c.self.view_is c.settle_held.ensures.stays

pub returns-clause-knows : goal.returns-clause-knows
returns-clause-knows g c = c.settle_held.ensures.knows
