-- The stage settles as ever, and tells its one column's count.
use Rattle.std.proofs.Common.{false, sym, subst, arith}
use Rattle.settling.specs.declared.settling.Settled.{Settled}
use Rattle.fault_stage.specs.Stages.{SettlesSeen}
use Rattle.fault_stage.proofs.moving.settle_whole.Goals as goal

pub settle-requires-clause-knows : goal.settle-requires-clause-knows
settle-requires-clause-knows g c = λ shows. c.requires.knows

pub first_of-requires : goal.first_of-requires
first_of-requires g c = c.settle.ensures.counts

pub returns-clause-takes : goal.returns-clause-takes
returns-clause-takes g c =
    let none : Settled = record { steps = 0; joined = false } in
    subst (λ (count : Settled). SettlesSeen g.O.Observer.see c.args.graph.now c.args.limit count.steps count.joined c.args.stage.now.state c.settle.new.self.state
    (g.O.Observer.seen c.args.onlooker.now) (g.O.Observer.seen c.settle.new.onlooker)) (sym (c.first_of.ensures none))
    (record { settles = c.settle.ensures.settles 0 none (omega arith); seen = c.settle.ensures.seen none tt })

pub returns-clause-stays : goal.returns-clause-stays
returns-clause-stays g c = record { last = c.settle.ensures.last; serves = c.settle.ensures.serves; fits = λ fits. c.settle.ensures.fits }

pub returns-clause-knows : goal.returns-clause-knows
returns-clause-knows g c = c.settle.ensures.knows tt
