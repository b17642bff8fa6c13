-- The stage's phase is that of its one column, which has the count.
use Rattle.std.proofs.Common.{◌≡◌, sym, subst, arith}
use Rattle.settling.specs.declared.settling.Settled.{Settled}
use Rattle.settling.specs.Settling.{Settles}
use Rattle.column_stage.specs.Seeing.{PhaseThrough, SeesStates}
use Rattle.machine_stage.proofs.LetterLemmas.{first_count}
use Rattle.fault_stage.specs.Stages.{state_of}
use Rattle.fault_stage.proofs.columns.FaultStageStage.settle.Goals as goal

pub settle_down-requires-clause-knows : goal.settle_down-requires-clause-knows
settle_down-requires-clause-knows g c = c.requires.knows tt

pub returns-clause-last : goal.returns-clause-last
returns-clause-last g c = c.settle_down.ensures.stays.last

pub returns-clause-serves : goal.returns-clause-serves
returns-clause-serves g c = c.settle_down.ensures.stays.serves

pub returns-clause-fits : goal.returns-clause-fits
returns-clause-fits g c = c.settle_down.ensures.stays.fits c.requires.fits

pub returns-clause-seen : goal.returns-clause-seen
returns-clause-seen g c = λ past shown.
    subst
    (λ (count : Settled). SeesStates g.O.Observer.see (PhaseThrough c.args.graph.now c.args.limit (state_of c.args.self.now) count.steps) (state_of c.args.self.now)
    (state_of c.settle_down.new.self) (g.O.Observer.seen c.args.onlooker.now) (g.O.Observer.seen c.settle_down.new.onlooker))
    (sym (first_count c.args.counts.now c.settle_down.result past c.requires.counts)) c.settle_down.ensures.takes.seen

pub returns-clause-knows : goal.returns-clause-knows
returns-clause-knows g c = λ shown. c.settle_down.ensures.knows

pub returns-clause-settles : goal.returns-clause-settles
returns-clause-settles g c = λ column past inside.
    let first : column ≡ 0 = omega (arith, inside) in
    rw first
    (subst
    (λ (count : Settled). Settles c.args.graph.now (state_of c.args.self.now) c.args.limit (state_of c.settle_down.new.self) count.steps count.joined)
    (sym (first_count c.args.counts.now c.settle_down.result past c.requires.counts)) c.settle_down.ensures.takes.settles)
