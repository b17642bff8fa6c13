-- The machine's phase is the stage's, and its count that of the one column.
use Rattle.std.proofs.Common.{sym, subst}
use Rattle.settling.specs.declared.settling.Settled.{Settled}
use Rattle.column_stage.specs.Seeing.{PhaseThrough, SeesStates}
use Rattle.machine_stage.proofs.LetterLemmas.{first_count, rests_first}
use Rattle.machine_stage.proofs.ServingLemmas.{fits_settled, last_settled, serves_settled}
use Rattle.machine_stage.proofs.columns.MachineStageStage.settle.Goals as goal

pub settle_machine-requires-clause-knows : goal.settle_machine-requires-clause-knows
settle_machine-requires-clause-knows g c = c.requires.knows tt

pub returns-clause-last : goal.returns-clause-last
returns-clause-last g c =
    let settled = c.settle_machine in
    last_settled c.args.graph.now c.args.self.now settled.new.self c.args.limit settled.result.steps settled.result.joined settled.ensures.moves

pub returns-clause-serves : goal.returns-clause-serves
returns-clause-serves g c = λ kept serves.
    let settled = c.settle_machine in
    serves_settled c.args.graph.now c.args.self.now settled.new.self c.args.limit settled.result.steps settled.result.joined settled.ensures.moves
    kept c.requires.fits serves

pub returns-clause-fits : goal.returns-clause-fits
returns-clause-fits g c =
    let settled = c.settle_machine in
    fits_settled c.args.graph.now c.args.self.now settled.new.self c.args.limit settled.result.steps settled.result.joined settled.ensures.moves

pub returns-clause-did : goal.returns-clause-did
returns-clause-did g c =
    let settled = c.settle_machine in
    rests_first c.args.graph.now c.args.limit c.args.counts.now settled.result c.args.self.now settled.new.self c.requires.counts settled.ensures.moves

pub returns-clause-seen : goal.returns-clause-seen
returns-clause-seen g c = λ past shown.
    let settled = c.settle_machine in
    subst
    (λ (count : Settled). SeesStates g.O.Observer.see (PhaseThrough c.args.graph.now c.args.limit c.args.self.now.state count.steps) c.args.self.now.state
    settled.new.self.state (g.O.Observer.seen c.args.onlooker.now) (g.O.Observer.seen settled.new.onlooker))
    (sym (first_count c.args.counts.now settled.result past c.requires.counts)) settled.ensures.seen

pub returns-clause-knows : goal.returns-clause-knows
returns-clause-knows g c = λ shown. c.settle_machine.ensures.knows
