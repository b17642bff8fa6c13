-- Who looks is shown each state; else the phase may be one that was taken before.
use Rattle.std.proofs.Common.{sym, subst, ◌∙◌}
use Rattle.std.specs.Prelude.{All}
use Rattle.machine_laws.specs.Machines.{MachineData}
use Rattle.fault_stage.specs.Passing.{IsPassed, SettlesAlone}
use Rattle.fault_stage.specs.Runs.{GoesAlone}
use Rattle.fault_stage.proofs.PassingLemmas.{passed_now, settled_again}
use Rattle.fault_stage.proofs.passing.settle_alone.Goals as goal

pub go_if_passed-requires-clause-fits : goal.go_if_passed-requires-clause-fits
go_if_passed-requires-clause-fits g c = c.requires.goes.fits

pub go_if_passed-requires-clause-passes : goal.go_if_passed-requires-clause-passes
go_if_passed-requires-clause-passes g c = subst (All (IsPassed c.args.graph.now)) (sym c.deref.ensures.value) c.requires.passes

pub returns-in-Some-clause-settles : goal.returns-in-Some-clause-settles
returns-in-Some-clause-settles g c =
    settled_again g.O.Observer.see c.args.graph.now c.args.limit c.in-Some.told c.args.state.now c.args.machine.now c.go_if_passed.new.machine
    (g.O.Observer.seen c.args.onlooker.now) (g.met.O.Onlooker.blind (sym c.is_looking.ensures ∙ c.if-is_looking.false)) c.in-Some.ensures.some

pub returns-in-Some-clause-knows : goal.returns-in-Some-clause-knows
returns-in-Some-clause-knows g c =
    g.met.O.Onlooker.sure (sym c.is_looking.ensures ∙ c.if-is_looking.false) c.args.onlooker.now c.go_if_passed.new.machine.state

pub settle_shown-told-requires-clause-goes : goal.settle_shown-told-requires-clause-goes
settle_shown-told-requires-clause-goes g c =
    subst (λ (m : MachineData). GoesAlone c.args.graph.now m c.args.state.now) (sym (c.go_if_passed.ensures.none c.in-None.is)) c.requires.goes

-- the phase that was taken is remembered
pub keep-requires-clause-passed : goal.keep-requires-clause-passed
keep-requires-clause-passed g c = λ p start end limit_is told_is.
    let told = c.settle_shown-told in
    passed_now g.O.Observer.see c.args.graph.now c.args.limit told.result c.args.state.now c.go_if_passed.new.machine told.new.machine
    (g.O.Observer.seen c.args.onlooker.now) (g.O.Observer.seen told.new.onlooker) p told.ensures.settles start (end ∙ c.state.ensures) limit_is told_is

pub returns-in-None-clause-settles : goal.returns-in-None-clause-settles
returns-in-None-clause-settles g c =
    let told = c.settle_shown-told in
    subst (λ (m : MachineData). SettlesAlone g.O.Observer.see c.args.graph.now c.args.limit told.result.steps told.result.joined c.args.state.now m
    told.new.machine (g.O.Observer.seen c.args.onlooker.now) (g.O.Observer.seen told.new.onlooker)) (c.go_if_passed.ensures.none c.in-None.is)
    told.ensures.settles
