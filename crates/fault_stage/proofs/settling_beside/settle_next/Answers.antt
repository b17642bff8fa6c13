-- The phase goes beside that of the record, or the machine leaves it and goes by itself.
use Rattle.std.proofs.Common.{List, sym, subst}
use Rattle.ternary.specs.declared.tern.Tern.{Tern}
use Rattle.fault_stage.proofs.CourseLemmas.{settles_alone, settles_beside, settles_left}
use Rattle.fault_stage.proofs.settling_beside.settle_next.Goals as goal

pub beside_uncounted-told-requires-clause-beat : goal.beside_uncounted-told-requires-clause-beat
beside_uncounted-told-requires-clause-beat g c = c.in-Some.ensures.is

pub beside_uncounted-told-requires-clause-next : goal.beside_uncounted-told-requires-clause-next
beside_uncounted-told-requires-clause-next g c = c.in-Some.ensures.comes.next

pub beside_uncounted-told-requires-clause-few : goal.beside_uncounted-told-requires-clause-few
beside_uncounted-told-requires-clause-few g c = c.in-Some.ensures.comes.few

pub returns-in-Some-clause-settles : goal.returns-in-Some-clause-settles
returns-in-Some-clause-settles g c =
    let told = c.beside_uncounted-told in
    settles_beside g.O.Observer.see c.args.graph.now c.args.limit told.result.steps told.result.joined c.args.state.now c.args.machine.now told.new.machine
    (g.O.Observer.seen c.args.onlooker.now) (g.O.Observer.seen told.new.onlooker) c.args.good.now told.new.run c.number_after-number.result c.in-Some.beat.limit
    c.in-Some.ensures.comes.limit_is told.ensures.settles

pub leave-requires : goal.leave-requires
leave-requires g c = record { fits = c.requires.goes.fits.fits; counted = c.requires.goes.state_counted; sound = c.requires.sound }

pub settle_to_rest-told-requires : goal.settle_to_rest-told-requires
settle_to_rest-told-requires g c = record {
  fits = c.leave.ensures.fits;
  low = c.requires.low;
  high = c.requires.high;
  knows = subst (λ (s : List Tern). g.O.Observer.knows c.args.onlooker.now s) (sym c.leave.ensures.state_is) c.requires.knows;
}

pub returns-in-None-clause-settles : goal.returns-in-None-clause-settles
returns-in-None-clause-settles g c =
    let told = c.settle_to_rest-told in
    let left = c.leave.new.machine in
    settles_left g.O.Observer.see c.args.graph.now c.args.limit told.result.steps told.result.joined c.args.state.now c.args.machine.now left told.new.machine
    c.args.good.now _ (g.O.Observer.seen c.args.onlooker.now) (g.O.Observer.seen told.new.onlooker) c.leave.ensures
    (settles_alone g.O.Observer.see c.args.graph.now c.args.limit told.result.steps told.result.joined c.args.state.now left told.new.machine
    (g.O.Observer.seen c.args.onlooker.now) (g.O.Observer.seen told.new.onlooker) c.args.good.now
    (record { fits = c.leave.ensures.fits; state_is = c.leave.ensures.state_is }) told.ensures.takes told.ensures.seen)
