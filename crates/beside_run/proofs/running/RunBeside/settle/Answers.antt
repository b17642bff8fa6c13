-- The phase is taken by the lists themselves.
use Rattle.std.proofs.Common.{List, sym, ap, subst, ◌∙◌, arith}
use Rattle.std.proofs.lemmas.List.{with_items_is}
use Rattle.ternary.specs.declared.tern.Tern.{Tern}
use Rattle.beside_run.specs.Running.{BesideData, IsRunBeside, SettlesRun}
use Rattle.beside_run.proofs.running.RunBeside.settle.Goals as goal

pub settle_phase-told-requires-clause-beside : goal.settle_phase-told-requires-clause-beside
settle_phase-told-requires-clause-beside g c =
    let i = c.self.inside in
    let is = subst (IsRunBeside c.args.good_graph.now c.args.run.now c.args.graph.now c.args.machine.now c.args.state.now) (sym c.self.view_is) c.requires.beside in
    let at = ap (λ (b : BesideData). b.at) c.self.view_is ∙ sym c.requires.next in
    rw c.deref_mut.ensures.value
    (subst (λ n. IsRunBeside c.args.good_graph.now c.args.run.now c.args.graph.now c.args.machine.now c.args.state.now
    (record { good = i.good.items; at = n; apart = i.apart; touched = i.touched; room = i.room; given = i.given })) at is)

pub returns-clause-settles : goal.returns-clause-settles
returns-clause-settles g c =
    let i = c.self.inside in
    let told = c.settle_phase-told in
    let good = with_items_is i.good told.new.good (omega (arith, told.auto.good, c.deref_mut.ensures.len)) in
    let goes = λ (good_list : List Tern). SettlesRun g.O.Observer.see c.args.good_graph.now c.args.run.now c.args.graph.now c.args.beat.limit
    told.result.steps told.result.joined c.args.machine.now told.new.machine c.args.state.now
    (record { good = good_list; at = c.args.beat.end; apart = told.new.apart; touched = i.touched; room = told.new.room; given = told.new.given })
    (g.O.Observer.seen c.args.onlooker.now) (g.O.Observer.seen told.new.onlooker) in
    subst goes (sym good) told.ensures.settles
