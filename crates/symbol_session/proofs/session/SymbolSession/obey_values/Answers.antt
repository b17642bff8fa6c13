-- Letters are given, or expectations told, by the verb.
use Rattle.std.proofs.Common.{sym}
use Rattle.column_script.specs.declared.command.ValueCommand.TheVariants as value
use Rattle.symbol_session.specs.Sessions.{data_of, maker_of, valuations_by}
use Rattle.symbol_session.proofs.FaultLemmas.{own_faults, own_refusals, own_stops}
use Rattle.symbol_session.proofs.QuietLemmas.{gives_turn}
use Rattle.symbol_session.proofs.session.SymbolSession.obey_values.Goals as goal

pub returns-in-Set-clause-turn : goal.returns-in-Set-clause-turn
returns-in-Set-clause-turn g c =
    let d = c.args.self.now in
    let new = c.give.new.self in
    rw c.in-Set.is
    (λ known texts.
    gives_turn (maker_of new) g.L.SymbolLines.hear g.L.SymbolLines.part (valuations_by d) (data_of d) (data_of new) (g.L.SymbolLines.heard c.args.out.now) texts
    value.Set c.args.list.now c.give.result (c.give.ensures.gives known))

pub returns-in-Set-clause-number : goal.returns-in-Set-clause-number
returns-in-Set-clause-number g c = own_stops c.args.number c.give.result c.give.ensures.own

pub returns-in-Set-clause-write : goal.returns-in-Set-clause-write
returns-in-Set-clause-write g c = sym (own_faults c.args.number c.give.result c.give.ensures.own (g.L.SymbolLines.faults c.args.out.now))

pub returns-in-Set-clause-refused : goal.returns-in-Set-clause-refused
returns-in-Set-clause-refused g c = own_refusals c.args.number c.give.result c.give.ensures.own (g.L.SymbolLines.refusals c.args.out.now)

pub returns-in-Charge-clause-turn : goal.returns-in-Charge-clause-turn
returns-in-Charge-clause-turn g c =
    let d = c.args.self.now in
    let new = c.give-in-Charge.new.self in
    rw c.in-Charge.is
    (λ known texts.
    gives_turn (maker_of new) g.L.SymbolLines.hear g.L.SymbolLines.part (valuations_by d) (data_of d) (data_of new) (g.L.SymbolLines.heard c.args.out.now) texts
    value.Charge c.args.list.now c.give-in-Charge.result (c.give-in-Charge.ensures.gives known))

pub returns-in-Charge-clause-number : goal.returns-in-Charge-clause-number
returns-in-Charge-clause-number g c = own_stops c.args.number c.give-in-Charge.result c.give-in-Charge.ensures.own

pub returns-in-Charge-clause-write : goal.returns-in-Charge-clause-write
returns-in-Charge-clause-write g c = sym (own_faults c.args.number c.give-in-Charge.result c.give-in-Charge.ensures.own (g.L.SymbolLines.faults c.args.out.now))

pub returns-in-Charge-clause-refused : goal.returns-in-Charge-clause-refused
returns-in-Charge-clause-refused g c = own_refusals c.args.number c.give-in-Charge.result c.give-in-Charge.ensures.own (g.L.SymbolLines.refusals c.args.out.now)

pub returns-in-Expect-clause-turn : goal.returns-in-Expect-clause-turn
returns-in-Expect-clause-turn g c = rw c.in-Expect.is c.expect.ensures.turn
