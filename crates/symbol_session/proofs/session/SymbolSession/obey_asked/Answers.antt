-- What is asked for is done by its sort; only a `let` changes the table.
use Rattle.std.proofs.Common.{refl, sym, subst}
use Rattle.symbol_script.specs.declared.line.SymbolLine.TheVariants as asks
use Rattle.symbol_session.specs.Asked.{IsAskable}
use Rattle.symbol_session.specs.Sessions.{data_of, maker_of, truths_by, valuations_by}
use Rattle.symbol_session.proofs.FaultLemmas.{own_faults, own_refusals, own_stops}
use Rattle.symbol_session.proofs.QuietLemmas.{named_turn, stays_next}
use Rattle.symbol_session.proofs.session.SymbolSession.obey_asked.Goals as goal

pub obey_plain-requires : goal.obey_plain-requires
obey_plain-requires g c = subst IsAskable c.in-Plain.is c.requires

pub returns-in-Values-clause-turn : goal.returns-in-Values-clause-turn
returns-in-Values-clause-turn g c = rw c.in-Values.is (λ known. c.obey_values.ensures.turn known (g.A.Analyst.analysed c.args.analyst.now))

pub returns-in-Values-clause-quiet : goal.returns-in-Values-clause-quiet
returns-in-Values-clause-quiet g c = c.obey_values.ensures.stays.quiet

pub returns-in-Values-clause-text : goal.returns-in-Values-clause-text
returns-in-Values-clause-text g c = c.obey_values.ensures.stays.text

pub returns-in-Values-clause-next : goal.returns-in-Values-clause-next
returns-in-Values-clause-next g c =
    rw c.in-Values.is (λ accepted. stays_next c.args.self.now c.obey_values.new.self c.obey_values.ensures.stays (asks.Values c.in-Values.verb c.in-Values.list) refl)

pub returns-in-Names-clause-turn : goal.returns-in-Names-clause-turn
returns-in-Names-clause-turn g c =
    let d = c.args.self.now in
    let new = c.name.new.self in
    let heard = g.L.SymbolLines.heard c.args.out.now in
    let texts = g.A.Analyst.analysed c.args.analyst.now in
    rw c.in-Names.is
    (λ known.
    named_turn (maker_of new) g.L.SymbolLines.hear g.L.SymbolLines.part (valuations_by d) (data_of d) (data_of new) heard texts d.names.names (truths_by d) _
    c.is_well_formed.ensures.own.shape c.in-Names.command c.name.result c.name.ensures.names c.name.ensures.same known)

pub returns-in-Names-clause-next : goal.returns-in-Names-clause-next
returns-in-Names-clause-next g c = rw c.in-Names.is c.name.ensures.next

pub returns-in-Names-clause-number : goal.returns-in-Names-clause-number
returns-in-Names-clause-number g c = own_stops c.args.number c.name.result c.name.ensures.own

pub returns-in-Names-clause-write : goal.returns-in-Names-clause-write
returns-in-Names-clause-write g c = sym (own_faults c.args.number c.name.result c.name.ensures.own (g.L.SymbolLines.faults c.args.out.now))

pub returns-in-Names-clause-refused : goal.returns-in-Names-clause-refused
returns-in-Names-clause-refused g c = own_refusals c.args.number c.name.result c.name.ensures.own (g.L.SymbolLines.refusals c.args.out.now)

pub returns-in-Plain-clause-turn : goal.returns-in-Plain-clause-turn
returns-in-Plain-clause-turn g c = rw c.in-Plain.is (λ known. c.obey_plain.ensures.turn)

pub returns-in-Plain-clause-quiet : goal.returns-in-Plain-clause-quiet
returns-in-Plain-clause-quiet g c = c.obey_plain.ensures.stays.quiet

pub returns-in-Plain-clause-text : goal.returns-in-Plain-clause-text
returns-in-Plain-clause-text g c = c.obey_plain.ensures.stays.text

pub returns-in-Plain-clause-next : goal.returns-in-Plain-clause-next
returns-in-Plain-clause-next g c =
    rw c.in-Plain.is (λ accepted. stays_next c.args.self.now c.obey_plain.new.self c.obey_plain.ensures.stays (asks.Plain c.in-Plain.command) refl)
