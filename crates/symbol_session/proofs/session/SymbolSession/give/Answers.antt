-- The session's columns are given their letters by the table, so the script's are by their valuations.
use Rattle.std.proofs.Common.{map, Result, sym, ap, subst, ◌∙◌, arith}
use Rattle.netlist.specs.Circuits.{CircuitData}
use Rattle.switch_paths.specs.Graphs.{nodes}
use Rattle.symbol_meaning.specs.Readings.{plain_under}
use Rattle.symbol_stage.specs.Stages.{columns_on}
use Rattle.symbol_giving.specs.Giving as own_columns
use Rattle.symbol_giving.specs.Letters.{named_in}
use Rattle.script_meaning.specs.declared.turn.Turn.{Turn}
use Rattle.symbol_run.specs.declared.session.SymbolFault.{SymbolFault}
use Rattle.symbol_session.specs.Asked.{GivesAsked, IsKnown, asked_values}
use Rattle.symbol_session.specs.Sessions.{SymbolData, data_of, truths_by, valuations_by}
use Rattle.symbol_session.proofs.DataLemmas.{held_on, some_columns, stays_on, went}
use Rattle.symbol_session.proofs.GivingLemmas.{given_counts, given_own, gives_asked}
use Rattle.symbol_session.proofs.session.SymbolSession.give.Goals as goal

pub give-ended-requires : goal.give-ended-requires
give-ended-requires c = c.self.invariant.0.named

pub invariant_of-self : goal.invariant_of-self
invariant_of-self c =
    let i = c.self.inside in
    let same = given_counts (columns_on i.session.stage) (some_columns _ _ c.self.view_is c.is_well_formed.ensures.session) c.args.kind
    (λ column. map (plain_under (named_in i.session.stage i.outside.names column) i.session.core.circuit i.session.core.vectors) c.args.list.now)
    (own_columns.data_of i.session) (own_columns.data_of c.give-ended.new.session) c.give-ended.result c.give-ended.ensures.gives in
    let goes = went _ _ c.self.view_is c.give-ended.new.session c.give-ended.ensures.columns c.give-ended.ensures.kept c.is_well_formed.ensures.constant in (
      held_on _ _ c.self.invariant.0 goes (omega (arith, ap (λ (circuit : CircuitData). nodes circuit.graph) same.0)) (c.self.invariant.0.counted ∙ sym same.1),
      c.self.invariant.1,
    )

pub returns-clause-gives : goal.returns-clause-gives
returns-clause-gives c =
    let i = c.self.inside in
    let old : SymbolData = record { session = i.session; names = i.outside.names; kept = i.outside.kept.items; saves = i.saves.items; count = i.count; quiet = i.quiet; text = i.text.text } in
    let new : SymbolData = record old { session = c.give-ended.new.session } in
    let asked = asked_values c.args.kind c.args.list.now in
    let goes = went _ _ c.self.view_is c.give-ended.new.session c.give-ended.ensures.columns c.give-ended.ensures.kept c.is_well_formed.ensures.constant in
    subst (λ (d : SymbolData). IsKnown (valuations_by d) d.names.names (truths_by d) asked → GivesAsked (valuations_by d) (data_of d) asked (data_of new) c.turn_given.result)
    c.self.view_is
    (λ known.
    subst (λ (turn : Result Turn SymbolFault). GivesAsked (valuations_by old) (data_of old) asked (data_of new) turn) (sym c.turn_given.ensures)
    (gives_asked old new c.self.invariant.0 goes c.args.kind c.args.list.now known c.args.number c.give-ended.result c.give-ended.ensures.gives))

pub returns-clause-stays : goal.returns-clause-stays
returns-clause-stays c =
    rw (← c.self.view_is) (stays_on _ _ c.self.invariant.0 (went _ _ c.self.view_is c.give-ended.new.session c.give-ended.ensures.columns c.give-ended.ensures.kept c.is_well_formed.ensures.constant))

pub returns-clause-keeps : goal.returns-clause-keeps
returns-clause-keeps c =
    rw (← c.self.view_is) (went _ _ c.self.view_is c.give-ended.new.session c.give-ended.ensures.columns c.give-ended.ensures.kept c.is_well_formed.ensures.constant).keeps

pub returns-clause-own : goal.returns-clause-own
returns-clause-own c = rw c.turn_given.ensures (given_own c.args.number c.give-ended.result)
