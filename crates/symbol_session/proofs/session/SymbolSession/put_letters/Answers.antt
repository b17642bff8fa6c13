-- The session's columns are given their letters, beside what was missed and kept there, and the session is one still.
use Rattle.std.proofs.Common.{sym, ap, ◌∙◌, arith}
use Rattle.netlist.specs.Circuits.{CircuitData}
use Rattle.switch_paths.specs.Graphs.{nodes}
use Rattle.session_meaning.specs.Columns.{column_of}
use Rattle.session_meaning.specs.Effects.{assigned}
use Rattle.session_meaning.specs.Sessions.{SessionData}
use Rattle.session_meaning.specs.Truths.{letters_in_column}
use Rattle.symbol_stage.specs.Given.{letter_given}
use Rattle.symbol_stage.specs.Stages.{states_in}
use Rattle.symbol_session.specs.Sessions.{SymbolData, data_of}
use Rattle.symbol_session.proofs.BackLemmas.{given_circuit}
use Rattle.symbol_session.proofs.DataLemmas.{data_on, held_on, some_columns, stays_on, went}
use Rattle.symbol_session.proofs.MovedLemmas.{beside}
use Rattle.symbol_session.proofs.session.SymbolSession.put_letters.Goals as goal

pub give_in_all-requires-clause-within : goal.give_in_all-requires-clause-within
give_in_all-requires-clause-within c = rw (← c.self.view_is) at c.requires.within

pub give_in_all-requires-clause-own : goal.give_in_all-requires-clause-own
give_in_all-requires-clause-own c = rw (← c.self.view_is) at c.requires.own

pub invariant_of-self : goal.invariant_of-self
invariant_of-self c =
    let i = c.self.inside in
    let was = column_of states_in i.session 0 in
    let same = given_circuit was (column_of states_in c.give_in_all.new.self 0) (assigned was.state (letters_in_column letter_given i.session.stage c.args.pairs.now 0))
    (c.give_in_all.ensures.given.each 0 (some_columns _ _ c.self.view_is c.is_well_formed.ensures.session)) in
    let goes = went _ _ c.self.view_is c.give_in_all.new.self c.give_in_all.ensures.columns c.give_in_all.ensures.kept c.is_well_formed.ensures.constant in (
      held_on _ _ c.self.invariant.0 goes (omega (arith, ap (λ (circuit : CircuitData). nodes circuit.graph) same.0)) (c.self.invariant.0.counted ∙ sym same.1),
      c.self.invariant.1,
    )

pub returns : goal.returns
returns c =
    let i = c.self.inside in
    let old : SymbolData = record { session = i.session; names = i.outside.names; kept = i.outside.kept.items; saves = i.saves.items; count = i.count; quiet = i.quiet; text = i.text.text } in
    let goes = went _ _ c.self.view_is c.give_in_all.new.self c.give_in_all.ensures.columns c.give_in_all.ensures.kept c.is_well_formed.ensures.constant in
    rw (← c.self.view_is)
    (record {
      given = λ column inside.
          data_on old (record old { session = c.give_in_all.new.self }) c.self.invariant.0 goes column inside
          ∙ ap (λ (s : SessionData). beside s (data_of old column)) (c.give_in_all.ensures.given.each column inside);
      stays = stays_on _ _ c.self.invariant.0 goes;
      keeps = goes.keeps;
    })
