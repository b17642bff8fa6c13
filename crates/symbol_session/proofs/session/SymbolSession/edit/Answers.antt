-- The session's edit is done in each column, beside what was missed and kept there, and the session is one still.
use Rattle.std.proofs.Common.{sym, ◌∙◌, arith}
use Rattle.session_meaning.specs.Columns.{column_of}
use Rattle.session_meaning.specs.Sessions.{IsHeldSession}
use Rattle.script_lang.specs.declared.command.Command.TheVariants as family
use Rattle.symbol_stage.specs.Stages.{ServesIn, columns_on, states_in}
use Rattle.symbol_session.proofs.DataLemmas.{held_on, some_columns, stays_on, went}
use Rattle.symbol_session.proofs.SettingLemmas.{edit_asked, edit_counts, edit_grows, quiet_memory}
use Rattle.symbol_session.proofs.session.SymbolSession.edit.Goals as goal

pub invariant_of-self : goal.invariant_of-self
invariant_of-self c =
    let was = column_of states_in c.self.inside.session 0 in
    let is = column_of states_in c.edit_in_all-ended.new.self 0 in
    let held : IsHeldSession columns_on states_in ServesIn c.self.inside.session = rw (← c.self.view_is) at c.is_well_formed.ensures.session in
    let first = c.edit_in_all-ended.ensures.quiet 0 (omega (arith, held.some)) in
    let goes = went _ _ c.self.view_is c.edit_in_all-ended.new.self c.edit_in_all-ended.ensures.columns c.edit_in_all-ended.ensures.kept c.is_well_formed.ensures.constant in (
      held_on _ _ c.self.invariant.0 goes
          (edit_grows was is c.args.edit.now c.edit_in_all-ended.result (held.sound 0 (omega (arith, held.some))).counted
          (c.circuit-circuit.ensures.session.sound 0 (omega (arith, c.circuit-circuit.ensures.session.some))).counted first)
          (c.self.invariant.0.counted ∙ sym (edit_counts was is c.args.edit.now c.edit_in_all-ended.result first)),
      c.self.invariant.1,
    )

pub returns : goal.returns
returns c =
    let some = some_columns _ _ c.self.view_is c.is_well_formed.ensures.session in
    let goes = went _ _ c.self.view_is c.edit_in_all-ended.new.self c.edit_in_all-ended.ensures.columns c.edit_in_all-ended.ensures.kept c.is_well_formed.ensures.constant in
    rw (← c.self.view_is, c.turn_of.ensures)
    (record {
      quiet = edit_asked _ _ c.self.invariant.0 goes some c.args.edit.now c.edit_in_all-ended.result c.edit_in_all-ended.ensures.quiet;
      stays = stays_on _ _ c.self.invariant.0 goes;
      keeps = goes.keeps;
      memory = quiet_memory (column_of states_in c.self.inside.session 0) (column_of states_in c.edit_in_all-ended.new.self 0) (family.Edit c.args.edit.now)
          c.edit_in_all-ended.result (c.edit_in_all-ended.ensures.quiet 0 some);
    })
