-- The session's settings are those of each column, beside what was missed and kept there.
use Rattle.std.proofs.Common.{sym, ap, ◌∙◌, arith}
use Rattle.netlist.specs.Circuits.{CircuitData}
use Rattle.switch_paths.specs.Graphs.{nodes}
use Rattle.session_meaning.specs.Columns.{column_of}
use Rattle.script_lang.specs.declared.command.Command.TheVariants as family
use Rattle.symbol_stage.specs.Stages.{states_in}
use Rattle.symbol_session.specs.Sessions.{SymbolData}
use Rattle.symbol_session.proofs.DataLemmas.{goes_same, held_on, some_columns, stays_on}
use Rattle.symbol_session.proofs.SettingLemmas.{quiet_memory, setup_asked, setup_leaves}
use Rattle.symbol_session.proofs.session.SymbolSession.set_up_alike.Goals as goal

pub invariant_of-self : goal.invariant_of-self
invariant_of-self c =
    let i = c.self.inside in
    let old : SymbolData = record { session = i.session; names = i.outside.names; kept = i.outside.kept.items; saves = i.saves.items; count = i.count; quiet = i.quiet; text = i.text.text } in
    let session = c.set_up_in_all-ended.new.self in
    let leaves = setup_leaves (column_of states_in old.session 0) (column_of states_in session 0) c.args.setup.now c.set_up_in_all-ended.result
    (c.set_up_in_all-ended.ensures.quiet 0 (some_columns _ _ c.self.view_is c.is_well_formed.ensures.session)) in (
      held_on old (record old { session = session }) c.self.invariant.0 (goes_same old session c.set_up_in_all-ended.ensures.stage)
          (omega (arith, ap (λ (circuit : CircuitData). nodes circuit.graph) leaves.0))
          (c.self.invariant.0.counted ∙ sym leaves.1),
      c.self.invariant.1,
    )

pub returns : goal.returns
returns c =
    let i = c.self.inside in
    let old : SymbolData = record { session = i.session; names = i.outside.names; kept = i.outside.kept.items; saves = i.saves.items; count = i.count; quiet = i.quiet; text = i.text.text } in
    let some = some_columns _ old c.self.view_is c.is_well_formed.ensures.session in
    let session = c.set_up_in_all-ended.new.self in
    let goes = goes_same old session c.set_up_in_all-ended.ensures.stage in
    rw (← c.self.view_is, c.turn_of.ensures)
    (record {
      quiet = setup_asked old (record old { session = session }) c.self.invariant.0 goes some c.args.setup.now c.requires.1 c.set_up_in_all-ended.result
          c.set_up_in_all-ended.ensures.quiet;
      stays = stays_on old (record old { session = session }) c.self.invariant.0 goes;
      keeps = goes.keeps;
      memory = quiet_memory (column_of states_in old.session 0) (column_of states_in session 0) (family.Setup c.args.setup.now) c.set_up_in_all-ended.result
          (c.set_up_in_all-ended.ensures.quiet 0 some);
    })
