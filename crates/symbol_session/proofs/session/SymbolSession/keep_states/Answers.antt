-- The session's rails stand under the name.
use Rattle.std.proofs.Common.{refl}
use Rattle.session_meaning.specs.Sessions.{IsHeldSession}
use Rattle.symbol_stage.specs.Stages.{ServesIn, columns_on, states_in}
use Rattle.symbol_session.specs.Sessions.{SymbolData}
use Rattle.symbol_session.proofs.KeptLemmas.{all_count, held_saved, keeps_states}
use Rattle.symbol_session.proofs.session.SymbolSession.keep_states.Goals as goal

pub keep_rails-requires : goal.keep_rails-requires
keep_rails-requires c =
    let i = c.self.inside in
    let old : SymbolData = record { session = i.session; names = i.outside.names; kept = i.outside.kept.items; saves = i.saves.items; count = i.count; quiet = i.quiet; text = i.text.text } in
    all_count old c.self.invariant.0

pub invariant_of-self : goal.invariant_of-self
invariant_of-self c =
    let i = c.self.inside in
    let old : SymbolData = record { session = i.session; names = i.outside.names; kept = i.outside.kept.items; saves = i.saves.items; count = i.count; quiet = i.quiet; text = i.text.text } in
    let held : IsHeldSession columns_on states_in ServesIn old.session = rw (← c.self.view_is) at c.is_well_formed.ensures.session in
    let (own, notes) = c.self.invariant in (
      held_saved old own held c.args.name.now c.in_ok-rails.rails.0.items c.in_ok-rails.rails.1.items c.in_ok-rails.ensures
          c.keep_rails.new.saves.items c.keep_rails.new.kept.items c.in-Ok.ensures.saves c.in-Ok.ensures.kept,
      notes,
    )

pub invariant_of-self-2 : goal.invariant_of-self-2
invariant_of-self-2 c = rw (c.in-Err.ensures.saves_err, c.in-Err.ensures.kept_err) c.self.invariant

pub returns-in-Ok-clause-ok : goal.returns-in-Ok-clause-ok
returns-in-Ok-clause-ok c =
    let i = c.self.inside in
    let old : SymbolData = record { session = i.session; names = i.outside.names; kept = i.outside.kept.items; saves = i.saves.items; count = i.count; quiet = i.quiet; text = i.text.text } in
    rw (← c.self.view_is)
    (keeps_states old c.args.name.now c.in_ok-rails.rails.0.items c.in_ok-rails.rails.1.items c.in_ok-rails.ensures c.keep_rails.new.saves.items
    c.keep_rails.new.kept.items c.in-Ok.ensures.saves c.in-Ok.ensures.kept)

pub returns-clause-err : goal.returns-clause-err
returns-clause-err c = rw (← c.self.view_is, c.in-Err.ensures.saves_err, c.in-Err.ensures.kept_err) refl
